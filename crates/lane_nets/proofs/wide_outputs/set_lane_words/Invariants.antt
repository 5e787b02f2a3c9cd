use Rattle.std.proofs.Common.{◌≡◌, take}
use Rattle.lane_nets.specs.Wide.{lane_words}
use Rattle.lane_nets.proofs.wide_outputs.set_lane_words.Given as goal

abbrev pub invariant-loop-i : goal.invariant-loop-i
invariant-loop-i l = take l.i l.words ≡ lane_words (take l.i l.wides) l.j
