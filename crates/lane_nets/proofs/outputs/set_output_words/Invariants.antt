use Rattle.std.proofs.Common.{◌≡◌, map, take, slice_index}
use Rattle.lane_nets.proofs.outputs.set_output_words.Given as goal

abbrev pub invariant-loop-i : goal.invariant-loop-i
invariant-loop-i l = take l.i l.outputs ≡ map (slice_index l.words) (take l.i l.net.outputs)
