use Rattle.std.proofs.Common.{◌≡◌, [], map, take, get_or}
use Rattle.lane_nets.proofs.wide_blocks.set_signals.Given as goal

abbrev pub invariant-loop-i : goal.invariant-loop-i
invariant-loop-i l = take l.i l.outputs ≡ map (λ s. get_or l.wides s []) (take l.i l.net.outputs)
