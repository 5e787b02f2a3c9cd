use Rattle.std.proofs.Common.{◌≡◌, map, take, get_or}
use Rattle.aiger_text.proofs.ands.output_literals.Given as goal

abbrev pub invariant-loop-i : goal.invariant-loop-i
invariant-loop-i l = l.outputs ≡ map (λ s. get_or l.literals s 0) (take l.i l.net.outputs)
