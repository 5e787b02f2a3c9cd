use Rattle.sim_core.proofs.Values.{HaveInputs}
use Rattle.sim_core.proofs.row_steps.set_inputs.Given as goal

abbrev pub invariant-loop-i : goal.invariant-loop-i
invariant-loop-i l = HaveInputs l.patterns.vectors l.words l.rows l.i
