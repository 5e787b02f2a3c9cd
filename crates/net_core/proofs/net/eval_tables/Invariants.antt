use Rattle.net_core.proofs.Eval.{HasKnown}
use Rattle.net_core.proofs.net.eval_tables.Given as goal

abbrev pub invariant-loop-i : goal.invariant-loop-i
invariant-loop-i l = HasKnown l.tables l.order l.x l.i-index l.vals
