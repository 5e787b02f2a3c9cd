use Rattle.std.proofs.Common.{false}
use Rattle.semantics.specs.Net.{input_count}
use Rattle.net_core.proofs.InOrder.{HoldsBefore}
use Rattle.net_core.proofs.Dependents.{IsMarkOf}
use Rattle.net_core.proofs.net.Net.mark_dependents.Given as goal

abbrev pub invariant-loop-i : goal.invariant-loop-i
invariant-loop-i l = HoldsBefore (IsMarkOf (input_count l.self) l.self.tables l.t) false (input_count l.self) l.i-items l.i-index l.marks
