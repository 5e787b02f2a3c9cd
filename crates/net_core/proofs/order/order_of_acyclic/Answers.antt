use Rattle.std.proofs.Common.{sym, ◌∙◌}
use Rattle.std.proofs.lemmas.Option.{none-some}
use Rattle.std.proofs.lemmas.Result.{MatchResult-at_err}
use Rattle.std.proofs.Common.{◌≡◌, Some}
use Rattle.semantics.specs.Order.{IsOrderOf}
use Rattle.semantics.specs.Refusals.{first_ungrounded}
use Rattle.semantics.proofs.Refused.{acyclic-grounded}
use Rattle.net_core.proofs.Eval.{acyclic-pins}
use Rattle.net_core.proofs.order.order_of_acyclic.Goals as goal

pub order_of-requires-clause-pins : goal.order_of-requires-clause-pins
order_of-requires-clause-pins c = acyclic-pins c.args.inputs c.args.tables.now c.requires.acyclic

pub unreachable-requires : goal.unreachable-requires
unreachable-requires c =
    let n = c.args.inputs in
    let tables = c.args.tables.now in
    let told = MatchResult-at_err (λ order. IsOrderOf n tables order.items) (λ i. first_ungrounded n tables ≡ Some i) c.in_default.field-0 c.in_default.is c.in_ok-order.ensures in
    none-some c.in_default.field-0 (sym (acyclic-grounded n tables c.requires.acyclic) ∙ told)
