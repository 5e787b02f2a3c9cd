use Rattle.std.proofs.Common.{◌≡◌, Some, sym, ◌∙◌}
use Rattle.std.proofs.lemmas.Option.{none-some}
use Rattle.std.proofs.lemmas.Result.{MatchResult-at_err}
use Rattle.semantics.specs.Refusals.{first_ungrounded}
use Rattle.hier_parts.specs.Users.{users, IsModelOrder}
use Rattle.hier_parts.proofs.Grounded.{one_recursive}
use Rattle.hier_flat.proofs.ModelOrders.{reading_right, reading_named}
use Rattle.hier_flat.proofs.orders.model_order.Goals as goal

pub order_models-requires-clause-named : goal.order_models-requires-clause-named
order_models-requires-clause-named c = reading_named c.args.models.now c.requires.reading

pub order_models-requires-clause-known : goal.order_models-requires-clause-known
order_models-requires-clause-known c = (reading_right c.args.models.now c.requires.reading).known

pub unreachable-requires : goal.unreachable-requires
unreachable-requires c =
    let h = c.args.models.now in
    let told = MatchResult-at_err (λ order. IsModelOrder h order.items) (λ i. first_ungrounded 0 (users h) ≡ Some i) c.in_default.field-0 c.in_default.is c.in_ok-order.ensures in
    let right = reading_right h c.requires.reading in
    let one = one_recursive h c.in_default.field-0 right.known told in
    none-some _ (sym right.grounded ∙ one.is)
