use Rattle.std.proofs.Common.{◌≡◌, ◌<◌, ◌+◌, map, length, All, Some, ap, sym, subst, ◌∙◌, IfOk, MatchResult}
use Rattle.semantics.specs.Order.{IsOrderOf}
use Rattle.semantics.specs.Refusals.{first_ungrounded}
use Rattle.hier_parts.specs.Users.{user_table, users}
use Rattle.hier_parts.proofs.Grounded.{pins_there}
use Rattle.hier_parts.proofs.users.order_models.Goals as goal

pub order_of-requires-clause-pins : goal.order_of-requires-clause-pins
order_of-requires-clause-pins c =
    let h = c.args.models.now in
    let same : c.deref.result.now ≡ users h = c.deref.ensures.value ∙ c.in_ok-tables.ensures ∙ ap (λ n. map (user_table n) h) c.requires.names in
    subst (λ ts. All (λ t. All (λ s. s < 0 + length ts) t.pins) ts) (sym same) (pins_there h c.requires.known)

pub returns : goal.returns
returns c =
    let h = c.args.models.now in
    let same : c.deref.result.now ≡ users h = c.deref.ensures.value ∙ c.in_ok-tables.ensures ∙ ap (λ n. map (user_table n) h) c.requires.names in
    subst (λ ts. IfOk c.order_of.result (λ found. MatchResult found (λ order. IsOrderOf 0 ts order.items) (λ i. first_ungrounded 0 ts ≡ Some i))) same c.order_of.ensures
