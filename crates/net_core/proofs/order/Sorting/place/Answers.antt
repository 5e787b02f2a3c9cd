use Rattle.std.proofs.Common.{◌<◌, List, ℕ, Bool, true, length, set, sym, subst, ap, ◌∙◌, arith}
use Rattle.std.proofs.lemmas.List.{length-set, length-map}
use Rattle.net_core.specs.Sorting.{IsMarked}
use Rattle.net_core.proofs.Sorting.{IsMarked-push}
use Rattle.net_core.proofs.order.Sorting.place.Goals as goal

pub invariant_of-self-2 : goal.invariant_of-self-2
invariant_of-self-2 c =
    let placed : List Bool = c.self.inside.placed.items in
    let within : c.args.i < length placed = omega (arith, c.requires, ap (λ S. length S.waiters) c.self.view_is, length-map c.self.inside.waiters.items (λ v. v.items), c.self.invariant.1) in (
      subst (λ (order : List ℕ). IsMarked order (set placed c.args.i true)) (sym c.in_ok-push.ensures.items) (IsMarked-push c.self.inside.order.items placed c.args.i within c.self.invariant.0),
      length-set placed c.args.i true ∙ c.self.invariant.1,
      c.self.invariant.2,
    )
