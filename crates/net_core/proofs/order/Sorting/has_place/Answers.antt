use Rattle.std.proofs.Common.{◌<◌, ◌↔◌, IsTrue, List, ℕ, length, ap, subst, arith}
use Rattle.std.specs.List.{Contains}
use Rattle.std.proofs.lemmas.List.{length-map}
use Rattle.net_core.proofs.Sorting.{marked_at}
use Rattle.net_core.proofs.order.Sorting.has_place.Goals as goal

pub returns : goal.returns
returns c =
    let within : c.args.i < length c.self.inside.placed.items
    = omega (arith, c.requires, ap (λ S. length S.waiters) c.self.view_is, length-map c.self.inside.waiters.items (λ v. v.items), c.self.invariant.1) in
    subst (λ (order : List ℕ). IsTrue c.index.result.now ↔ Contains order c.args.i) (ap (λ S. S.order) c.self.view_is)
    (marked_at c.self.inside.order.items c.self.inside.placed.items c.args.i c.index.result.now c.self.invariant.0 within c.index.ensures)
