use Rattle.std.proofs.Common.{None, Some, ap, subst, sym, ◌∙◌}
use Rattle.std.specs.FinMap as map
use Rattle.proof_semantics.specs.Logs.{Held}
use Rattle.lrat_check.specs.declared.held_clauses.Entry.{Entry}
use Rattle.lrat_check.specs.HeldEntries.{HeldValue, held_in, IsPlaceOf, AreInOrder}
use Rattle.lrat_check.proofs.HeldMaps.{removed_none, order_without, removed_found}
use Rattle.lrat_check.proofs.held_clauses.HeldClauses.remove.Goals as goal

no_entry : Entry
no_entry = record { id = 0; clause = None }

pub invariant_of-self : goal.invariant_of-self
invariant_of-self c =
    let es = c.self.inside.entries.items in
    let id = c.args.id in
    let at : IsPlaceOf es id (Some c.in-Some.place) = subst (IsPlaceOf es id) c.in-Some.is (subst (λ e. IsPlaceOf e id c.place_of.result) c.deref.ensures.value c.place_of.ensures) in
    subst (λ e. AreInOrder e c.self.inside.last) (sym (c.end_at.ensures no_entry)) (order_without es c.self.inside.last id c.in-Some.place no_entry c.self.invariant at)

pub returns-in-Some : goal.returns-in-Some
returns-in-Some c =
    let es = c.self.inside.entries.items in
    let id = c.args.id in
    let value : Held → HeldValue = λ h. record { held = h; last = c.self.inside.last } in
    let at : IsPlaceOf es id (Some c.in-Some.place) = subst (IsPlaceOf es id) c.in-Some.is (subst (λ e. IsPlaceOf e id c.place_of.result) c.deref.ensures.value c.place_of.ensures) in
    ap (λ e. value (held_in e)) (c.end_at.ensures no_entry) ∙ ap value (removed_found es c.self.inside.last id c.in-Some.place no_entry c.self.invariant at)
    ∙ ap (λ (v : HeldValue). record { held = map.remove v.held id; last = v.last }) c.self.view_is

pub returns-in-None : goal.returns-in-None
returns-in-None c =
    let es = c.self.inside.entries.items in
    let id = c.args.id in
    let value : Held → HeldValue = λ h. record { held = h; last = c.self.inside.last } in
    let at = subst (IsPlaceOf es id) c.in-None.is (subst (λ e. IsPlaceOf e id c.place_of.result) c.deref.ensures.value c.place_of.ensures) in
    sym c.self.view_is ∙ ap value (removed_none es id at) ∙ ap (λ (v : HeldValue). record { held = map.remove v.held id; last = v.last }) c.self.view_is
