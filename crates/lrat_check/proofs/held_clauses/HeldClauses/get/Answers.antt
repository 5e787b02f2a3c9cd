use Rattle.std.proofs.Common.{Some, ap, subst, sym, ◌∙◌}
use Rattle.std.specs.FinMap as map
use Rattle.lrat_check.specs.declared.held_clauses.Entry.{Entry}
use Rattle.lrat_check.specs.HeldEntries.{HeldValue, IsPlaceOf}
use Rattle.lrat_check.proofs.HeldMaps.{get_found, get_none}
use Rattle.lrat_check.proofs.held_clauses.HeldClauses.get.Goals as goal

pub returns-in-Some : goal.returns-in-Some
returns-in-Some c =
    let es = c.self.inside.entries.items in
    let id = c.args.id in
    let at : IsPlaceOf es id (Some c.in-Some.place) = subst (IsPlaceOf es id) c.in-Some.is (subst (λ e. IsPlaceOf e id c.place_of.result) c.deref.ensures.value c.place_of.ensures) in
    c.as_ref.ensures.value ∙ ap (λ (e : Entry). e.clause) c.index.ensures ∙ sym (get_found es c.self.inside.last id c.in-Some.place c.index.result.now c.self.invariant at)
    ∙ ap (λ (v : HeldValue). map.get v.held id) c.self.view_is

pub returns-in-None : goal.returns-in-None
returns-in-None c =
    let es = c.self.inside.entries.items in
    let id = c.args.id in
    let at = subst (λ e. IsPlaceOf e id c.place_of.result) c.deref.ensures.value c.place_of.ensures in
    sym (get_none es id (subst (IsPlaceOf es id) c.in-None.is at)) ∙ ap (λ (v : HeldValue). map.get v.held id) c.self.view_is
