use Rattle.std.proofs.Common.{◌++◌, ◌∷◌, [], length, sym, ap, ◌∙◌, subst}
use Rattle.file_core.specs.Entries.{LacksName, IsFirstAt}
use Rattle.file_core.proofs.Entries.{SetsFile-emptied, SetsFile-push}
use Rattle.file_core.proofs.lists.FileList.make_empty.Goals as goal

pub returns-in-Some-clause-ok : goal.returns-in-Some-clause-ok
returns-in-Some-clause-ok c =
    SetsFile-emptied _ _ _ _ _ _ _
    (subst (λ x. IsFirstAt x c.args.name.now c.in-Some.place) (c.deref.ensures.value ∙ c.self.view_is) c.in-Some.ensures)
    (sym (ap length c.self.view_is) ∙ sym c.self.inside.items.ok.0)
    (c.deref_mut.ensures.value ∙ c.self.view_is)
    c.empty_at.ensures

pub returns-in_ok-push-in-None-clause-ok : goal.returns-in_ok-push-in-None-clause-ok
returns-in_ok-push-in-None-clause-ok c =
    SetsFile-push _ _ _ _ _
    (subst (λ x. LacksName x c.args.name.now) (c.deref.ensures.value ∙ c.self.view_is) c.in-None.ensures)
    (c.len-place.ensures ∙ c.self.inside.items.ok.0 ∙ ap length c.self.view_is)
    (c.in_ok-push-in-None.ensures.items
    ∙ ap (λ x. x ++ (c.in_ok-new-in-None.field-0, c.empty.result) ∷ []) c.self.view_is
    ∙ ap (λ x. c.args.self.now ++ (x, c.empty.result) ∷ []) c.in_ok-new-in-None.ensures
    ∙ ap (λ x. c.args.self.now ++ (c.args.name.now, x) ∷ []) c.empty.ensures)
