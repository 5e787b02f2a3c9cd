use Rattle.std.proofs.Common.{◌≡◌, Ok, ap, sym, subst, ◌∙◌}
use Rattle.hierarchy_semantics.specs.Models.{hierarchy_of}
use Rattle.hierarchy_semantics.specs.Flat.{flattened}
use Rattle.hier_flat.specs.Hierarchies.{IsReading}
use Rattle.hier_flat.specs.Refusals as flat
use Rattle.hier_blif.proofs.hier.Hier.flatten.Goals as goal

pub flatten_models-requires : goal.flatten_models-requires
flatten_models-requires c =
    let same = c.deref-2.ensures.value ∙ c.in_ok-models.ensures ∙ ap hierarchy_of (c.deref.ensures.value ∙ c.in_ok-statements.ensures ∙ c.as_slice.ensures) in
    subst IsReading (sym same) c.self.invariant

pub returns-in-Ok-clause-ok : goal.returns-in-Ok-clause-ok
returns-in-Ok-clause-ok c =
    let same = c.deref-2.ensures.value ∙ c.in_ok-models.ensures ∙ ap hierarchy_of (c.deref.ensures.value ∙ c.in_ok-statements.ensures ∙ c.as_slice.ensures) ∙ c.self.view_is in
    subst (λ h. flattened h ≡ Ok c.in-Ok.net) same c.in-Ok.ensures.ok

pub returns-clause-err : goal.returns-clause-err
returns-clause-err c =
    let same = c.deref-2.ensures.value ∙ c.in_ok-models.ensures ∙ ap hierarchy_of (c.deref.ensures.value ∙ c.in_ok-statements.ensures ∙ c.as_slice.ensures) ∙ c.self.view_is in
    c.flat_refusal.ensures (flattened c.args.self.now) (subst (λ h. flat.Tells c.in-Err.told (flattened h)) same c.in-Err.ensures.err)
