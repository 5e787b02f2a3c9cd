-- What is told of a flat net is told of the hierarchy.
use Rattle.std.proofs.Common.{◌≡◌, Option, Some, None, Result, Err}
use Rattle.blif_text.specs.declared.refusal.BlifRefusal.{BlifRefusal}
use Rattle.blif_text.specs.declared.refusal.BlifRefusal.TheVariants as b
use Rattle.semantics.specs.Net.{NetValue}
use Rattle.hierarchy_semantics.specs.Refusals as r
use Rattle.hier_flat.specs.Refusals as flat
use Rattle.hier_blif.specs.declared.refusal.HierRefusal.{HierRefusal}
use Rattle.hier_blif.specs.declared.refusal.HierRefusal.TheVariants as h
use Rattle.hier_blif.specs.Refusals.{Tells}

abbrev IsFlatTold : BlifRefusal → Result NetValue r.HierRefusal → Option r.HierRefusal → Type 0
IsFlatTold told answer None = told ≡ b.OutOfMemory
IsFlatTold told answer (Some refusal) = answer ≡ Err refusal

abbrev IsTold : HierRefusal → Result NetValue r.HierRefusal → Option r.HierRefusal → Type 0
IsTold told answer None = told ≡ h.OutOfMemory
IsTold told answer (Some refusal) = answer ≡ Err refusal

pub flat_told : (told : BlifRefusal) (answer : Result NetValue r.HierRefusal) → (told ≡ b.OutOfMemory → ⊥) → flat.Tells told answer → Tells (h.Flat told) answer
flat_told told answer other is = at_refusal (flat.refusal_of told) is
  where
    at_refusal : (o : Option r.HierRefusal) → IsFlatTold told answer o → IsTold (h.Flat told) answer o
    at_refusal None is = absurd (other is)
    at_refusal (Some refusal) is = is
