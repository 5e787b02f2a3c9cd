-- What an answer tells of a refusal, from what the code tells.
use Rattle.std.proofs.Common.{◌≡◌, Option, Some, None, refl, ap}
use Rattle.blif_semantics.specs.Reading as blif
use Rattle.blif_text.specs.Refusals as blif_text
use Rattle.blif_text.specs.declared.refusal.BlifRefusal.{BlifRefusal}
use Rattle.blif_text.specs.declared.refusal.BlifRefusal.TheVariants as b
use Rattle.hierarchy_semantics.specs.Refusals as hierarchy
use Rattle.hier_blif.specs.Refusals as hier_blif
use Rattle.hier_blif.specs.declared.refusal.HierRefusal.{HierRefusal}
use Rattle.hier_blif.specs.declared.refusal.HierRefusal.TheVariants as h
use Rattle.aiger_semantics.specs.CircuitLines as aiger
use Rattle.aiger_text.specs.Refusals as aiger_text
use Rattle.aiger_text.specs.declared.refusal.AigerRefusal.{AigerRefusal}
use Rattle.aiger_text.specs.declared.refusal.AigerRefusal.TheVariants as a
use Rattle.job_answers.specs.declared.status.Status.TheVariants.{Text, Hier, Aiger, NoMemory}
use Rattle.job_answers.specs.Refused.{blif_answer, hier_answer, aiger_answer}

is_some : {R : Type 0} (r : R) (X : Type 0) → ◌≡◌ {A = Option R} (Some r) None → X
is_some r X is = absurd cc

is_none : {R : Type 0} (r : R) (X : Type 0) → ◌≡◌ {A = Option R} None (Some r) → X
is_none r X is = absurd cc

pub blif_told : (told : BlifRefusal) (r : blif.Refusal) → blif_text.refusal_of told ≡ Some r → blif_answer told ≡ Text told
blif_told b.OutOfMemory r is = is_none r _ is
blif_told _ r is = refl

pub blif_untold : (told : BlifRefusal) → blif_text.refusal_of told ≡ None → blif_answer told ≡ NoMemory
blif_untold b.OutOfMemory is = refl
blif_untold _ is = is_some _ _ is

pub hier_told : (told : HierRefusal) (r : hierarchy.HierRefusal) → hier_blif.refusal_of told ≡ Some r → hier_answer told ≡ Hier told
hier_told h.OutOfMemory r is = is_none r _ is
hier_told _ r is = refl

pub hier_untold : (told : HierRefusal) → told ≡ h.OutOfMemory → hier_answer told ≡ NoMemory
hier_untold told is = ap hier_answer is

pub aiger_told : (told : AigerRefusal) (r : aiger.Refusal) → aiger_text.refusal_of told ≡ Some r → aiger_answer told ≡ Aiger told
aiger_told a.OutOfMemory r is = is_none r _ is
aiger_told _ r is = refl

pub aiger_untold : (told : AigerRefusal) → aiger_text.refusal_of told ≡ None → aiger_answer told ≡ NoMemory
aiger_untold a.OutOfMemory is = refl
aiger_untold _ is = is_some _ _ is
