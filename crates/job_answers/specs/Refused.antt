-- Which answer tells why IN is refused.
use Rattle.std.specs.Prelude.{◌≡◌, Some}
use Rattle.blif_semantics.specs.Reading as blif
use Rattle.blif_text.specs.Refusals as blif_text
use Rattle.blif_text.specs.declared.refusal.BlifRefusal.{BlifRefusal}
use Rattle.blif_text.specs.declared.refusal.BlifRefusal.TheVariants as b
use Rattle.hierarchy_semantics.specs.Refusals as hierarchy
use Rattle.hier_blif.specs.Refusals as hier_blif
use Rattle.hier_blif.specs.declared.refusal.HierRefusal.{HierRefusal}
use Rattle.hier_blif.specs.declared.refusal.HierRefusal.TheVariants as h
use Rattle.aiger_semantics.specs.CircuitLines as aiger
use Rattle.aiger_text.specs.Refusals as aiger_text
use Rattle.aiger_text.specs.declared.refusal.AigerRefusal.{AigerRefusal}
use Rattle.aiger_text.specs.declared.refusal.AigerRefusal.TheVariants as a
use Rattle.job_answers.specs.declared.status.Status.{Status}
use Rattle.job_answers.specs.declared.status.Status.TheVariants.{Text, Hier, Aiger, NoMemory}

-- want of memory is told as `NoMemory`
abbrev pub blif_answer : BlifRefusal → Status
blif_answer b.OutOfMemory = NoMemory
blif_answer reason = Text reason

abbrev pub hier_answer : HierRefusal → Status
hier_answer h.OutOfMemory = NoMemory
hier_answer reason = Hier reason

abbrev pub aiger_answer : AigerRefusal → Status
aiger_answer a.OutOfMemory = NoMemory
aiger_answer reason = Aiger reason

-- the answer tells this refusal
abbrev pub TellsBlif : blif.Refusal → Status → Type 0
TellsBlif refusal answer = (reason : BlifRefusal) × (blif_text.refusal_of reason ≡ Some refusal)
    × (answer ≡ Text reason)

abbrev pub TellsHier : hierarchy.HierRefusal → Status → Type 0
TellsHier refusal answer = (reason : HierRefusal) × (hier_blif.refusal_of reason ≡ Some refusal)
    × (answer ≡ Hier reason)

abbrev pub TellsAiger : aiger.Refusal → Status → Type 0
TellsAiger refusal answer = (reason : AigerRefusal) × (aiger_text.refusal_of reason ≡ Some refusal)
    × (answer ≡ Aiger reason)

-- the answer tells a refusal of IN
abbrev pub IsRefusal : Status → Type 0
IsRefusal (Text reason) = Unit {0}
IsRefusal (Hier reason) = Unit {0}
IsRefusal (Aiger reason) = Unit {0}
IsRefusal _ = ⊥
