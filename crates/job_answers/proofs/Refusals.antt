-- What an answer that tells a refusal is, and is not.
use Rattle.std.proofs.Common.{◌≢◌, sym, subst}
use Rattle.blif_semantics.specs.Reading as blif
use Rattle.hierarchy_semantics.specs.Refusals as hierarchy
use Rattle.aiger_semantics.specs.CircuitLines as aiger
use Rattle.job_answers.specs.declared.status.Status.{Status}
use Rattle.job_answers.specs.declared.status.Status.TheVariants.{Usage, Budget, ReadFault, WriteFault}
use Rattle.job_answers.specs.Refused.{TellsBlif, TellsHier, TellsAiger, IsRefusal}

pub refusal_is_no_read_fault : (answer : Status) → IsRefusal answer → answer ≢ ReadFault
refusal_is_no_read_fault answer is fault = subst IsRefusal fault is

pub refusal_is_no_write_fault : (answer : Status) → IsRefusal answer → answer ≢ WriteFault
refusal_is_no_write_fault answer is fault = subst IsRefusal fault is

-- the answer of a job that asks the solver nothing
abbrev pub AsksNothing : Status → Type 0
AsksNothing Usage = ⊥
AsksNothing Budget = ⊥
AsksNothing _ = Unit {0}

pub refusal_asks_nothing : (answer : Status) → IsRefusal answer → AsksNothing answer
refusal_asks_nothing Usage is = is
refusal_asks_nothing Budget is = is
refusal_asks_nothing _ is = tt

pub no_usage_asked : (answer : Status) → AsksNothing answer → answer ≢ Usage
no_usage_asked answer is usage = subst AsksNothing usage is

pub blif_is_refusal : (refusal : blif.Refusal) (answer : Status) → TellsBlif refusal answer → IsRefusal answer
blif_is_refusal refusal answer tells = subst IsRefusal (sym tells.2) tt

pub hier_is_refusal : (refusal : hierarchy.HierRefusal) (answer : Status) → TellsHier refusal answer → IsRefusal answer
hier_is_refusal refusal answer tells = subst IsRefusal (sym tells.2) tt

pub aiger_is_refusal : (refusal : aiger.Refusal) (answer : Status) → TellsAiger refusal answer → IsRefusal answer
aiger_is_refusal refusal answer tells = subst IsRefusal (sym tells.2) tt
