-- What each answer of a run says.
use Rattle.std.specs.Prelude.{◌≡◌, ◌↔◌, ℕ, Option, Some, None, Result, Ok, List}
use Rattle.semantics.specs.Texts.{Bytes}
use Rattle.semantics.specs.Net.{NetValue, input_count, HasSamePorts}
use Rattle.outside_semantics.specs.Outside.{FilesTold}
use Rattle.blif_semantics.specs.Reading.{Refusal}
use Rattle.proof_semantics.specs.declared.constraint.Constraint.{Constraint}
use Rattle.proof_semantics.specs.Conflicts.{IsEnough}
use Rattle.proof_semantics.specs.Queries.{SpentValue}
use Rattle.chain_semantics.specs.Simplification.{IsBeginning}
use Rattle.job_semantics.specs.declared.task.Task.{Task}
use Rattle.job_semantics.specs.Call.{Call}
use Rattle.job_semantics.specs.Job.{Job, synth, against, check, confirm, demo, flat, aag, blif, trim, job_of}
use Rattle.job_semantics.specs.Job.{TaskNames}
use Rattle.job_semantics.specs.SecondNetlist.{AreUntouched, AreBothRead, SecondRefused, HasOtherPorts}
use Rattle.job_semantics.specs.SecondNetlist.{IsAboveBound, IsTaskSpent, TaskDone, TaskWriteFault}
use Rattle.job_semantics.specs.SecondNetlist.{TaskReadFault, IsQuietTask}
use Rattle.job_semantics.specs.Input.{input_reading, IsRefusedFor}
use Rattle.job_semantics.specs.Synthesis.{Request, request_of, simplifying, IsUntouched, InputRefused}
use Rattle.job_semantics.specs.Synthesis.{BundleWritten, BundleCutShort, MaximumSpent, SynthDone, SynthBudget}
use Rattle.job_semantics.specs.Synthesis.{SynthWriteFault, InputReadFault, IsQuietSynth}
use Rattle.job_semantics.specs.Certificate.{checked_claim, confirmed_claim}
use Rattle.job_semantics.specs.Checking.{IsQuietCheck}
use Rattle.job_semantics.specs.Conversion.{IsQuietConversion}
use Rattle.job_semantics.specs.Trimming.{IsQuietTrim}
use Rattle.job_semantics.specs.Demo.{demo_net}
use Rattle.job_semantics.specs.Demonstration.{demo_stem, IsQuietDemo}
use Rattle.blif_text.specs.Refusals.{refusal_of}
use Rattle.blif_text.specs.declared.refusal.BlifRefusal.{BlifRefusal}
use Rattle.job_answers.specs.declared.status.Status.{Status}
use Rattle.job_answers.specs.declared.status.Status.TheVariants.{Done, Usage, Text, NoMemory, Budget, Second}
use Rattle.job_answers.specs.declared.status.Status.TheVariants.{ReadFault, WriteFault, Ports, Over}
use Rattle.job_answers.specs.Refused.{TellsBlif, TellsHier, TellsAiger}
use Rattle.job_answers.specs.Ends.{EndsWell, EndsWellOnBoth}
use Rattle.check_jobs.specs.Answers.{CheckAnswer, TrimAnswer, Refuses, IsCheckAnswerTo, IsTrimAnswerTo}
use Rattle.conversions.specs.Texts.{flat_text, aag_text, netlist_text}
use Rattle.conversions.specs.Answers.{ConversionAnswer, IsConvertedAs}
use Rattle.synth_jobs.specs.Calls.{IsStill}
use Rattle.synth_jobs.specs.Demo.{demo_aim}
use Rattle.synth_jobs.specs.Spent.{told_query}
use Rattle.job_runs.specs.declared.outcome.Outcome.{Outcome}
use Rattle.job_runs.specs.Outcome.{SpentQueries, told_queries, NothingSpent, SpendsAsTold}

-- IN is refused for the reason that is told, which is not want of memory
abbrev pub IsToldRefused : BlifRefusal → Bytes → Call → Type 0
IsToldRefused reason input call =
    (refusal : Refusal) × (refusal_of reason ≡ Some refusal)
    × InputRefused (λ text. IsRefusedFor text refusal) input call

-- what a synth job comes to, by its answer and the queries that are told as spent
abbrev pub SynthAnswerAt : Constraint → Bytes → Bytes → Call → SpentQueries → Status → Type 0
SynthAnswerAt aim input stem call q Done = SynthDone aim input stem q.spent call × (q.level ≡ None)
SynthAnswerAt aim input stem call q Budget
    = (level : SpentValue) × (q.level ≡ Some level) × SynthBudget aim input q.spent level call
SynthAnswerAt aim input stem call q (Text reason) = IsToldRefused reason input call × NothingSpent q
SynthAnswerAt aim input stem call q NoMemory = IsUntouched input call × NothingSpent q
SynthAnswerAt aim input stem call q ReadFault = InputReadFault input call × NothingSpent q
SynthAnswerAt aim input stem call q WriteFault = SynthWriteFault aim input stem call × NothingSpent q
SynthAnswerAt aim input stem call q _ = ⊥

abbrev pub SynthAnswer : Constraint → Bytes → Bytes → Call → Outcome → Type 0
SynthAnswer aim input stem call o = SynthAnswerAt aim input stem call (told_queries o) o.status

-- what a task on nets that were read or generated comes to: nothing was touched, or the bundle was written
-- under the stem, whole or in part
abbrev pub BundleAnswerAt : Request → Bytes → Call → SpentQueries → Status → Type 0
BundleAnswerAt r stem call q Done = BundleWritten r stem q.spent call × (q.level ≡ None)
BundleAnswerAt r stem call q Budget
    = IsStill call × ((level : SpentValue) × (q.level ≡ Some level) × MaximumSpent r q.spent level)
BundleAnswerAt r stem call q NoMemory = IsStill call × NothingSpent q
BundleAnswerAt r stem call q WriteFault = BundleCutShort r stem call × NothingSpent q
BundleAnswerAt r stem call q _ = ⊥

abbrev pub BundleAnswer : Request → Bytes → Call → Outcome → Type 0
BundleAnswer r stem call o = BundleAnswerAt r stem call (told_queries o) o.status

-- what a certify or a refine job comes to, by its answer and the queries that are told as spent
abbrev pub TaskAnswerAt : Task → Constraint → TaskNames → Call → SpentQueries → Status → Type 0
TaskAnswerAt task aim names call q Done = TaskDone task aim names q.spent call × (q.level ≡ None)
TaskAnswerAt task aim names call q Budget =
    (level : SpentValue) × (q.level ≡ Some level)
    × AreBothRead names.input names.second call
    (λ exact begin. IsTaskSpent (request_of task aim exact begin) q.spent level)
TaskAnswerAt task aim names call q (Text reason) = IsToldRefused reason names.input call × NothingSpent q
TaskAnswerAt task aim names call q (Second reason) =
    ((refusal : Refusal) × (refusal_of reason ≡ Some refusal)
    × SecondRefused refusal names.input names.second call) × NothingSpent q
TaskAnswerAt task aim names call q Ports
    = AreBothRead names.input names.second call HasOtherPorts × NothingSpent q
TaskAnswerAt task aim names call q (Over x)
    = AreBothRead names.input names.second call (IsAboveBound aim.metric aim.bound x) × NothingSpent q
TaskAnswerAt task aim names call q NoMemory = AreUntouched names.input names.second call × NothingSpent q
TaskAnswerAt task aim names call q ReadFault = TaskReadFault names.input names.second call × NothingSpent q
TaskAnswerAt task aim names call q WriteFault = TaskWriteFault task aim names call × NothingSpent q
TaskAnswerAt task aim names call q _ = ⊥

abbrev pub TaskAnswer : Task → Constraint → TaskNames → Call → Outcome → Type 0
TaskAnswer task aim names call o = TaskAnswerAt task aim names call (told_queries o) o.status

-- Where `limit` conflicts are enough for `inputs` inputs, a bundle is written and no query is spent.
abbrev pub IsWorkOf : ℕ → ℕ → Option SpentValue → Status → Type 0
IsWorkOf limit inputs spent Done = IsEnough limit inputs → spent ≡ None
IsWorkOf limit inputs spent Budget = ¬ IsEnough limit inputs
IsWorkOf limit inputs spent NoMemory = Unit {0}
IsWorkOf limit inputs spent _ = ⊥

-- the reading gives a net of which P holds
abbrev pub GivesNet : Result NetValue Refusal → (NetValue → Type 0) → Type 0
GivesNet reading P = (N : NetValue) × (reading ≡ Ok N) × P N

-- the answer that the reading of IN asks a synth job for, unless memory is wanting
abbrev pub IsAnswerTo : ℕ → Option SpentValue → Result NetValue Refusal → Status → Type 0
IsAnswerTo limit spent reading Done = GivesNet reading (λ N. IsWorkOf limit (input_count N) spent Done)
IsAnswerTo limit spent reading Budget = GivesNet reading (λ N. IsWorkOf limit (input_count N) spent Budget)
IsAnswerTo limit spent reading (Text reason) = Refuses reading reason
IsAnswerTo limit spent reading NoMemory = Unit {0}
IsAnswerTo limit spent reading _ = ⊥

-- the answer that the reading of IN alone asks a certify or a refine job for, unless memory is wanting: where
-- IN gives a net, the second netlist decides
abbrev pub IsInputAnswerTo : Result NetValue Refusal → Status → Type 0
IsInputAnswerTo reading (Text reason) = Refuses reading reason
IsInputAnswerTo reading NoMemory = Unit {0}
IsInputAnswerTo reading _ = (N : NetValue) × (reading ≡ Ok N)

-- both readings give nets of which P holds
abbrev pub GivesNets : Result NetValue Refusal → Result NetValue Refusal → (NetValue → NetValue → Type 0)
    → Type 0
GivesNets reading second P = GivesNet reading (λ N. GivesNet second (P N))

-- the answer that both readings ask a certify or a refine job for, unless memory is wanting
abbrev pub IsTaskAnswerTo : Constraint → Option SpentValue → Result NetValue Refusal
    → Result NetValue Refusal → Status → Type 0
IsTaskAnswerTo aim spent reading second Done =
    GivesNets reading second
    (λ N S. IsBeginning aim.metric N aim.bound S × IsWorkOf aim.limit (input_count N) spent Done)
IsTaskAnswerTo aim spent reading second Budget =
    GivesNets reading second (λ N S. HasSamePorts N S × IsWorkOf aim.limit (input_count N) spent Budget)
IsTaskAnswerTo aim spent reading second (Text reason) = Refuses reading reason
IsTaskAnswerTo aim spent reading second (Second reason) = GivesNet reading (λ N. Refuses second reason)
IsTaskAnswerTo aim spent reading second Ports = GivesNets reading second HasOtherPorts
IsTaskAnswerTo aim spent reading second (Over x)
    = GivesNets reading second (IsAboveBound aim.metric aim.bound x)
IsTaskAnswerTo aim spent reading second NoMemory = Unit {0}
IsTaskAnswerTo aim spent reading second _ = ⊥

-- the solver was asked nothing
abbrev pub AsksNoQuery : Outcome → Type 0
AsksNoQuery o = NothingSpent (told_queries o)

-- what the answer to a job says
abbrev pub JobAnswer : Job → Call → Outcome → Type 0
JobAnswer (synth aim input stem) call o = SynthAnswer aim input stem call o
JobAnswer (against task aim names) call o = TaskAnswer task aim names call o
JobAnswer (check metric bound input stem) call o
    = CheckAnswer (checked_claim metric bound) input stem call o.status
JobAnswer (confirm metric bound input stem) call o
    = CheckAnswer (confirmed_claim metric bound) input stem call o.status
JobAnswer (demo width bound conflicts) call o
    = BundleAnswer (simplifying (demo_aim bound conflicts) (demo_net width)) demo_stem call o
JobAnswer (flat input output) call o
    = ConversionAnswer flat_text TellsHier input output call o.status × AsksNoQuery o
JobAnswer (aag input output) call o
    = ConversionAnswer aag_text TellsBlif input output call o.status × AsksNoQuery o
JobAnswer (blif input output) call o
    = ConversionAnswer netlist_text TellsAiger input output call o.status × AsksNoQuery o
JobAnswer (trim metric bound input stem output) call o
    = TrimAnswer (checked_claim metric bound) input stem output call o.status × AsksNoQuery o

-- the job is done with files alone: no net is simplified, and no report is put
abbrev pub IsOnFiles : Job → Type 0
IsOnFiles (synth aim input stem) = ⊥
IsOnFiles (against task aim names) = ⊥
IsOnFiles (demo width bound conflicts) = ⊥
IsOnFiles job = Unit {0}

-- What every run says, by its words, its answer, and what files and sink told at entry and at exit. Words
-- that are no job, and no other words, are answered `Usage`. A spent query is told with `Budget` and with
-- `Done` alone, and one on a level of the error exactly with `Budget`. The answer to a job says
-- what the job comes to.
pub record RunSays (words : List Bytes) (call : Call) (o : Outcome) : Type 0 where
  pub usage : (o.status ≡ Usage) ↔ (job_of words ≡ None)
  pub spent : SpendsAsTold o
  pub answer : (job : Job) → job_of words ≡ Some job → JobAnswer job call o

-- no call on the files or the sink that the job needs failed
abbrev pub IsQuietJob : Job → Call → Type 0
IsQuietJob (synth aim input stem) call = IsQuietSynth input stem call
IsQuietJob (against task aim names) call = IsQuietTask names call
IsQuietJob (check metric bound input stem) call = IsQuietCheck (checked_claim metric bound) input stem call
IsQuietJob (confirm metric bound input stem) call
    = IsQuietCheck (confirmed_claim metric bound) input stem call
IsQuietJob (demo width bound conflicts) call = IsQuietDemo call
IsQuietJob (flat input output) call = IsQuietConversion flat_text input output call
IsQuietJob (aag input output) call = IsQuietConversion aag_text input output call
IsQuietJob (blif input output) call = IsQuietConversion netlist_text input output call
IsQuietJob (trim metric bound input stem output) call
    = IsQuietTrim (checked_claim metric bound) input stem output call

-- the job ends without a fault, and as the readings and the conflicts ask, unless memory is wanting
abbrev pub EndsAsAsked : Job → FilesTold → Outcome → Type 0
EndsAsAsked (synth aim input stem) old o
    = EndsWell input_reading (IsAnswerTo aim.limit (told_query o.spent)) input old o.status
EndsAsAsked (against task aim names) old o =
    EndsWellOnBoth input_reading IsInputAnswerTo (IsTaskAnswerTo aim (told_query o.spent)) names old o.status
EndsAsAsked (check metric bound input stem) old o = EndsWell input_reading IsCheckAnswerTo input old o.status
EndsAsAsked (confirm metric bound input stem) old o
    = EndsWell input_reading IsCheckAnswerTo input old o.status
EndsAsAsked (demo width bound conflicts) old o
    = IsWorkOf conflicts (input_count (demo_net width)) (told_query o.spent) o.status
EndsAsAsked (flat input output) old o = EndsWell flat_text (IsConvertedAs TellsHier) input old o.status
EndsAsAsked (aag input output) old o = EndsWell aag_text (IsConvertedAs TellsBlif) input old o.status
EndsAsAsked (blif input output) old o = EndsWell netlist_text (IsConvertedAs TellsAiger) input old o.status
EndsAsAsked (trim metric bound input stem output) old o
    = EndsWell input_reading IsTrimAnswerTo input old o.status
