-- What the reading of a second netlist and its judging come to.
use Rattle.std.specs.Prelude.{◌≡◌, Some}
use Rattle.semantics.specs.Texts.{Bytes}
use Rattle.blif_semantics.specs.Reading.{Refusal}
use Rattle.chain_semantics.specs.Simplification.{IsBeginning}
use Rattle.file_reading.specs.Reading.{FileFailed, FilesStay}
use Rattle.outside_semantics.specs.Outside.{FilesTold}
use Rattle.proof_semantics.specs.Queries.{SpentValue}
use Rattle.job_semantics.specs.Call.{Call}
use Rattle.job_semantics.specs.Synthesis.{Request}
use Rattle.job_semantics.specs.SecondNetlist.{HasOtherPorts, IsAboveBound, IsTaskSpent}
use Rattle.blif_text.specs.Refusals.{refusal_of}
use Rattle.conversions.specs.Input.{TextRefused}
use Rattle.job_answers.specs.declared.status.Status.{Status}
use Rattle.job_answers.specs.declared.status.Status.TheVariants.{NoMemory, Budget, ReadFault}
use Rattle.job_answers.specs.declared.status.Status.TheVariants.{Second, Ports, Over}
use Rattle.synth_jobs.specs.Calls.{IsStill}
use Rattle.job_runs.specs.declared.outcome.Outcome.{Outcome}
use Rattle.job_runs.specs.Outcome.{SpentQueries, told_queries, NothingSpent}
use Rattle.job_runs.specs.Run.{BundleAnswerAt}

-- the answer where the second netlist gives no net
abbrev pub SecondUnread : FilesTold → FilesTold → Bytes → Status → Type 0
SecondUnread old new name (Second reason) = (refusal : Refusal) × (refusal_of reason ≡ Some refusal)
    × TextRefused refusal old new name
SecondUnread old new name ReadFault = FileFailed old new name
SecondUnread old new name NoMemory = FilesStay old new name
SecondUnread old new name _ = ⊥

-- what the judging of a second net comes to, and the task where the net keeps the bound
abbrev pub JudgedAnswerAt : Request → Bytes → Call → SpentQueries → Status → Type 0
JudgedAnswerAt r stem call q Ports = IsStill call × (HasOtherPorts r.exact r.begin × NothingSpent q)
JudgedAnswerAt r stem call q (Over x)
    = IsStill call × (IsAboveBound r.aim.metric r.aim.bound x r.exact r.begin × NothingSpent q)
JudgedAnswerAt r stem call q Budget
    = IsStill call × ((level : SpentValue) × (q.level ≡ Some level) × IsTaskSpent r q.spent level)
JudgedAnswerAt r stem call q NoMemory = IsStill call × NothingSpent q
JudgedAnswerAt r stem call q status = IsBeginning r.aim.metric r.exact r.aim.bound r.begin
    × BundleAnswerAt r stem call q status

abbrev pub JudgedAnswer : Request → Bytes → Call → Outcome → Type 0
JudgedAnswer r stem call o = JudgedAnswerAt r stem call (told_queries o) o.status
