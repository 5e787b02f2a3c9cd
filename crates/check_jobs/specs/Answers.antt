-- What each answer of a check, a confirm or a trim job says.
use Rattle.std.specs.Prelude.{◌≡◌, Some, Result, Ok, Err}
use Rattle.semantics.specs.Texts.{Bytes}
use Rattle.semantics.specs.Net.{NetValue}
use Rattle.blif_semantics.specs.Reading.{Refusal}
use Rattle.file_reading.specs.declared.unread.Unread.{Unread}
use Rattle.job_semantics.specs.Call.{Call}
use Rattle.job_semantics.specs.declared.claim.Claim.{Claim}
use Rattle.job_semantics.specs.Certificate.{clause_number}
use Rattle.job_semantics.specs.Checking.{CheckEnd, verified, refuted, refused, out_of_memory, not_read}
use Rattle.job_semantics.specs.Checking.{endless}
use Rattle.job_semantics.specs.Trimming as trimming
use Rattle.blif_text.specs.Refusals.{refusal_of}
use Rattle.blif_text.specs.declared.refusal.BlifRefusal.{BlifRefusal}
use Rattle.bundle.specs.declared.verdict.Verdict.{Verdict}
use Rattle.bundle.specs.declared.verdict.Verdict.TheVariants as verdict
use Rattle.job_answers.specs.declared.status.Status.{Status}
use Rattle.job_answers.specs.declared.status.Status.TheVariants.{Done, Verified, Refuted, Text, NoMemory}
use Rattle.job_answers.specs.declared.status.Status.TheVariants.{ReadFault, WriteFault, Endless}
use Rattle.job_answers.specs.Refused.{TellsBlif}
use Rattle.job_answers.specs.Unread.{answer_of_unread}

-- the answer to a check or a confirm job whose IN gives a net
abbrev pub status_of_check : Result Verdict Unread → Status
status_of_check (Ok verdict.Verified) = Verified
status_of_check (Ok (verdict.Refuted number)) = Refuted number
status_of_check (Err reason) = answer_of_unread reason

-- the answer for each end of a check
abbrev pub IsAnswerFor : {claim : Claim} {input stem : Bytes} {call : Call} → CheckEnd claim input stem call
    → Status → Type 0
IsAnswerFor (verified v) status = status ≡ Verified
IsAnswerFor (refuted c r) status = status ≡ Refuted (clause_number c)
IsAnswerFor (refused refusal r) status = TellsBlif refusal status
IsAnswerFor (out_of_memory left) status = status ≡ NoMemory
IsAnswerFor (not_read fault) status = status ≡ ReadFault
IsAnswerFor (endless e) status = status ≡ Endless

-- what a check job comes to, by its answer, or a confirm job, where the claim allows growth
abbrev pub CheckAnswer : Claim → Bytes → Bytes → Call → Status → Type 0
CheckAnswer claim input stem call status = (end : CheckEnd claim input stem call) × IsAnswerFor end status

-- the answer for each end of a trim job
abbrev pub IsTrimAnswer : {claim : Claim} {input stem output : Bytes} {call : Call}
    → trimming.TrimEnd claim input stem output call → Status → Type 0
IsTrimAnswer (trimming.done d) status = status ≡ Done
IsTrimAnswer (trimming.not_written cut) status = status ≡ WriteFault
IsTrimAnswer (trimming.not_verified end not) status = IsAnswerFor end status

-- what a trim job comes to, by its answer
abbrev pub TrimAnswer : Claim → Bytes → Bytes → Bytes → Call → Status → Type 0
TrimAnswer claim input stem output call status
    = (end : trimming.TrimEnd claim input stem output call) × IsTrimAnswer end status

-- the reading is refused for this reason, which is not want of memory
abbrev pub Refuses : Result NetValue Refusal → BlifRefusal → Type 0
Refuses reading reason = (refusal : Refusal) × (reading ≡ Err refusal) × (refusal_of reason ≡ Some refusal)

-- the answer that the reading of IN requires of a check job, unless memory is wanting
abbrev pub IsCheckAnswerTo : Result NetValue Refusal → Status → Type 0
IsCheckAnswerTo reading Verified = (N : NetValue) × (reading ≡ Ok N)
IsCheckAnswerTo reading (Refuted number) = (N : NetValue) × (reading ≡ Ok N)
IsCheckAnswerTo reading Endless = (N : NetValue) × (reading ≡ Ok N)
IsCheckAnswerTo reading (Text reason) = Refuses reading reason
IsCheckAnswerTo reading NoMemory = Unit {0}
IsCheckAnswerTo reading _ = ⊥

-- the answer that the reading of IN requires of a trim job: that of a check, with `Done` in the place of
-- `Verified`
abbrev pub IsTrimAnswerTo : Result NetValue Refusal → Status → Type 0
IsTrimAnswerTo reading Done = (N : NetValue) × (reading ≡ Ok N)
IsTrimAnswerTo reading Verified = ⊥
IsTrimAnswerTo reading status = IsCheckAnswerTo reading status
