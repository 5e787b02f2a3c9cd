-- The answer for each end of a conversion.
use Rattle.std.specs.Prelude.{◌≡◌, ◌⊎◌, Result, Ok, Err}
use Rattle.semantics.specs.Texts.{Bytes}
use Rattle.job_semantics.specs.Call.{Call}
use Rattle.job_semantics.specs.Conversion.{ConversionEnd, done, refused, out_of_memory, not_read, not_written}
use Rattle.job_answers.specs.declared.status.Status.{Status}
use Rattle.job_answers.specs.declared.status.Status.TheVariants.{Done, NoMemory, ReadFault, WriteFault}

-- the answer for what the writing of OUT came to
abbrev pub answer_of_writing : {T E : Type 0} → Result T E → Status
answer_of_writing (Ok whole) = Done
answer_of_writing (Err fault) = WriteFault

-- `Tells` says which answer tells a refusal
abbrev pub IsConversionAnswer : {R : Type 0} {reading : Bytes → Result Bytes R} {input output : Bytes}
    {call : Call} → (R → Status → Type 0) → ConversionEnd reading input output call → Status → Type 0
IsConversionAnswer Tells (done d) answer = answer ≡ Done
IsConversionAnswer Tells (refused refusal r) answer = Tells refusal answer
IsConversionAnswer Tells (out_of_memory left) answer = answer ≡ NoMemory
IsConversionAnswer Tells (not_read fault) answer = answer ≡ ReadFault
IsConversionAnswer Tells (not_written cut) answer = answer ≡ WriteFault

-- what a conversion comes to, by its answer
abbrev pub ConversionAnswer : {R : Type 0} → (Bytes → Result Bytes R) → (R → Status → Type 0) → Bytes → Bytes
    → Call → Status → Type 0
ConversionAnswer reading Tells input output call answer =
    (end : ConversionEnd reading input output call) × IsConversionAnswer Tells end answer

-- the answer that the reading of IN requires of a conversion
abbrev pub IsConvertedAs : {R : Type 0} → (R → Status → Type 0) → Result Bytes R → Status → Type 0
IsConvertedAs Tells (Ok text) answer = (answer ≡ Done) ⊎ (answer ≡ NoMemory)
IsConvertedAs Tells (Err refusal) answer = Tells refusal answer ⊎ (answer ≡ NoMemory)
