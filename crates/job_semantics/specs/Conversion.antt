-- What a job that turns the text IN into the text OUT comes to, by its answer. `reading` gives the text that
-- OUT is to hold, or why IN is refused. Source: this tool's own table of commands.
use Rattle.std.specs.Prelude.{◌≡◌, IsTrue, [], ◌∷◌, Result, Ok, Err}
use Rattle.semantics.specs.Texts.{Bytes}
use Rattle.outside_semantics.specs.WrittenFiles.{File, FilesWritten, FilesCutShort}
use Rattle.job_semantics.specs.Synthesis.{OfInput, IsUntouched, InputRefused, InputReadFault, AreFilesSteady}
use Rattle.job_semantics.specs.Synthesis.{IsQuiet}
use Rattle.job_semantics.specs.Call.{Call}

-- OUT with its text
abbrev pub output_file : Bytes → Bytes → File
output_file output text = record { name = output; text = text }

-- OUT holds the text, and every other held name keeps its bytes; nothing was put
pub record OutputWritten (output text : Bytes) (call : Call) : Type 0 where
  pub files : FilesWritten call.old call.new (output_file output text ∷ [])
  pub sink : call.says ≡ call.said

-- A fault came while OUT was written, and OUT is not steady: it is untouched, or empty, or holds a first part
-- of the text, and every other held name keeps its bytes; nothing was put.
pub record OutputCutShort (output text : Bytes) (call : Call) : Type 0 where
  pub files : FilesCutShort call.old call.new (output_file output text ∷ [])
  pub sink : call.says ≡ call.said

-- IN is accepted where the reading gives a text
abbrev pub IsGiven : {R : Type 0} → (Bytes → Result Bytes R) → Bytes → Type 0
IsGiven reading bytes = (text : Bytes) × (reading bytes ≡ Ok text)

-- done: the text of IN was written
pub record Converted {R : Type 0} (reading : Bytes → Result Bytes R) (input output : Bytes)
    (call : Call) : Type 0 where
  pub text : Bytes
  pub read : OfInput call input (λ bytes. reading bytes ≡ Ok text)
  pub written : OutputWritten output text call

-- the text of IN could not be written
pub record ConversionCutShort {R : Type 0} (reading : Bytes → Result Bytes R) (input output : Bytes)
    (call : Call) : Type 0 where
  pub text : Bytes
  pub read : OfInput call input (λ bytes. reading bytes ≡ Ok text)
  pub left : OutputCutShort output text call

-- The answers of a conversion, each with what it says.
pub data ConversionEnd {R : Type 0} (reading : Bytes → Result Bytes R) (input output : Bytes)
    (call : Call) : Type 0 where
  done : Converted reading input output call
      → ConversionEnd reading input output call
  refused : (refusal : R) → InputRefused (λ bytes. reading bytes ≡ Err refusal) input call
      → ConversionEnd reading input output call
  out_of_memory : IsUntouched input call → ConversionEnd reading input output call
  not_read : InputReadFault input call → ConversionEnd reading input output call
  not_written : ConversionCutShort reading input output call
      → ConversionEnd reading input output call

-- a quiet conversion (`IsQuiet`): it needs IN for reading and, where IN is accepted, OUT for writing
abbrev pub IsQuietConversion : {R : Type 0} → (Bytes → Result Bytes R) → Bytes → Bytes → Call → Type 0
IsQuietConversion reading input output call =
    IsQuiet (AreFilesSteady (IsGiven reading) (IsTrue (call.old.steady_write output)) call input) call
