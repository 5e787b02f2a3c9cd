-- What the trimming of a log and the writing of OUT come to.
use Rattle.std.specs.Prelude.{◌≡◌, List, [], ◌∷◌}
use Rattle.semantics.specs.Texts.{Bytes}
use Rattle.outside_semantics.specs.Outside.{FilesTold}
use Rattle.outside_semantics.specs.WrittenFiles.{File, FilesWritten, FilesCutShort}
use Rattle.proof_semantics.specs.Clauses.{Clause}
use Rattle.proof_semantics.specs.Logs.{LogItem, Refutes}
use Rattle.proof_semantics.specs.Lrat.{lrat_text}
use Rattle.trim_semantics.specs.Trimmed.{IsTrimmed}
use Rattle.job_semantics.specs.Conversion.{output_file}
use Rattle.job_answers.specs.declared.status.Status.{Status}
use Rattle.job_answers.specs.declared.status.Status.TheVariants.{Done, NoMemory, WriteFault}

-- the log is trimmed to the short one, which refutes the clauses too
pub record IsTrimmedTo (clauses : List Clause) (log short : List LogItem) : Type 0 where
  pub trimmed : IsTrimmed log short
  pub refutes : Refutes clauses short

abbrev pub log_file : Bytes → List LogItem → File
log_file output log = output_file output (lrat_text log)

abbrev pub TrimmedAnswer : List Clause → List LogItem → Bytes → FilesTold → FilesTold → Status → Type 0
TrimmedAnswer clauses log output old new Done = (short : List LogItem) × IsTrimmedTo clauses log short
    × FilesWritten old new (log_file output short ∷ [])
TrimmedAnswer clauses log output old new WriteFault = (short : List LogItem) × IsTrimmedTo clauses log short
    × FilesCutShort old new (log_file output short ∷ [])
TrimmedAnswer clauses log output old new NoMemory = new ≡ old
TrimmedAnswer clauses log output old new _ = ⊥
