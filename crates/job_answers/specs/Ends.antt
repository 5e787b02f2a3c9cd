-- How a run ends that had no fault.
use Rattle.std.specs.Prelude.{◌≢◌}
use Rattle.semantics.specs.Texts.{Bytes}
use Rattle.outside_semantics.specs.Outside.{FilesTold, bytes_of}
use Rattle.job_semantics.specs.Synthesis.{WhereHeld}
use Rattle.job_semantics.specs.SecondNetlist.{WhereBothHeld}
use Rattle.job_semantics.specs.Job.{TaskNames}
use Rattle.job_answers.specs.declared.status.Status.{Status}
use Rattle.job_answers.specs.declared.status.Status.TheVariants.{ReadFault, WriteFault}

-- the run ends without a fault; and where IN is held at entry, the run ends as P requires by the reading of
-- IN
pub record EndsWell {X : Type 0} (reading : Bytes → X) (P : X → Status → Type 0) (input : Bytes)
    (old : FilesTold) (answer : Status) : Type 0 where
  pub read : answer ≢ ReadFault
  pub written : answer ≢ WriteFault
  pub answers : WhereHeld old input (λ a. P (reading (bytes_of a input)) answer)

-- the run of a job on two netlists ends without a fault; where IN is held at entry, it ends as P requires by
-- the reading of IN, and where both are held, as Q requires by both readings
pub record EndsWellOnBoth {X : Type 0} (reading : Bytes → X) (P : X → Status → Type 0)
    (Q : X → X → Status → Type 0) (names : TaskNames) (old : FilesTold) (answer : Status) : Type 0 where
  pub read : answer ≢ ReadFault
  pub written : answer ≢ WriteFault
  pub input_answers : WhereHeld old names.input (λ a. P (reading (bytes_of a names.input)) answer)
  pub answers : WhereBothHeld old names.input names.second
      (λ a. Q (reading (bytes_of a names.input)) (reading (bytes_of a names.second)) answer)
