-- What the work on nets that were read or generated comes to.
use Rattle.std.specs.Prelude.{ℕ}
use Rattle.semantics.specs.Texts.{Bytes}
use Rattle.exit_numbers.specs.declared.numbers.TheConstants.{DONE, NO_MEMORY, CONFLICTS_SPENT}
use Rattle.exit_numbers.specs.declared.numbers.TheConstants.{WRITE_FAULT}
use Rattle.job_semantics.specs.Call.{Call}
use Rattle.job_semantics.specs.Synthesis.{Request, BundleWritten, BundleCutShort, MaximumSpent}
use Rattle.level_answers.specs.Exceeds.{spent_value}
use Rattle.synth_jobs.specs.Calls.{IsStill}
use Rattle.synth_jobs.specs.declared.work.Work.{Work}
use Rattle.synth_jobs.specs.declared.work.Work.TheVariants.{Done, Budget, NoMemory, WriteFault}
use Rattle.synth_jobs.specs.Spent.{told_query}

-- the bundle was written under the stem, whole or in part, or nothing was touched
abbrev pub WorkSays : Request → Bytes → Call → Work → Type 0
WorkSays r stem call (Done spent) = BundleWritten r stem (told_query spent) call
WorkSays r stem call (Budget level spent)
    = IsStill call × MaximumSpent r (told_query spent) (spent_value level)
WorkSays r stem call NoMemory = IsStill call
WorkSays r stem call WriteFault = BundleCutShort r stem call

-- the exit number of the process
abbrev pub work_exit : Work → ℕ
work_exit (Done spent) = DONE
work_exit NoMemory = NO_MEMORY
work_exit (Budget level spent) = CONFLICTS_SPENT
work_exit WriteFault = WRITE_FAULT
