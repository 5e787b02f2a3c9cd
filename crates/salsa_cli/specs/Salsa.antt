-- What the program says of a run.
use Rattle.std.specs.Prelude.{◌≡◌, Bool, true, false, List}
use Rattle.semantics.specs.Texts.{Bytes}
use Rattle.outside_semantics.specs.Outside.{FilesTold, SinkTold}
use Rattle.job_semantics.specs.Call.{Call}
use Rattle.job_answers.specs.declared.status.Status.{Status}
use Rattle.job_answers.specs.declared.status.Status.TheVariants.{Done, Usage}
use Rattle.synth_jobs.specs.Calls.{told_call, IsStill}
use Rattle.job_runs.specs.Run.{RunSays}
use Rattle.job_runs.specs.declared.outcome.Outcome.{Outcome}

-- The status is that of a run on these words, over files and a sink that told this at entry and at exit;
-- words that are no job touch nothing.
pub record SalsaSays (words : List Bytes) (call : Call) (status : Status) : Type 0 where
  pub run : (o : Outcome) × (status ≡ o.status) × RunSays words call o
  pub untouched : status ≡ Usage → IsStill call

-- so a program says it
abbrev pub program_says : List Bytes → FilesTold → FilesTold → SinkTold → SinkTold → Status → Type 0
program_says words old new said says status = SalsaSays words (told_call old new said says) status

-- each answer but `Done` has a line on standard error
abbrev pub has_line : Status → Bool
has_line Done = false
has_line _ = true
