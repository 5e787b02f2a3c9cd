-- What the program of a demonstration says.
use Rattle.std.specs.Prelude.{◌≡◌, ℕ, ◌<◌, ◌≤◌, Bool, true, false, List, Some, None, codes}
use Rattle.semantics.specs.Texts.{Bytes}
use Rattle.outside_semantics.specs.Outside.{FilesTold, SinkTold}
use Rattle.exit_numbers.specs.declared.numbers.TheConstants.{USAGE}
use Rattle.job_semantics.specs.Call.{Call}
use Rattle.job_semantics.specs.Job.{Job, demo, job_of}
use Rattle.job_semantics.specs.Demo.{demo_net}
use Rattle.job_semantics.specs.Demonstration.{demo_stem}
use Rattle.job_semantics.specs.Synthesis.{simplifying}
use Rattle.command_words.specs.Usage.{usage_line}
use Rattle.synth_jobs.specs.Calls.{told_call, IsStill}
use Rattle.synth_jobs.specs.Demo.{demo_aim}
use Rattle.synth_jobs.specs.Work.{WorkSays, work_exit}
use Rattle.synth_jobs.specs.declared.work.Work.{Work}
use Rattle.synth_jobs.specs.declared.work.Work.TheVariants.{Done, Budget, NoMemory, WriteFault}
use Rattle.salsa_demo.specs.declared.demonstration.TheConstants.{MOST_WIDTH}
use Rattle.salsa_demo.specs.declared.demonstration.Answer.{Answer}
use Rattle.salsa_demo.specs.declared.demonstration.Answer.TheVariants.{Usage, Wide, Worked}

-- what words are answered that are no demo job
abbrev pub IsUsage : Call → Answer → Type 0
IsUsage call answer = (answer ≡ Usage) × IsStill call

-- what a demo job is answered for an adder of more bits than this program takes
abbrev pub IsWide : Call → Answer → Type 0
IsWide call answer = (answer ≡ Wide) × IsStill call

-- the answer tells what the work on the generated adder came to
abbrev pub IsWorked : (width bound conflicts : ℕ) → Call → Answer → Type 0
IsWorked width bound conflicts call answer = (work : Work) × (answer ≡ Worked work)
    × WorkSays (simplifying (demo_aim bound conflicts) (demo_net width)) demo_stem call work

-- the answer to a demo job: what the work on the adder comes to, where this program takes so many bits
pub record IsDemoAnswer (width bound conflicts : ℕ) (call : Call) (answer : Answer) : Type 0 where
  pub worked : width ≤ MOST_WIDTH → IsWorked width bound conflicts call answer
  pub wide : MOST_WIDTH < width → IsWide call answer

-- what the answer to a job says
abbrev pub JobAnswer : Job → Call → Answer → Type 0
JobAnswer (demo width bound conflicts) call answer = IsDemoAnswer width bound conflicts call answer
JobAnswer job call answer = IsUsage call answer

-- What a run says, by its words, its answer, and what files and sink told at entry and at exit: words that
-- are no demo job are answered `Usage`, a demo job for an adder of more bits than this program takes `Wide`,
-- and neither touches anything; the answer to any other demo job is what the work on its adder comes to.
pub record DemonstrationSays (words : List Bytes) (call : Call) (answer : Answer) : Type 0 where
  pub no_job : job_of words ≡ None → IsUsage call answer
  pub job : (job : Job) → job_of words ≡ Some job → JobAnswer job call answer

-- so a program says it
abbrev pub program_says : List Bytes → FilesTold → FilesTold → SinkTold → SinkTold → Answer → Type 0
program_says words old new said says answer = DemonstrationSays words (told_call old new said says) answer

-- the exit number of the process
abbrev pub answer_exit : Answer → ℕ
answer_exit Usage = USAGE
answer_exit Wide = USAGE
answer_exit (Worked work) = work_exit work

-- each answer but `Done` has a line on standard error
abbrev pub has_line : Answer → Bool
has_line Usage = true
has_line Wide = true
has_line (Worked (Done spent)) = false
has_line (Worked NoMemory) = true
has_line (Worked (Budget level spent)) = true
has_line (Worked WriteFault) = true

abbrev pub answer_line : Answer → Bytes
answer_line Usage = usage_line
answer_line Wide = codes "this program takes words of at most 4 bits; the whole program takes up to 32"
answer_line (Worked (Done spent)) = codes "done"
answer_line (Worked NoMemory) = codes "out of memory"
answer_line (Worked (Budget level spent)) = codes "conflicts spent"
answer_line (Worked WriteFault) = codes "write fault"
