-- What an answer tells of spent queries.
use Rattle.std.specs.Prelude.{◌≡◌, Option, Some, None}
use Rattle.proof_semantics.specs.Queries.{SpentValue}
use Rattle.synth_jobs.specs.declared.work.Work.{Work}
use Rattle.synth_jobs.specs.declared.work.Work.TheVariants as work
use Rattle.synth_jobs.specs.Spent.{told_query}
use Rattle.job_semantics.specs.Headline.{Answered}
use Rattle.job_answers.specs.declared.status.Status.{Status}
use Rattle.job_answers.specs.declared.status.Status.TheVariants.{Done, Verified, Budget, NoMemory, WriteFault}
use Rattle.job_runs.specs.declared.outcome.Outcome.{Outcome}

-- the queries that were spent: that of the search along the chain, and that on a level of the error
pub record SpentQueries : Type 0 where
  pub spent : Option SpentValue
  pub level : Option SpentValue

-- those that an answer tells
abbrev pub told_queries : Outcome → SpentQueries
told_queries o = record { spent = told_query o.spent; level = told_query o.level }

-- no query was spent
abbrev pub NothingSpent : SpentQueries → Type 0
NothingSpent q = (q.spent ≡ None) × (q.level ≡ None)

-- A query on a level of the error was spent exactly with `Budget`; a query of the search along
-- the chain may have been spent with `Budget` and with `Done`, and with no other status.
abbrev pub SpendsAs : SpentQueries → Status → Type 0
SpendsAs q Done = q.level ≡ None
SpendsAs q Budget = (level : SpentValue) × (q.level ≡ Some level)
SpendsAs q _ = NothingSpent q

abbrev pub SpendsAsTold : Outcome → Type 0
SpendsAsTold o = SpendsAs (told_queries o) o.status

-- an answer without a spent query
abbrev pub without_query : Status → Outcome
without_query status = record { status = status; spent = None; level = None }

-- the answer that tells what the work on a net came to
abbrev pub outcome_of : Work → Outcome
outcome_of (work.Done spent) = record { status = Done; spent = spent; level = None }
outcome_of (work.Budget level spent) = record { status = Budget; spent = spent; level = Some level }
outcome_of work.NoMemory = without_query NoMemory
outcome_of work.WriteFault = without_query WriteFault

-- what the headlines ask of an answer
abbrev pub answered_by : Outcome → Answered
answered_by o = record {
  Verified = o.status ≡ Verified;
  Done = o.status ≡ Done;
  NoMemory = o.status ≡ NoMemory;
  spent = told_query o.spent;
  level = told_query o.level;
}
