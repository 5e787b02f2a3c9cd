-- What holds of a search between its steps.
use Rattle.std.specs.Prelude.{◌≡◌, ℕ, ◌+◌, ◌<◌, ◌^◌, Option, Some, None, List, [], ◌∷◌, ◌++◌, take, length}
use Rattle.std.specs.Prelude.{All}
use Rattle.proof_semantics.specs.Clauses.{Clause, IsLiteralOf, AreClausesOf}
use Rattle.proof_semantics.specs.declared.item.Item.TheVariants.{Add}
use Rattle.proof_semantics.specs.Formula.{Formula}
use Rattle.proof_semantics.specs.Logs.{StepValue, LogItem, Derives, held_of}
use Rattle.proof_semantics.specs.Conflicts.{IsNew, clauses_with, IsConflictChain}
use Rattle.cdcl_core.specs.Settled.{IsSettled}
use Rattle.cdcl_core.specs.Explained.{Holds}
use Rattle.cdcl_core.specs.Placed.{TrailValue}
use Rattle.cdcl_core.specs.Propagation.{IsConflict}
use Rattle.cdcl_core.specs.Watches.{WatchesValue}
use Rattle.cdcl_core.specs.Watching.{IsWatching, IsWatchedBelow}
use Rattle.cdcl_core.specs.Jump.{IsRunning}
use Rattle.cdcl_core.specs.Decided.{IsFull}
use Rattle.cdcl_core.specs.declared.search.SolverState.{SolverState}

-- the clauses and the trail are over the same variables, and the order has these variables
pub record IsSearching (clauses : List Clause) (t : TrailValue) (order : ℕ) : Type 0 where
  pub running : IsRunning clauses t
  pub literals : AreClausesOf t.variables clauses
  pub variables : order ≡ t.variables
  pub small : t.variables < 2 ^ 31

-- each variable has a value, and every clause is settled
pub record IsModelTrail (clauses : List Clause) (t : TrailValue) : Type 0 where
  pub full : IsFull t
  pub settled : IsSettled (Holds t.literals) clauses

-- the trail grew or went back, and nothing was learned
pub record HasMoved (old new : SolverState) : Type 0 where
  pub searching : IsSearching new.clauses.list new.trail new.order
  pub variables : new.trail.variables ≡ old.trail.variables
  pub clauses : new.clauses.list ≡ old.clauses.list
  pub log : new.log ≡ old.log

-- the step of the sweep is over, or a clause is false
abbrev pub IsSwept : List Clause → TrailValue → WatchesValue → Option ℕ → Type 0
IsSwept clauses t w None = IsWatching clauses t w
IsSwept clauses t w (Some j) = IsWatchedBelow clauses t w × IsConflict clauses t j

-- the log begins with the merged steps
abbrev pub Begins : List LogItem → List LogItem → Type 0
Begins merged log = take (length merged) log ≡ merged

-- the search over a formula after `conflicts` conflicts
pub record IsSearch (f : Formula) (merged : List LogItem) (conflicts : ℕ) (s : SolverState) : Type 0 where
  pub searching : IsSearching s.clauses.list s.trail s.order
  pub variables : s.trail.variables ≡ f.variables
  pub clauses : s.clauses.list ≡ clauses_with f.clauses s.log.items
  pub begins : Begins merged s.log.items
  pub chain : IsConflictChain f (length merged) conflicts s.log.items

-- the log ends with the empty clause, which derives from the clauses
pub record HasEnded (clauses : List Clause) (before after : List LogItem) : Type 0 where
  pub step : StepValue
  pub logged : after ≡ before ++ Add step ∷ []
  pub id : step.id ≡ length clauses + 1
  pub few : length clauses < 2 ^ 59
  pub empty : step.literals ≡ []
  pub derives : Derives (held_of clauses) step

-- a clause that is new and derives was logged and added
pub record HasLearned (old new : SolverState) : Type 0 where
  pub step : StepValue
  pub logged : new.log.items ≡ old.log.items ++ Add step ∷ []
  pub added : new.clauses.list ≡ old.clauses.list ++ step.literals ∷ []
  pub id : step.id ≡ length old.clauses.list + 1
  pub few : length old.clauses.list < 2 ^ 59
  pub literals : All (IsLiteralOf old.trail.variables) step.literals
  pub derives : Derives (held_of old.clauses.list) step
  pub is_new : IsNew old.clauses.list step.literals

-- only memory, the marks of the analysis, and the order may differ
pub record IsUnchanged (old new : SolverState) : Type 0 where
  pub clauses : new.clauses.list ≡ old.clauses.list
  pub trail : new.trail ≡ old.trail
  pub watches : new.watches ≡ old.watches
  pub log : new.log.items ≡ old.log.items
