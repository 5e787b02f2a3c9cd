-- What turns of the search show.
use Rattle.std.specs.Prelude.{ℕ, ◌+◌, ◌<◌, List}
use Rattle.proof_semantics.specs.Formula.{Formula}
use Rattle.proof_semantics.specs.Logs.{LogItem}
use Rattle.cdcl_core.specs.Watching.{IsWatching}
use Rattle.cdcl_core.specs.Searched.{IsSearch, IsSearching, IsModelTrail}
use Rattle.cdcl_core.specs.Answers.{IsRefutation}
use Rattle.cdcl_core.specs.declared.search.SolverState.{SolverState}
use Rattle.cdcl_core.specs.declared.search_turns.Turn.{Turn}
use Rattle.cdcl_core.specs.declared.search_turns.Turn.TheVariants.{Further, Refuted, Full}

-- a search that goes on can take the next turn
abbrev pub IsReady : SolverState → Turn → Type 0
IsReady s Further = IsSearching s.clauses.list s.trail s.order × IsWatching s.clauses.list s.trail s.watches
IsReady s Refuted = Unit {0}
IsReady s Full = Unit {0}

-- what holds after k conflicts and one more turn
abbrev pub IsTurn : Formula → List LogItem → ℕ → SolverState → Turn → Type 0
IsTurn f merged k s Further = IsSearch f merged (k + 1) s
IsTurn f merged k s Refuted = (limit : ℕ) → k < limit → IsRefutation f merged s.log.items limit
IsTurn f merged k s Full = IsSearch f merged k s × IsModelTrail s.clauses.list s.trail

-- what holds after at most `limit` turns
abbrev pub IsEnd : Formula → List LogItem → ℕ → SolverState → Turn → Type 0
IsEnd f merged limit s Further = IsSearch f merged limit s
IsEnd f merged limit s Refuted = IsRefutation f merged s.log.items limit
IsEnd f merged limit s Full = (k : ℕ) × (IsSearch f merged k s × IsModelTrail s.clauses.list s.trail)
