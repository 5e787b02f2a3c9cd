-- Logs that make alike tables of a net equal before a search. Source: structural merges, as in SAT sweeping,
-- here as steps of a log.
use Rattle.std.specs.Prelude.{◌≡◌, ◌≢◌, ℕ, true, false, List, [], ◌∷◌, take, ℤ, nat_abs, All, Contains}
use Rattle.semantics.specs.Net.{NetValue, input_count}
use Rattle.proof_semantics.specs.Alike.{IsFirstAlike}
use Rattle.proof_semantics.specs.Clauses.{Clause}
use Rattle.proof_semantics.specs.NetClauses.{literal_at}
use Rattle.proof_semantics.specs.Formula.{goal_of}
use Rattle.proof_semantics.specs.Logs.{LogItem, IsDerivation}
use Rattle.proof_semantics.specs.Conflicts.{added_clauses}

-- two literals of different variables
abbrev pub IsPair : Clause → Type 0
IsPair clause = (l m : ℤ) × (clause ≡ l ∷ m ∷ []) × (nat_abs l ≢ nat_abs m)

-- the clauses say that the variables of the signals s and u have the same value
pub record AreMadeEqual (clauses : List Clause) (s u : ℕ) : Type 0 where
  pub forth : Contains clauses (literal_at s false ∷ literal_at u true ∷ [])
  pub back : Contains clauses (literal_at s true ∷ literal_at u false ∷ [])

-- The log derives clauses of two variables from the clauses and the goal of the net. Among them are clauses
-- that make each table that is alike to an earlier table equal to the first table that it is alike to.
pub record IsMergeLog (N : NetValue) (log : List LogItem) : Type 0 where
  pub derivation : IsDerivation (goal_of N) log
  pub pairs : All IsPair (added_clauses log)
  pub merged : (s u : ℕ) → IsFirstAlike (input_count N) N.tables s u → AreMadeEqual (added_clauses log) s u

-- the first `merged` items of the log are a merge log, for some number `merged`
abbrev pub BeginsWithMerges : NetValue → List LogItem → Type 0
BeginsWithMerges N log = (merged : ℕ) × IsMergeLog N (take merged log)
