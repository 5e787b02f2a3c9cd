-- The laws about clauses and logs, each the contract of a function without parameters.
use Rattle.std.specs.Prelude.{◌≡◌, ℕ, suc, ◌+◌, ◌<◌, ◌≤◌, ◌↔◌, Bool, true, false, nat_lt, List, length}
use Rattle.std.specs.Prelude.{sum_by, All, Some, Ok}
use Rattle.std.specs.FinMap.{get}
use Rattle.semantics.specs.Net.{TableValue, NetValue, input_count, signal_count, IsAcyclic, IsSmall}
use Rattle.semantics.specs.Value.{Assignment, value_of}
use Rattle.semantics.specs.declared.metric.Metric.{Metric}
use Rattle.semantics.specs.Error.{net_error, IsWithin}
use Rattle.quality_semantics.specs.Joint.{approximate_signal, AreComparable}
use Rattle.proof_semantics.specs.Clauses.{Clause, clause_value, Satisfies, IsUnsatisfiable, AreClausesOf}
use Rattle.proof_semantics.specs.NetClauses.{net_clauses, goal_clauses}
use Rattle.proof_semantics.specs.Logs.{StepValue, LogItem, Held, step_answer, Derives, IsSoundLog}
use Rattle.proof_semantics.specs.Logs.{last_added, Refutes}
use Rattle.proof_semantics.specs.Miter.{miter, IsJointModelAt, joint_output}
use Rattle.proof_semantics.specs.Variables.{variable_count, table_clause_count, place_value, by_place}
use Rattle.proof_semantics.specs.Variables.{IsModelAt, HasPlaceValues}

-- For acyclic tables and each input vector one assignment of the variables satisfies the clauses: each signal
-- has its value, and each row says whether it matches.
pub record NetClauseLaw : Type 0 where
  pub exactly : (n : ℕ) (tables : List TableValue) (x : List Bool) → IsAcyclic n tables → (a : Assignment)
      → IsModelAt n tables x a ↔ HasPlaceValues n tables x a
  pub some : (n : ℕ) (tables : List TableValue) (x : List Bool) → IsAcyclic n tables
      → IsModelAt n tables x (by_place (place_value n tables x))
  pub only : (n : ℕ) (tables : List TableValue) (x : List Bool) → IsAcyclic n tables → (a b : Assignment)
      → IsModelAt n tables x a → IsModelAt n tables x b → (k : ℕ) → k < variable_count n tables
      → a (suc k) ≡ b (suc k)
  pub signals : (n : ℕ) (tables : List TableValue) (x : List Bool) → IsAcyclic n tables → (a : Assignment)
      → IsModelAt n tables x a → (s : ℕ) → s < n + length tables → a (suc s) ≡ value_of n tables x s

-- the clauses and a signal's unit clause can be satisfied exactly where some input vector makes the signal
-- true
abbrev pub GoalLaw : Type 0
GoalLaw = (n : ℕ) (tables : List TableValue) (signal : ℕ) → IsAcyclic n tables → signal < n + length tables
    → ((a : Assignment) × Satisfies a (goal_clauses n tables signal))
    ↔ ((x : List Bool) × (length x ≡ n) × (value_of n tables x signal ≡ true))

-- how many clauses and variables there are, and that each literal is of one of the variables
pub record ClauseCountLaw : Type 0 where
  pub clauses : (n : ℕ) (tables : List TableValue)
      → All (λ t. All (λ marks. length marks ≡ length t.pins) t.rows) tables
      → length (net_clauses n tables) ≡ sum_by table_clause_count tables
  pub small : (N : NetValue) → IsSmall N → variable_count (input_count N) N.tables ≤ 37120
  pub goal : (n : ℕ) (tables : List TableValue) (signal : ℕ)
      → length (goal_clauses n tables signal) ≡ length (net_clauses n tables) + 1
  pub variables : (n : ℕ) (tables : List TableValue) → IsAcyclic n tables
      → AreClausesOf (variable_count n tables) (net_clauses n tables)
  pub goal_variables : (n : ℕ) (tables : List TableValue) (signal : ℕ) → IsAcyclic n tables
      → signal < n + length tables
      → AreClausesOf (variable_count n tables) (goal_clauses n tables signal)

-- every held clause is true
abbrev pub AllHeldTrue : Assignment → Held → Type 0
AllHeldTrue a held = (id : ℕ) (clause : Clause) → get held id ≡ Some clause → clause_value a clause ≡ true

-- What a step derives is true wherever the held clauses are true. So a refuted formula has no satisfying
-- assignment; and where a signal's goal is refuted, no input vector makes the signal true.
pub record RefutationLaw : Type 0 where
  pub accepted : (held : Held) (last : ℕ) (s : StepValue)
      → (step_answer held last s ≡ Ok tt) ↔ ((last < s.id) × Derives held s)
  pub step : (a : Assignment) (held : Held) (s : StepValue) → AllHeldTrue a held → Derives held s
      → clause_value a s.literals ≡ true
  pub added : (a : Assignment) (formula : List Clause) (log : List LogItem) (clause : Clause)
      → Satisfies a formula → IsSoundLog formula log
      → last_added log ≡ Some clause → clause_value a clause ≡ true
  pub refuted : (formula : List Clause) (log : List LogItem) → Refutes formula log → IsUnsatisfiable formula
  pub goal : (n : ℕ) (tables : List TableValue) (signal : ℕ) (log : List LogItem) → IsAcyclic n tables
      → signal < n + length tables
      → Refutes (goal_clauses n tables signal) log → (x : List Bool) → length x ≡ n
      → value_of n tables x signal ≡ false

-- For two nets that can be compared, with every metric and level: at each input vector the joint net's
-- clauses can be satisfied; an assignment that satisfies them gives each signal of the two nets its value,
-- and gives the output the answer to whether the error exceeds the level. So the miter can be satisfied
-- exactly where some input's error exceeds the level, and a refuted miter shows that no input's error does.
pub record MiterLaw : Type 0 where
  pub some : (N M : NetValue) (metric : Metric) (k : ℕ) → AreComparable N M → (x : List Bool)
      → (a : Assignment) × IsJointModelAt N M metric k x a
  pub exact : (N M : NetValue) (metric : Metric) (k : ℕ) → AreComparable N M
      → (x : List Bool) (a : Assignment) → IsJointModelAt N M metric k x a
      → (s : ℕ) → s < signal_count N → a (suc s) ≡ value_of (input_count N) N.tables x s
  pub approximate : (N M : NetValue) (metric : Metric) (k : ℕ) → AreComparable N M
      → (x : List Bool) (a : Assignment) → IsJointModelAt N M metric k x a
      → (s : ℕ) → s < signal_count M
      → a (suc (approximate_signal N s)) ≡ value_of (input_count M) M.tables x s
  pub output : (N M : NetValue) (metric : Metric) (k : ℕ) → AreComparable N M
      → (x : List Bool) (a : Assignment) → IsJointModelAt N M metric k x a
      → a (suc (joint_output N M metric k)) ≡ nat_lt k (net_error metric N M x)
  pub satisfiable : (N M : NetValue) (metric : Metric) (k : ℕ) → AreComparable N M
      → ((a : Assignment) × Satisfies a (miter N M metric k).clauses)
      ↔ ((x : List Bool) × (length x ≡ input_count N) × (k < net_error metric N M x))
  pub unsatisfiable : (N M : NetValue) (metric : Metric) (k : ℕ) → AreComparable N M
      → IsUnsatisfiable (miter N M metric k).clauses ↔ IsWithin metric N k M
  pub refuted : (N M : NetValue) (metric : Metric) (k : ℕ) → AreComparable N M → (log : List LogItem)
      → Refutes (miter N M metric k).clauses log
      → IsWithin metric N k M
