-- The literal of a graph that says whether the error of a net exceeds a level, and the one that is asked
-- about.
use Rattle.std.specs.Prelude.{◌≡◌, ℕ, ◌<◌, nat_lt, Bool, true, List, map, length}
use Rattle.semantics.specs.Net.{input_count}
use Rattle.semantics.specs.Value.{Assignment}
use Rattle.semantics.specs.declared.metric.Metric.{Metric}
use Rattle.semantics.specs.Error.{net_error, IsWithin}
use Rattle.net_errors.specs.Compared.{NetPair}
use Rattle.net_search.specs.declared.judging.Change.{Change}
use Rattle.net_search.specs.Judging.{IsChange}
use Rattle.bdd_levels.specs.declared.level.Level.{Level}
use Rattle.proof_semantics.specs.declared.constraint.Constraint.{Constraint}
use Rattle.aig_core.specs.Graph.{GraphValue, IsLiteralOf, IsConsistent, literal_value, truth_of}
use Rattle.aig_core.specs.Grown.{HasValue}

-- the question whether the error of the approximate net exceeds k
pub record LevelQuestion : Type 0 where
  pub metric : Metric
  pub nets : NetPair
  pub k : ℕ

abbrev pub question_of : NetPair → Level → LevelQuestion
question_of nets level = record { metric = level.metric; nets = nets; k = level.k }

-- the question whether the error exceeds the bound of what is asked
abbrev pub asked_of : NetPair → Constraint → LevelQuestion
asked_of nets aim = record { metric = aim.metric; nets = nets; k = aim.bound }

-- the error of the approximate net at an input vector
abbrev pub asked_error : LevelQuestion → List Bool → ℕ
asked_error q x = net_error q.metric q.nets.exact q.nets.approx x

-- the error of the net before the change does not exceed k, and the approximate net is the one after it
pub record IsChangeFor (q : LevelQuestion) (change : Change) : Type 0 where
  pub keeps : IsWithin q.metric q.nets.exact q.k change.before.now
  pub made : IsChange change.before.now q.nets.approx change.signal

-- l says whether the error exceeds k where each input has the value of its literal
pub record IsOverLiteral (g : GraphValue) (q : LevelQuestion) (inputs : List ℕ) (l : ℕ) : Type 0 where
  pub within : IsLiteralOf g l
  pub is : HasValue g l (λ x v. nat_lt q.k (asked_error q (map (literal_value v) inputs)))

-- l is true wherever the error exceeds k, where each input has the value of its literal
pub record IsTrueWhereOver (g : GraphValue) (q : LevelQuestion) (inputs : List ℕ) (l : ℕ) : Type 0 where
  pub within : IsLiteralOf g l
  pub over : (x : List Bool) (v : Assignment) → IsConsistent g x v
      → q.k < asked_error q (map (literal_value v) inputs) → literal_value v l ≡ true

-- l is true at each input vector whose error exceeds k
pub record IsGoalOf (g : GraphValue) (q : LevelQuestion) (l : ℕ) : Type 0 where
  pub inputs : g.inputs ≡ input_count q.nets.exact
  pub within : IsLiteralOf g l
  pub over : (x : List Bool) → length x ≡ input_count q.nets.exact → q.k < asked_error q x
      → truth_of g x l ≡ true
