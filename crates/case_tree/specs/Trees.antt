-- What the steps of the vectors of a net are made from.
use Rattle.std.specs.Prelude.{◌≡◌, ℕ, ◌^◌, ◌<◌, ◌≤◌, Bool, List, sum_by, slice_index}
use Rattle.semantics.specs.declared.limits.TheConstants.{MOST_CASE_INPUTS}
use Rattle.semantics.specs.Net.{input_count}
use Rattle.semantics.specs.Order.{IsOrderOf}
use Rattle.semantics.specs.Vectors.{all_vectors}
use Rattle.proof_semantics.specs.Variables.{table_clause_count}
use Rattle.proof_semantics.specs.Logs.{StepValue, LogItem}
use Rattle.case_tree.specs.Cases.{first_ids, vector_step, cases_from}
use Rattle.case_tree.specs.declared.refute.Tree.{Tree}

-- an order, the ids of the first clauses, and all vectors of at most six inputs, in counting order
pub record IsTree (t : Tree) : Type 0 where
  pub order : IsOrderOf (input_count t.net.now) t.net.now.tables t.order.now
  pub firsts : t.firsts.now ≡ first_ids 1 t.net.now.tables
  pub clauses : sum_by table_clause_count t.net.now.tables < 2 ^ 62
  pub few_inputs : input_count t.net.now ≤ MOST_CASE_INPUTS
  pub all : t.rest.now.vectors ≡ all_vectors t.rest.now.inputs
  pub few : t.rest.now.inputs ≤ 6
  pub within : t.rest.now.inputs ≤ input_count t.net.now

-- the step with this id that derives the negation of an input vector
abbrev pub tree_step : Tree → ℕ → List Bool → StepValue
tree_step t id x
    = vector_step id (input_count t.net.now) t.net.now.tables t.order.now (slice_index t.net.now.outputs 0) x

-- the steps after the id `last` that derive the negation of a front, with `free` inputs behind it
abbrev pub tree_cases : Tree → (free : ℕ) → (front : List Bool) → (last : ℕ) → List LogItem
tree_cases t free front last =
    cases_from (input_count t.net.now) t.net.now.tables t.order.now (slice_index t.net.now.outputs 0)
    free front last
