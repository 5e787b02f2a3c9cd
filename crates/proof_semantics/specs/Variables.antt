-- What the variables of a net's clauses stand for, and how many variables and clauses there are.
use Rattle.std.specs.Prelude.{◌≡◌, ℕ, zero, suc, ◌+◌, ◌-◌, ◌<◌, Bool, false, if◌then◌else◌, List, [], ◌∷◌}
use Rattle.std.specs.Prelude.{◌++◌, map, length, sum_by, slice_index_or, nat_lt}
use Rattle.semantics.specs.Net.{TableValue, row_literals}
use Rattle.semantics.specs.Value.{Assignment, row_matches, value_of}
use Rattle.proof_semantics.specs.Clauses.{Satisfies}
use Rattle.proof_semantics.specs.NetClauses.{net_clauses}

-- one for each signal and each row
abbrev pub variable_count : ℕ → List TableValue → ℕ
variable_count n tables = n + length tables + sum_by (λ t. length t.rows) tables

-- each row has a clause for each literal and one more; each row implies its table's value, and one clause
-- goes back
abbrev pub table_clause_count : TableValue → ℕ
table_clause_count t = sum_by (λ marks. row_literals marks + 1) t.rows + length t.rows + 1

-- whether each row matches, in order
abbrev pub row_values : List TableValue → Assignment → List Bool
row_values [] v = []
row_values (t ∷ tables) v = map (λ marks. row_matches marks t.pins v) t.rows ++ row_values tables v

-- what stands at place k: the value of a signal, or whether a row matches
abbrev pub place_value : ℕ → List TableValue → List Bool → ℕ → Bool
place_value n tables x k =
    if nat_lt k (n + length tables)
    then value_of n tables x k
    else slice_index_or (row_values tables (value_of n tables x)) (k - (n + length tables)) false

-- variable k + 1 has the value of place k
abbrev pub by_place : (ℕ → Bool) → Assignment
by_place values zero = false
by_place values (suc k) = values k

-- the assignment satisfies the clauses, and the variables of the inputs have their bits
pub record IsModelAt (n : ℕ) (tables : List TableValue) (x : List Bool) (a : Assignment) : Type 0 where
  pub satisfies : Satisfies a (net_clauses n tables)
  pub inputs : (s : ℕ) → s < n → a (suc s) ≡ slice_index_or x s false

-- each variable has the value of what it stands for
abbrev pub HasPlaceValues : ℕ → List TableValue → List Bool → Assignment → Type 0
HasPlaceValues n tables x a = (k : ℕ) → k < variable_count n tables → a (suc k) ≡ place_value n tables x k
