-- Where the tables of a net stand in its formula.
use Rattle.std.specs.Prelude.{◌≡◌, ℕ, ◌<◌, ◌^◌, List, length, sum_by, slice_index_or}
use Rattle.semantics.specs.Net.{TableValue, NetValue, input_count, table_count}
use Rattle.proof_semantics.specs.Formula.{Formula, goal_of}
use Rattle.proof_semantics.specs.Variables.{table_clause_count}
use Rattle.merge_log.specs.declared.placed.Place.{Place}
use Rattle.merge_log.specs.Steps.{first_row, first_clause}

abbrev pub place_of : ℕ → List TableValue → ℕ → Place
place_of n tables i = record { row = first_row n tables i; clause = first_clause tables i }

abbrev pub no_place : Place
no_place = record { row = 0; clause = 0 }

-- the places of the first `most` tables
pub record IsPlaceList (n : ℕ) (tables : List TableValue) (most : ℕ) (places : List Place) : Type 0 where
  pub count : length places ≡ most
  pub are : (i : ℕ) → i < most → slice_index_or places i no_place ≡ place_of n tables i

-- the goal of a net, and the place of each of its tables in the goal
pub record IsPlaced (N : NetValue) (goal : Formula) (places : List Place) : Type 0 where
  pub goal_is : goal ≡ goal_of N
  pub places_are : IsPlaceList (input_count N) N.tables (table_count N) places
  pub clauses : length (goal_of N).clauses < 2 ^ 61
  pub few : sum_by table_clause_count N.tables < 2 ^ 60
