-- The new ids of what is kept of a log.
use Rattle.std.specs.Prelude.{◌≡◌, ℕ, zero, suc, ◌+◌, ◌-◌, ◌<◌, Bool, true, false, if◌then◌else◌, nat_lt}
use Rattle.std.specs.Prelude.{List, [], ◌∷◌, length, map, slice_index_or}
use Rattle.proof_semantics.specs.declared.item.Item.TheVariants.{Add, Remove}
use Rattle.proof_semantics.specs.Logs.{StepValue, LogItem}

-- how many of the first k places are marked
abbrev pub rank : List Bool → ℕ → ℕ
rank marks zero = 0
rank [] (suc k) = 0
rank (true ∷ marks) (suc k) = suc (rank marks k)
rank (false ∷ marks) (suc k) = rank marks k

-- each place has the id that comes next behind the marked places before it
pub record AreNewIds (clauses : ℕ) (marks : List Bool) (ids : List ℕ) : Type 0 where
  pub places : length ids ≡ length marks
  pub ranks : (k : ℕ) → k < length marks → slice_index_or ids k 0 ≡ clauses + 1 + rank marks k

-- an addition's new id; the clauses of the formula keep theirs
abbrev pub new_id : ℕ → List ℕ → ℕ → ℕ
new_id clauses ids id = if nat_lt clauses id then slice_index_or ids (id - clauses - 1) 0 else id

abbrev pub ids_of : LogItem → List ℕ
ids_of (Add s) = s.id ∷ s.hints
ids_of (Remove gone) = gone

abbrev pub new_step : ℕ → List ℕ → StepValue → StepValue
new_step clauses ids s = record {
  id = new_id clauses ids s.id;
  literals = s.literals;
  hints = map (new_id clauses ids) s.hints;
}

abbrev pub new_item : ℕ → List ℕ → LogItem → LogItem
new_item clauses ids (Add s) = Add (new_step clauses ids s)
new_item clauses ids (Remove gone) = Remove (map (new_id clauses ids) gone)
