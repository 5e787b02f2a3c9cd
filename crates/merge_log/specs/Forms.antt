-- The forms of tables: what two tables that are to be made equal have in common.
use Rattle.std.specs.Prelude.{◌≡◌, ◌⊎◌, ℕ, ◌<◌, Bool, List, [], ◌∷◌, ◌++◌, map, flat_map, length, slice_get}
use Rattle.std.specs.Prelude.{Option, Some, Contains}
use Rattle.semantics.specs.Net.{TableValue}
use Rattle.merge_log.specs.declared.form.Form.{Form}
use Rattle.merge_log.specs.Chains.{MergedValue, first_of, asked}

-- the plane, the number of rows, what the marks of all rows ask, row by row, and the first signals to which
-- the pins were made equal
pub record FormValue : Type 0 where
  pub plane : Bool
  pub rows : ℕ
  pub marks : List (Option Bool)
  pub pins : List ℕ

abbrev pub form_value : Form → FormValue
form_value f = record { plane = f.plane; rows = f.rows; marks = f.marks.items; pins = f.pins.items }

abbrev pub form_of : MergedValue → TableValue → FormValue
form_of m t = record {
  plane = t.plane;
  rows = length t.rows;
  marks = flat_map (map asked) t.rows;
  pins = map (first_of m) t.pins;
}

-- the form stands at place k: it stood there before, or is the last one now
abbrev pub IsNumbered : List FormValue → List FormValue → FormValue → ℕ → Type 0
IsNumbered old new form k =
    ((k < length old) × (new ≡ old) × (slice_get old k ≡ Some form))
    ⊎ ((k ≡ length old) × (new ≡ old ++ form ∷ []) × (¬ Contains old form))
