-- What is known of a table's rows once some of its pins are chosen.
use Rattle.std.specs.Prelude.{◌≡◌, ℕ, ◌<◌, Bool, true, List, length}
use Rattle.std.specs.List.{list_any}
use Rattle.semantics.specs.declared.mark.Mark.{Mark}
use Rattle.semantics.specs.Value.{Assignment, row_matches}
use Rattle.bdd_core.specs.declared.node.Node.{Node}
use Rattle.bdd_core.specs.Diagrams.{IsValuation}
use Rattle.bdd_nets.specs.Tables.{signal_values}

-- whether some row matches is the same wherever the pins are as they are chosen
abbrev pub IsSettled : List (List Mark) → List Mark → Bool → Type 0
IsSettled rows chosen some =
    (pins : List ℕ) (v : Assignment) → length pins ≡ length chosen → row_matches chosen pins v ≡ true
    → list_any (λ marks. row_matches marks pins v) rows ≡ some

-- a table's rows and pins, and the diagrams of all signals
pub record DrawnRows : Type 0 where
  pub rows : List (List Mark)
  pub pins : List ℕ
  pub signals : List ℕ

-- where the pins are as they are chosen, r is true where some row matches
pub record IsSplitOver (nodes : List Node) (t : DrawnRows) (chosen : List Mark) (r : ℕ) : Type 0 where
  pub within : r < length nodes
  pub is : (x v : Assignment) → IsValuation nodes x v
      → row_matches chosen t.pins (signal_values t.signals v) ≡ true
      → v r ≡ list_any (λ marks. row_matches marks t.pins (signal_values t.signals v)) t.rows
