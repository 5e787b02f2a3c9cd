-- Rows that are not wrong, behind the line of their table.
use Rattle.std.proofs.Common.{◌≡◌, ℕ, Bool, true, false, cond, List, [], ◌∷◌, Option, Some, None, refl, ap, sym, ◌∙◌}
use Rattle.std.specs.List.{AllByRecursion}
use Rattle.std.proofs.lemmas.Option.{none-some}
use Rattle.semantics.specs.Texts.{Line}
use Rattle.blif_semantics.specs.declared.kind.Kind.{Kind}
use Rattle.blif_semantics.specs.declared.kind.Kind.TheVariants as kind
use Rattle.blif_semantics.specs.Statements.{kind_of, row_plane, table_before, with_plane, table_by, place_after, agrees, Wrong, bad_row, mixed_plane, wrong_row, wrong_by}
use Rattle.blif_semantics.specs.Tables.{if_row, rows_first}
use Rattle.blif_semantics.proofs.RightLines.{open_table, AllRight, right_by}

-- ---- one row

-- a good row has a plane, and it is that of the rows before
pub record HasGoodPlane (n : ℕ) (first : Option Bool) (row : Line) : Type 0 where
  pub plane : Bool
  pub is : row_plane n row ≡ Some plane
  pub agrees : agrees first plane ≡ true

good_plane : (n : ℕ) (first : Option Bool) (row : Line) → wrong_row (open_table n first) row ≡ None → HasGoodPlane n first row
good_plane n first row h = at_plane (row_plane n row) refl h
  where
    judged : Option Bool → Option Wrong
    judged p = elim p [ None ↦ Some bad_row | Some plane ↦ cond (agrees first plane) None (Some mixed_plane) ]

    at_test : (plane : Bool) → row_plane n row ≡ Some plane → (t : Bool) → agrees first plane ≡ t → cond t None (Some mixed_plane) ≡ None → HasGoodPlane n first row
    at_test plane e true same k = record { plane = plane; is = e; agrees = same }
    at_test plane e false same k = absurd (none-some mixed_plane (sym k))

    at_plane : (p : Option Bool) → row_plane n row ≡ p → judged p ≡ None → HasGoodPlane n first row
    at_plane None e k = absurd (none-some bad_row (sym k))
    at_plane (Some plane) e k = at_test plane e (agrees first plane) refl k

-- a row behind an open table
pub record IsRowRight (n : ℕ) (first : Option Bool) (earlier : List Line) (row : Line) : Type 0 where
  pub good : HasGoodPlane n first row
  pub grown : table_before (row ∷ earlier) ≡ open_table n (elim first [ None ↦ row_plane n row | Some plane ↦ Some plane ])

pub row_right : (n : ℕ) (first : Option Bool) (earlier : List Line) (row : Line) (lines : List Line) → table_before earlier ≡ open_table n first → AllRight earlier (row ∷ lines)
    → kind_of row ≡ kind.Row → IsRowRight n first earlier row
row_right n first earlier row lines table h e = record {
  good = good_plane n first row (ap (λ t. wrong_row t row) (sym table) ∙ ap (λ k. wrong_by k (place_after earlier) row) (sym e) ∙ right_by (place_after earlier) row h.0);
  grown = ap (λ k. table_by k row (table_before earlier)) e ∙ ap (λ t. with_plane t row) table;
}

pub rows_more : (P : Line → Type 0) (row : Line) (lines : List Line) (k : Kind) → (k ≡ kind.Row → P row × AllByRecursion P (rows_first lines)) → AllByRecursion P (if_row k (row ∷ rows_first lines) [])
rows_more P row lines kind.Row h = h refl
rows_more P row lines kind.Model h = tt
rows_more P row lines kind.Inputs h = tt
rows_more P row lines kind.Outputs h = tt
rows_more P row lines kind.Names h = tt
rows_more P row lines kind.End h = tt
rows_more P row lines kind.Command h = tt
