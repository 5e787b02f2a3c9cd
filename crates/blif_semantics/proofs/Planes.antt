-- The plane of a table is that of each row.
use Rattle.std.proofs.Common.{◌≡◌, ℕ, zero, suc, ◌-◌, Bool, true, false, ◌==◌, ◌&&◌, cond, List, [], ◌∷◌, ◌++◌, map, length, Some, None, refl, ap, sym, subst, ◌∙◌}
use mathlib.Core.Bool.{beq}
use Rattle.std.specs.List.{AllByRecursion, list_all}
use Rattle.std.proofs.lemmas.Bool.{eqb-true}
use Rattle.std.proofs.lemmas.List.{map-append}
use Rattle.std.proofs.lemmas.Option.{none-some, same_Some}
use Rattle.semantics.specs.Texts.{Bytes, Line}
use Rattle.blif_semantics.specs.declared.kind.Kind.{Kind}
use Rattle.blif_semantics.specs.declared.kind.Kind.TheVariants as kind
use Rattle.blif_semantics.specs.Lines.{Statement}
use Rattle.blif_semantics.specs.Statements.{kind_of, arguments, is_mark, plane_of, row_plane, table_before, table_by, first_wrong}
use Rattle.blif_semantics.specs.Tables.{NamedTable, last_word, is_one, named, with_row, with_rows, if_row, rows_first}
use Rattle.blif_semantics.proofs.RightLines.{open_table, AllRight, all_right}
use Rattle.blif_semantics.proofs.Rows.{rows_more, row_right}

abbrev pub HasPlane : Bool → Line → Type 0
HasPlane plane row = is_one (last_word row) ≡ plane

plane_byte : (word : Bytes) (plane : Bool) → plane_of word ≡ Some plane → is_one word ≡ plane
plane_byte [] plane e = absurd (none-some plane e)
plane_byte (byte ∷ []) plane e = at_zero (byte == 48) refl e
  where
    at_one : (t : Bool) → (byte == 49) ≡ t → cond t (Some true) None ≡ Some plane → (byte == 49) ≡ plane
    at_one true is h = is ∙ same_Some true plane h
    at_one false is h = absurd (none-some plane h)

    at_zero : (t : Bool) → (byte == 48) ≡ t → cond t (Some false) (cond (byte == 49) (Some true) None) ≡ Some plane → (byte == 49) ≡ plane
    at_zero true is h = ap (λ b. b == 49) (eqb-true byte 48 is) ∙ same_Some false plane h
    at_zero false is h = at_one (byte == 49) refl h
plane_byte (byte ∷ next ∷ bytes) plane e = absurd (none-some plane e)

pub row_plane-last : (n : ℕ) (row : Line) (plane : Bool) → row_plane n row ≡ Some plane → HasPlane plane row
row_plane-last zero [] plane h = absurd (none-some plane h)
row_plane-last zero (word ∷ []) plane h = plane_byte word plane h
row_plane-last zero (word ∷ next ∷ words) plane h = absurd (none-some plane h)
row_plane-last (suc n) [] plane h = absurd (none-some plane h)
row_plane-last (suc n) (word ∷ []) plane h = absurd (none-some plane h)
row_plane-last (suc n) (marks ∷ word ∷ []) plane h = at_test (length marks == suc n && list_all is_mark marks) h
  where
    at_test : (t : Bool) → cond t (plane_of word) None ≡ Some plane → HasPlane plane (marks ∷ word ∷ [])
    at_test true k = plane_byte word plane k
    at_test false k = absurd (none-some plane k)
row_plane-last (suc n) (marks ∷ word ∷ more ∷ words) plane h = absurd (none-some plane h)

pub beq_true : (a b : Bool) → beq a b ≡ true → b ≡ a
beq_true false false h = refl
beq_true false true h = sym h
beq_true true false h = h
beq_true true true h = refl

-- rows behind a row of the plane
rows_planes : (n : ℕ) (plane : Bool) (earlier lines : List Line) → table_before earlier ≡ open_table n (Some plane) → AllRight earlier lines → AllByRecursion (HasPlane plane) (rows_first lines)
rows_planes n plane earlier [] table h = tt
rows_planes n plane earlier (row ∷ lines) table h =
    rows_more (HasPlane plane) row lines (kind_of row)
    (λ e.
    let right = row_right n (Some plane) earlier row lines table h e in
    let same : right.good.plane ≡ plane = beq_true plane right.good.plane right.good.agrees in
    (row_plane-last n row right.good.plane right.good.is ∙ same, rows_planes n plane (row ∷ earlier) lines right.grown h.1))

rows_plane : (t : NamedTable) (rows : List Line) (plane : Bool) → t.plane ≡ plane → AllByRecursion (HasPlane plane) rows → (with_rows t rows).plane ≡ plane
rows_plane t [] plane e h = e
rows_plane t (row ∷ rows) plane e h = rows_plane (with_row t row) rows plane h.0 h.1

-- the rows have the plane of the table that has them
AllAgree : NamedTable → List Line → Type 0
AllAgree t rows = AllByRecursion (HasPlane (with_rows t rows).plane) rows

all_agree : (t : NamedTable) (row : Line) (rows : List Line) (plane : Bool) → HasPlane plane row → AllByRecursion (HasPlane plane) rows → AllAgree t (row ∷ rows)
unfolding AllAgree
all_agree t row rows plane first others =
    subst (λ p. AllByRecursion (HasPlane p) (row ∷ rows)) (sym (rows_plane (with_row t row) rows plane first others)) (first, others)

first_rows : (n : ℕ) (t : NamedTable) (earlier lines : List Line) → table_before earlier ≡ open_table n None → AllRight earlier lines → AllAgree t (rows_first lines)
unfolding AllAgree
first_rows n t earlier [] table h = tt
first_rows n t earlier (row ∷ lines) table h = at_kind (kind_of row) refl
  where
    at_row : kind_of row ≡ kind.Row → AllAgree t (row ∷ rows_first lines)
    at_row e =
        let right = row_right n None earlier row lines table h e in
        let grown : table_before (row ∷ earlier) ≡ open_table n (Some right.good.plane) = right.grown ∙ ap (open_table n) right.good.is in
        all_agree t row (rows_first lines) right.good.plane (row_plane-last n row right.good.plane right.good.is) (rows_planes n right.good.plane (row ∷ earlier) lines grown h.1)

    at_kind : (k : Kind) → kind_of row ≡ k → AllAgree t (if_row k (row ∷ rows_first lines) [])
    at_kind kind.Row e = at_row e
    at_kind kind.Model e = tt
    at_kind kind.Inputs e = tt
    at_kind kind.Outputs e = tt
    at_kind kind.Names e = tt
    at_kind kind.End e = tt
    at_kind kind.Command e = tt

behind : (earlier before : List Line) (words : Line) (after : List Line) → AllRight earlier (before ++ words ∷ after) → (lines : List Line) × AllRight lines (words ∷ after)
behind earlier [] words after h = (earlier, h)
behind earlier (line ∷ before) words after h = behind (line ∷ earlier) before words after h.1

pub planes : (before : List Statement) (s : Statement) (after : List Statement) → first_wrong (before ++ s ∷ after) ≡ None → kind_of s.words ≡ kind.Names
    → AllByRecursion (λ row. is_one (last_word row) ≡ (with_rows (named (arguments s.words)) (rows_first (map (λ s. s.words) after))).plane) (rows_first (map (λ s. s.words) after))
unfolding AllAgree
planes before s after none e =
    let words : List Statement → List Line = map (λ s. s.words) in
    let right : AllRight [] (words before ++ s.words ∷ words after) = subst (AllRight []) (map-append (λ s. s.words) before (s ∷ after)) (all_right (before ++ s ∷ after) none) in
    let here = behind [] (words before) s.words (words after) right in
    let opened : table_before (s.words ∷ here.0) ≡ open_table (length (arguments s.words) - 1) None = ap (λ k. table_by k s.words (table_before here.0)) e in
    first_rows (length (arguments s.words) - 1) (named (arguments s.words)) (s.words ∷ here.0) (words after) opened here.1.1
