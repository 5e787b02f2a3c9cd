-- Each row belongs to the table of the nearest line before it that is no row.
use Rattle.std.proofs.Common.{◌≡◌, ℕ, ◌-◌, Bool, true, List, [], ◌∷◌, ◌++◌, map, length, reverse, Option, Some, None, refl, ap, sym, subst, ◌∙◌, append_assoc, append-nil, arith}
use Rattle.std.specs.List.{AllByRecursion}
use Rattle.std.proofs.lemmas.List.{map-append, reverse-append, reverse-reverse, length-take}
use Rattle.std.proofs.lemmas.Option.{none-some, same_Some}
use Rattle.semantics.specs.declared.mark.Mark.{Mark}
use Rattle.semantics.specs.Texts.{Bytes, Line}
use Rattle.blif_semantics.specs.declared.kind.Kind.{Kind}
use Rattle.blif_semantics.specs.declared.kind.Kind.TheVariants as kind
use Rattle.blif_semantics.specs.Lines.{Statement}
use Rattle.blif_semantics.specs.Statements.{kind_of, arguments, OpenTable, row_plane, table_before, table_by, place_after, agrees, stray_row, wrong_row, wrong_by, first_wrong}
use Rattle.blif_semantics.specs.Tables.{NamedTable, last_word, is_one, marks_of, named, with_row, with_rows, if_row, rows_first, table_first, tables_of}
use Rattle.blif_semantics.specs.LineLaws.{opened, IsRowOfTable}
use Rattle.blif_semantics.proofs.RightLines.{AllRight, all_right, right_by}
use Rattle.blif_semantics.proofs.Rows.{row_right}
use Rattle.blif_semantics.proofs.Planes.{row_plane-last, beq_true}

abbrev IsRow : Line → Type 0
IsRow words = kind_of words ≡ kind.Row

-- ---- rows joined to a table

with_rows-append : (t : NamedTable) (rows more : List Line) → with_rows t (rows ++ more) ≡ with_rows (with_rows t rows) more
with_rows-append t [] more = refl
with_rows-append t (row ∷ rows) more = with_rows-append (with_row t row) rows more

with_rows-pins : (t : NamedTable) (rows : List Line) → (with_rows t rows).pins ≡ t.pins
with_rows-pins t [] = refl
with_rows-pins t (row ∷ rows) = with_rows-pins (with_row t row) rows

rows_first-append : (rows lines : List Line) → AllByRecursion IsRow rows → rows_first (rows ++ lines) ≡ rows ++ rows_first lines
rows_first-append [] lines h = refl
rows_first-append (row ∷ rows) lines h =
    ap (λ k. if_row k (row ∷ rows_first (rows ++ lines)) []) h.0 ∙ ap (λ l. row ∷ l) (rows_first-append rows lines h.1)

tables_of-rows : (rows lines : List Line) → AllByRecursion IsRow rows → tables_of (rows ++ lines) ≡ tables_of lines
tables_of-rows [] lines h = refl
tables_of-rows (row ∷ rows) lines h =
    ap (λ k. table_first k row (rows ++ lines) (tables_of (rows ++ lines))) h.0 ∙ tables_of-rows rows lines h.1

-- a line that is no row takes no row from the tables before it
rows_first-names : (front : List Line) (names : Line) (lines : List Line) → kind_of names ≡ kind.Names → rows_first (front ++ names ∷ lines) ≡ rows_first front
rows_first-names [] names lines e = ap (λ k. if_row k (names ∷ rows_first lines) []) e
rows_first-names (words ∷ front) names lines e = ap (λ l. if_row (kind_of words) (words ∷ l) []) (rows_first-names front names lines e)

table_first-more : (k : Kind) (words : Line) (lines more : List Line) (tables rest : List NamedTable) → rows_first lines ≡ rows_first more
    → table_first k words lines (tables ++ rest) ≡ table_first k words more tables ++ rest
table_first-more kind.Names words lines more tables rest e = ap (λ rows. with_rows (named (arguments words)) rows ∷ (tables ++ rest)) e
table_first-more kind.Model words lines more tables rest e = refl
table_first-more kind.Inputs words lines more tables rest e = refl
table_first-more kind.Outputs words lines more tables rest e = refl
table_first-more kind.End words lines more tables rest e = refl
table_first-more kind.Command words lines more tables rest e = refl
table_first-more kind.Row words lines more tables rest e = refl

tables_of-names : (front : List Line) (names : Line) (lines : List Line) → kind_of names ≡ kind.Names
    → tables_of (front ++ names ∷ lines) ≡ tables_of front ++ with_rows (named (arguments names)) (rows_first lines) ∷ tables_of lines
tables_of-names [] names lines e = ap (λ k. table_first k names lines (tables_of lines)) e
tables_of-names (words ∷ front) names lines e =
    ap (table_first (kind_of words) words (front ++ names ∷ lines)) (tables_of-names front names lines e)
    ∙ table_first-more (kind_of words) words (front ++ names ∷ lines) front (tables_of front) (with_rows (named (arguments names)) (rows_first lines) ∷ tables_of lines)
    (rows_first-names front names lines e)

-- the tables, where rows follow a table's line
tables_at : (front : List Line) (names : Line) (rows : List Line) (row : Line) (after : List Line) → kind_of names ≡ kind.Names → AllByRecursion IsRow rows → IsRow row
    → tables_of ((front ++ names ∷ rows) ++ row ∷ after) ≡ tables_of front ++ with_rows (named (arguments names)) (rows ++ row ∷ rows_first after) ∷ tables_of after
tables_at front names rows row after is are_rows is_row =
    let first : rows_first (rows ++ row ∷ after) ≡ rows ++ row ∷ rows_first after =
    rows_first-append rows (row ∷ after) are_rows ∙ ap (λ l. rows ++ l) (ap (λ k. if_row k (row ∷ rows_first after) []) is_row) in
    let rest : tables_of (rows ++ row ∷ after) ≡ tables_of after =
    tables_of-rows rows (row ∷ after) are_rows ∙ ap (λ k. table_first k row after (tables_of after)) is_row in
    ap tables_of (append_assoc front (names ∷ rows) (row ∷ after))
    ∙ tables_of-names front names (rows ++ row ∷ after) is
    ∙ ap (λ l. tables_of front ++ with_rows (named (arguments names)) l ∷ tables_of (rows ++ row ∷ after)) first
    ∙ ap (λ l. tables_of front ++ with_rows (named (arguments names)) (rows ++ row ∷ rows_first after) ∷ l) rest

-- ---- the table that judges a row

-- the latest lines are rows behind a table's line, which make the table that is open
record IsOpenBehind (earlier : List Line) (now : OpenTable) : Type 0 where
  front : List Line
  names : Line
  rows : List Line
  split : reverse earlier ≡ front ++ names ∷ rows
  is_table : kind_of names ≡ kind.Names
  are_rows : AllByRecursion IsRow rows
  is_open : now ≡ opened (with_rows (named (arguments names)) rows)

all_rows-more : (rows : List Line) (row : Line) → AllByRecursion IsRow rows → IsRow row → AllByRecursion IsRow (rows ++ row ∷ [])
all_rows-more [] row h is = (is, tt)
all_rows-more (first ∷ rows) row h is = (h.0, all_rows-more rows row h.1 is)

-- the lines before, none of which is wrong, from the latest to the first
abbrev RightBefore : List Line → Type 0
RightBefore [] = Unit {0}
RightBefore (words ∷ earlier) = AllRight earlier (words ∷ []) × RightBefore earlier

abbrev plane_of_rows : List (List Mark) → Bool → Option Bool
plane_of_rows rows plane = elim rows [ [] ↦ None | row ∷ rows ↦ Some plane ]

abbrev grown_to : Option Bool → ℕ → Line → Option Bool
grown_to first n row = elim first [ None ↦ row_plane n row | Some plane ↦ Some plane ]

-- a row that agrees makes the open table what it is with that row
grown_at : (rows : List (List Mark)) (n : ℕ) (old : Bool) (marks : List Mark) (row : Line) (plane : Bool) → row_plane n row ≡ Some plane → is_one (last_word row) ≡ plane
    → agrees (plane_of_rows rows old) plane ≡ true → grown_to (plane_of_rows rows old) n row ≡ plane_of_rows (rows ++ marks ∷ []) (is_one (last_word row))
grown_at [] n old marks row plane is one same = is ∙ ap (λ (b : Bool). Some b) (sym one)
grown_at (r ∷ rows) n old marks row plane is one same = ap (λ (b : Bool). Some b) (sym (one ∙ beq_true old plane same))

reverse-cons : {X : Type 0} (x : X) (xs : List X) → reverse (x ∷ xs) ≡ reverse xs ++ x ∷ []
reverse-cons x xs = reverse-append (x ∷ []) xs

opens : (earlier : List Line) (words : Line) (now : OpenTable) → kind_of words ≡ kind.Names → table_by kind.Names words (table_before earlier) ≡ Some now → IsOpenBehind (words ∷ earlier) now
opens earlier words now e made =
    let args : List Bytes = arguments words in
    record {
      front = reverse earlier;
      names = words;
      rows = [];
      split = reverse-cons words earlier;
      is_table = e;
      are_rows = tt;
      is_open = sym (same_Some (record { pins = length args - 1; plane = None }) now made)
          ∙ ap (λ n. record { pins = n; plane = None }) (sym (omega (arith, length-take (length args - 1) args)));
    }

grows : (earlier : List Line) (words : Line) (t now : OpenTable) → kind_of words ≡ kind.Row → table_before earlier ≡ Some t → AllRight earlier (words ∷ [])
    → table_before (words ∷ earlier) ≡ Some now → IsOpenBehind earlier t → IsOpenBehind (words ∷ earlier) now
grows earlier words t now e before right made h =
    let table : NamedTable = with_rows (named (arguments h.names)) h.rows in
    let n : ℕ = length table.pins in
    let first : Option Bool = plane_of_rows table.rows table.plane in
    let is = row_right n first earlier words [] (before ∙ ap (λ (o : OpenTable). Some o) h.is_open) right e in
    let plane : Bool = is.good.plane in
    let grown : now ≡ record { pins = n; plane = grown_to first n words } = same_Some now (record { pins = n; plane = grown_to first n words }) (sym made ∙ is.grown) in
    record {
      front = h.front;
      names = h.names;
      rows = h.rows ++ words ∷ [];
      split = reverse-cons words earlier ∙ ap (λ l. l ++ words ∷ []) h.split ∙ append_assoc h.front (h.names ∷ h.rows) (words ∷ []);
      is_table = h.is_table;
      are_rows = all_rows-more h.rows words h.are_rows e;
      is_open = grown
          ∙ ap (λ p. record { pins = n; plane = p }) (grown_at table.rows n table.plane (marks_of words) words plane is.good.is (row_plane-last n words plane is.good.is) is.good.agrees)
          ∙ ap opened (sym (with_rows-append (named (arguments h.names)) h.rows (words ∷ [])));
    }

open_behind : (earlier : List Line) → RightBefore earlier → (now : OpenTable) → table_before earlier ≡ Some now → IsOpenBehind earlier now
open_behind [] right now e = absurd (none-some now e)
open_behind (words ∷ earlier) right now e = at_kind (kind_of words) refl (table_before earlier) refl (open_behind earlier right.1) e
  where
    at_kind : (k : Kind) → kind_of words ≡ k → (o : Option OpenTable) → table_before earlier ≡ o → ((t : OpenTable) → table_before earlier ≡ Some t → IsOpenBehind earlier t)
        → table_by k words o ≡ Some now → IsOpenBehind (words ∷ earlier) now
    at_kind kind.Names is o before rest made = opens earlier words now is made
    at_kind kind.Row is (Some t) before rest made = grows earlier words t now is before right.0 e (rest t before)
    at_kind kind.Row is None before rest made = absurd (none-some now made)
    at_kind kind.Model is o before rest made = absurd (none-some now made)
    at_kind kind.Inputs is o before rest made = absurd (none-some now made)
    at_kind kind.Outputs is o before rest made = absurd (none-some now made)
    at_kind kind.End is o before rest made = absurd (none-some now made)
    at_kind kind.Command is o before rest made = absurd (none-some now made)

-- ---- a row in a text

record IsRightAt (earlier : List Line) (words : Line) : Type 0 where
  before : RightBefore earlier
  here : AllRight earlier (words ∷ [])

right_at : (earlier before : List Line) (words : Line) (after : List Line) → RightBefore earlier → AllRight earlier (before ++ words ∷ after) → IsRightAt (reverse before ++ earlier) words
right_at earlier [] words after right h = record { before = right; here = (h.0, tt) }
right_at earlier (line ∷ before) words after right h =
    subst (λ l. IsRightAt l words) (sym (ap (λ l. l ++ earlier) (reverse-cons line before) ∙ append_assoc (reverse before) (line ∷ []) earlier))
    (right_at (line ∷ earlier) before words after ((h.0, tt), right) h.1)

record IsJudged (earlier : List Line) : Type 0 where
  now : OpenTable
  is : table_before earlier ≡ Some now

judged : (earlier : List Line) (words : Line) → AllRight earlier (words ∷ []) → kind_of words ≡ kind.Row → IsJudged earlier
judged earlier words right e =
    at_table (table_before earlier) refl (ap (λ k. wrong_by k (place_after earlier) words) (sym e) ∙ right_by (place_after earlier) words right.0)
  where
    at_table : (o : Option OpenTable) → table_before earlier ≡ o → wrong_row o words ≡ None → IsJudged earlier
    at_table (Some now) is none = record { now = now; is = is }
    at_table None is none = absurd (none-some stray_row (sym none))

row-at : (before : List Line) (row : Line) (after : List Line) → AllRight [] (before ++ row ∷ after) → kind_of row ≡ kind.Row → IsRowOfTable before row after
row-at before row after right e =
    let at : IsRightAt (reverse before) row = subst (λ l. IsRightAt l row) (append-nil (reverse before)) (right_at [] before row after tt right) in
    let by = judged (reverse before) row at.here e in
    let h = open_behind (reverse before) at.before by.now by.is in
    let split : before ≡ h.front ++ h.names ∷ h.rows = sym (reverse-reverse before) ∙ h.split in
    record {
      front = h.front;
      names = h.names;
      rows = h.rows;
      split = split;
      is_table = h.is_table;
      are_rows = h.are_rows;
      judged_by = by.is ∙ ap (λ (o : OpenTable). Some o) h.is_open;
      tables = ap (λ l. tables_of (l ++ row ∷ after)) split ∙ tables_at h.front h.names h.rows row after h.is_table h.are_rows e;
    }

pub row-of_table : (before : List Statement) (s : Statement) (after : List Statement) → first_wrong (before ++ s ∷ after) ≡ None → kind_of s.words ≡ kind.Row
    → IsRowOfTable (map (λ s. s.words) before) s.words (map (λ s. s.words) after)
row-of_table before s after none e =
    let words : List Statement → List Line = map (λ s. s.words) in
    row-at (words before) s.words (words after) (subst (AllRight []) (map-append (λ s. s.words) before (s ∷ after)) (all_right (before ++ s ∷ after) none)) e
