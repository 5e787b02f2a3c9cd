-- The lines and literals of rows and tables, one after another.
use Rattle.std.proofs.Common.{◌≡◌, ℕ, zero, suc, ◌+◌, ◌-◌, ◌<◌, ◌≤◌, List, [], ◌∷◌, ◌++◌, length, map, take, get_or, refl, sym, ap, ◌∙◌, append_assoc, arith}
use Rattle.std.specs.List.{sum_by}
use Rattle.std.specs.Prelude.{All}
use Rattle.std.proofs.lemmas.List.{append-nil, take_all, length-map}
use Rattle.std.proofs.lemmas.List.Sums.{sum_by-cons, sum_by_more, sum_by_more_le}
use Rattle.semantics.specs.declared.mark.Mark.{Mark}
use Rattle.semantics.specs.Net.{TableValue, row_literals}
use Rattle.aiger_semantics.specs.declared.and_line.AndLine.{AndLine}
use Rattle.aiger_semantics.specs.Circuit.{negated}
use Rattle.aiger_semantics.specs.NetCircuit.{Literals, joins, joined, row_inputs, row_ands, rows_ands, table_ands, rows_joins, rows_joined, table_joins, tables_joins}
use Rattle.aiger_semantics.proofs.Numbered.{row_inputs-length}

rows_joins-suc : (literals : Literals) (pins : List ℕ) (next m : ℕ) (rows : List (List Mark)) (i : ℕ) (d : List Mark) → i < length rows → m ≡ next + rows_ands (take i rows)
    → rows_joins literals next pins (take (suc i) rows) ≡ rows_joins literals next pins (take i rows) ++ joins m (row_inputs literals (get_or rows i d) pins)
rows_joins-suc literals pins next m [] i d low at = absurd (omega arith)
rows_joins-suc literals pins next m (marks ∷ rows) zero d low at =
    let same : next ≡ m = omega arith in
    append-nil (joins next (row_inputs literals marks pins)) ∙ ap (λ k. joins k (row_inputs literals marks pins)) same
rows_joins-suc literals pins next m (marks ∷ rows) (suc i) d low at =
    let sum = sum_by-cons row_ands marks (take i rows) in
    ap (λ l. joins next (row_inputs literals marks pins) ++ l) (rows_joins-suc literals pins (next + row_ands marks) m rows i d (omega arith) (omega (arith, sum)))
    ∙ sym (append_assoc (joins next (row_inputs literals marks pins)) (rows_joins literals (next + row_ands marks) pins (take i rows)) (joins m (row_inputs literals (get_or rows i d) pins)))

rows_joined-suc : (literals : Literals) (pins : List ℕ) (next m : ℕ) (rows : List (List Mark)) (i : ℕ) (d : List Mark) → i < length rows → m ≡ next + rows_ands (take i rows)
    → map negated (rows_joined literals next pins (take (suc i) rows))
    ≡ map negated (rows_joined literals next pins (take i rows)) ++ negated (joined m (row_inputs literals (get_or rows i d) pins)) ∷ []
rows_joined-suc literals pins next m [] i d low at = absurd (omega arith)
rows_joined-suc literals pins next m (marks ∷ rows) zero d low at =
    let same : next ≡ m = omega arith in ap (λ k. negated (joined k (row_inputs literals marks pins)) ∷ []) same
rows_joined-suc literals pins next m (marks ∷ rows) (suc i) d low at =
    let sum = sum_by-cons row_ands marks (take i rows) in
    ap (λ l. negated (joined next (row_inputs literals marks pins)) ∷ l) (rows_joined-suc literals pins (next + row_ands marks) m rows i d (omega arith) (omega (arith, sum)))

tables_joins-suc : (literals : Literals) (next m : ℕ) (tables : List TableValue) (i : ℕ) (d : TableValue) → i < length tables → m ≡ next + sum_by table_ands (take i tables)
    → tables_joins literals next (take (suc i) tables) ≡ tables_joins literals next (take i tables) ++ table_joins literals m (get_or tables i d)
tables_joins-suc literals next m [] i d low at = absurd (omega arith)
tables_joins-suc literals next m (t ∷ tables) zero d low at =
    let same : next ≡ m = omega arith in
    append-nil (table_joins literals next t) ∙ ap (λ k. table_joins literals k t) same
tables_joins-suc literals next m (t ∷ tables) (suc i) d low at =
    let sum = sum_by-cons table_ands t (take i tables) in
    ap (λ l. table_joins literals next t ++ l) (tables_joins-suc literals (next + table_ands t) m tables i d (omega arith) (omega (arith, sum)))
    ∙ sym (append_assoc (table_joins literals next t) (tables_joins literals (next + table_ands t) (take i tables)) (table_joins literals m (get_or tables i d)))

-- how many literals a row of the list asks for
pub asked-length : (literals : Literals) (pins asked : List ℕ) (rows : List (List Mark)) (i : ℕ) (row : List Mark) → All (λ (marks : List Mark). length marks ≡ length pins) rows → i < length rows
    → row ≡ get_or rows i row → asked ≡ row_inputs literals row pins → length asked ≡ row_literals (get_or rows i row)
asked-length literals pins asked rows i row wide low er ea =
    ap length ea ∙ row_inputs-length literals row pins (ap length er ∙ wide i row low) ∙ ap row_literals er

-- the first i rows: the next variable, and what was added or put for them
pub record AreRowsJoined (literals : Literals) (pins : List ℕ) (first : ℕ) (rows : List (List Mark)) (i next : ℕ) (before lines : List AndLine) : Type 0 where
  pub next_is : next ≡ first + rows_ands (take i rows)
  pub lines_are : lines ≡ before ++ rows_joins literals first pins (take i rows)

pub record AreRowsOpposed (literals : Literals) (pins : List ℕ) (first : ℕ) (rows : List (List Mark)) (i next : ℕ) (opposites : List ℕ) : Type 0 where
  pub next_is : next ≡ first + rows_ands (take i rows)
  pub opposites_are : opposites ≡ map negated (rows_joined literals first pins (take i rows))

-- the next variable behind one more row
pub next-row : (first next : ℕ) (rows : List (List Mark)) (i size : ℕ) (row : List Mark) → next ≡ first + rows_ands (take i rows) → i < length rows → size ≡ row_literals (get_or rows i row)
    → next + (size - 1) ≡ first + rows_ands (take (i + 1) rows)
next-row first next rows i size row at low es = let sum = sum_by_more row_ands rows i row low in omega (arith, sum)

-- that is at most the variable behind all rows
pub next-row_fits : (first next : ℕ) (rows : List (List Mark)) (i size bound : ℕ) (row : List Mark) → next ≡ first + rows_ands (take i rows) → i < length rows → size ≡ row_literals (get_or rows i row)
    → first + rows_ands rows ≤ bound → next + (size - 1) ≤ bound
next-row_fits first next rows i size bound row at low es fits = let sum = sum_by_more_le row_ands rows i row low in omega (arith, sum)

module _ (literals : Literals) (pins : List ℕ) (first : ℕ) (rows : List (List Mark)) where
  pub rows_joined-none : (before lines : List AndLine) → lines ≡ before → AreRowsJoined literals pins first rows 0 first before lines
  rows_joined-none before lines same = record { next_is = omega arith; lines_are = same ∙ sym (append-nil before) }

  pub rows_joined-more : (i next : ℕ) (before lines more : List AndLine) (row : List Mark) (asked : List ℕ) (after : ℕ) → AreRowsJoined literals pins first rows i next before lines → i < length rows
      → row ≡ get_or rows i row → asked ≡ row_inputs literals row pins → more ≡ lines ++ joins next asked → after ≡ first + rows_ands (take (i + 1) rows)
      → AreRowsJoined literals pins first rows (i + 1) after before more
  rows_joined-more i next before lines more row asked after so low er ea em at =
      let one : suc i ≡ i + 1 = omega arith in
      record {
        next_is = at;
        lines_are =
            em ∙ ap (λ l. l ++ joins next asked) so.lines_are
            ∙ ap (λ l. (before ++ rows_joins literals first pins (take i rows)) ++ joins next l) (ea ∙ ap (λ (r : List Mark). row_inputs literals r pins) er)
            ∙ append_assoc before (rows_joins literals first pins (take i rows)) (joins next (row_inputs literals (get_or rows i row) pins))
            ∙ ap (λ l. before ++ l) (sym (rows_joins-suc literals pins first next rows i row low so.next_is))
            ∙ ap (λ k. before ++ rows_joins literals first pins (take k rows)) one;
      }

  pub rows_joined-all : (i next : ℕ) (before lines : List AndLine) → AreRowsJoined literals pins first rows i next before lines → length rows ≤ i
      → lines ≡ before ++ rows_joins literals first pins rows
  rows_joined-all i next before lines so past = so.lines_are ∙ ap (λ (rs : List (List Mark)). before ++ rows_joins literals first pins rs) (take_all i rows past)

  pub rows_opposed-none : (opposites : List ℕ) → opposites ≡ [] → AreRowsOpposed literals pins first rows 0 first opposites
  rows_opposed-none opposites none = record { next_is = omega arith; opposites_are = none }

  pub rows_opposed-more : (i next : ℕ) (opposites more : List ℕ) (row : List Mark) (asked : List ℕ) (new after : ℕ) → AreRowsOpposed literals pins first rows i next opposites → i < length rows
      → row ≡ get_or rows i row → asked ≡ row_inputs literals row pins → new ≡ negated (joined next asked) → more ≡ opposites ++ new ∷ [] → after ≡ first + rows_ands (take (i + 1) rows)
      → AreRowsOpposed literals pins first rows (i + 1) after more
  rows_opposed-more i next opposites more row asked new after so low er ea en em at =
      let one : suc i ≡ i + 1 = omega arith in
      record {
        next_is = at;
        opposites_are =
            em ∙ ap (λ l. l ++ new ∷ []) so.opposites_are
            ∙ ap (λ k. map negated (rows_joined literals first pins (take i rows)) ++ k ∷ [])
            (en ∙ ap (λ l. negated (joined next l)) (ea ∙ ap (λ (r : List Mark). row_inputs literals r pins) er))
            ∙ sym (rows_joined-suc literals pins first next rows i row low so.next_is)
            ∙ ap (λ k. map negated (rows_joined literals first pins (take k rows))) one;
      }

  pub rows_opposed-all : (i next : ℕ) (opposites : List ℕ) → AreRowsOpposed literals pins first rows i next opposites → length rows ≤ i → opposites ≡ map negated (rows_joined literals first pins rows)
  rows_opposed-all i next opposites so past = so.opposites_are ∙ ap (λ (rs : List (List Mark)). map negated (rows_joined literals first pins rs)) (take_all i rows past)

  pub next-all : (i next : ℕ) → next ≡ first + rows_ands (take i rows) → length rows ≤ i → next ≡ first + rows_ands rows
  next-all i next at past = at ∙ ap (λ (rs : List (List Mark)). first + rows_ands rs) (take_all i rows past)

-- how many lines the first rows have, and one more
pub ands-row : (count : ℕ) (rows : List (List Mark)) (i size : ℕ) (row : List Mark) → count ≡ rows_ands (take i rows) → i < length rows → size ≡ row_literals (get_or rows i row)
    → count + (size - 1) ≡ rows_ands (take (i + 1) rows)
ands-row count rows i size row at low es = let sum = sum_by_more row_ands rows i row low in omega (arith, sum)

pub ands-row_fits : (count : ℕ) (rows : List (List Mark)) (i size : ℕ) (row : List Mark) → count ≡ rows_ands (take i rows) → i < length rows → size ≡ row_literals (get_or rows i row)
    → count + (size - 1) ≤ rows_ands rows
ands-row_fits count rows i size row at low es = let sum = sum_by_more_le row_ands rows i row low in omega (arith, sum)

pub tables_joins-more : (literals : Literals) (n first : ℕ) (tables : List TableValue) (i : ℕ) (t d : TableValue) (lines more : List AndLine) → i < length tables
    → first ≡ n + 1 + sum_by table_ands (take i tables)
    → t ≡ get_or tables i d → lines ≡ tables_joins literals (n + 1) (take i tables) → more ≡ lines ++ table_joins literals first t → more ≡ tables_joins literals (n + 1) (take (i + 1) tables)
tables_joins-more literals n first tables i t d lines more low at et el em =
    let one : suc i ≡ i + 1 = omega arith in
    em ∙ ap (λ l. l ++ table_joins literals first t) el
    ∙ ap (λ (u : TableValue). tables_joins literals (n + 1) (take i tables) ++ table_joins literals first u) et
    ∙ sym (tables_joins-suc literals (n + 1) first tables i d low at)
    ∙ ap (λ k. tables_joins literals (n + 1) (take k tables)) one

joined-length : (literals : Literals) (next : ℕ) (pins : List ℕ) (rows : List (List Mark)) → length (rows_joined literals next pins rows) ≡ length rows
joined-length literals next pins [] = refl
joined-length literals next pins (marks ∷ rows) = ap suc (joined-length literals (next + row_ands marks) pins rows)

-- the lines that join the opposites of the rows fit with the other lines of the table
pub opposites_fit : (literals : Literals) (first next bound : ℕ) (t : TableValue) (rows : List (List Mark)) (pins opposites : List ℕ) → rows ≡ t.rows → next ≡ first + rows_ands rows
    → opposites ≡ map negated (rows_joined literals first pins rows) → first + table_ands t ≤ bound → next + (length opposites - 1) ≤ bound
opposites_fit literals first next bound t rows pins opposites er en eo fits =
    let size : length opposites ≡ length rows = ap length eo ∙ length-map (rows_joined literals first pins rows) negated ∙ joined-length literals first pins rows in
    let same : rows_ands rows ≡ rows_ands t.rows = ap rows_ands er in
    let count : length rows ≡ length t.rows = ap length er in
    omega (arith, size, same, count)
