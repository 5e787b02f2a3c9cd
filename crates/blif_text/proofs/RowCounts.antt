-- Rows that are kept or not change nothing of a net but its rows, and each row belongs to a table.
use Rattle.std.proofs.Common.{◌≡◌, ℕ, ◌+◌, ◌≤◌, Bool, true, false, cond, List, [], ◌∷◌, length, map, flat_map, codes, Option, Some, None, refl, sym, ap, ◌∙◌, arith}
use Rattle.std.specs.Prelude.{nat_le, filter, sum_by}
use Rattle.std.specs.List.{find}
use Rattle.std.proofs.lemmas.List.{length_push}
use Rattle.std.proofs.lemmas.List.Sums.{sum_by-cons}
use Rattle.std.proofs.lemmas.Bool.{leb-false, false≢true}
use Rattle.std.proofs.lemmas.Option.{none-some}
use Rattle.semantics.specs.declared.limits.TheConstants.{MOST_ROWS}
use Rattle.semantics.specs.Texts.{Bytes, Line}
use Rattle.semantics.specs.Net.{row_count}
use Rattle.blif_semantics.specs.declared.kind.Kind.{Kind}
use Rattle.blif_semantics.specs.declared.kind.Kind.TheVariants as kind
use Rattle.blif_semantics.specs.Lines.{LogicalLine, words_of}
use Rattle.blif_semantics.specs.Statements.{kind_of, first_word, arguments, is_model, OpenTable, table_by, table_before, place_after, stray_row, wrong_by, wrong_row}
use Rattle.blif_semantics.specs.Tables.{NamedTable, marks_of, named, with_row, with_rows, if_row, rows_first, table_first, tables_of}
use Rattle.blif_semantics.specs.Reading.{model_of, is_inputs, is_outputs, named_net, names_of, numbered}
use Rattle.blif_semantics.specs.Named.{with_signals}
use Rattle.blif_semantics.proofs.RightLines.{AllRight, right_by}
use Rattle.blif_text.specs.KeptLines.{is_row, words_in, rows_in, few_rows, table_without_rows, without_rows}

-- ---- lines of a kind other than rows

-- the lines of some kinds
abbrev of_kind : (Kind → Bool) → List Line → List Line
of_kind test lines = filter (λ words. test (kind_of words)) lines

row_kind : (k : Kind) → is_row k ≡ true → k ≡ kind.Row
row_kind kind.Row e = refl
row_kind kind.Model e = absurd (false≢true e)
row_kind kind.Inputs e = absurd (false≢true e)
row_kind kind.Outputs e = absurd (false≢true e)
row_kind kind.Names e = absurd (false≢true e)
row_kind kind.End e = absurd (false≢true e)
row_kind kind.Command e = absurd (false≢true e)

module _ (test : Kind → Bool) (other : test kind.Row ≡ false) where
  same_more : (line : LogicalLine) (a b : List LogicalLine) → of_kind test (words_in a) ≡ of_kind test (words_in b) → of_kind test (words_in (line ∷ a)) ≡ of_kind test (words_in (line ∷ b))
  same_more line a b same = ap (λ rest. cond (test (kind_of (words_of line.bytes))) (words_of line.bytes ∷ rest) rest) same

  same_dropped : (line : LogicalLine) (a b : List LogicalLine) → is_row (kind_of (words_of line.bytes)) ≡ true → of_kind test (words_in a) ≡ of_kind test (words_in b)
      → of_kind test (words_in a) ≡ of_kind test (words_in (line ∷ b))
  same_dropped line a b row same =
      let no : test (kind_of (words_of line.bytes)) ≡ false = ap test (row_kind _ row) ∙ other in
      same ∙ ap (λ t. cond t (words_of line.bytes ∷ of_kind test (words_in b)) (of_kind test (words_in b))) (sym no)

  same_at : (rows : ℕ) (line : LogicalLine) (lines : List LogicalLine) (row few : Bool) → is_row (kind_of (words_of line.bytes)) ≡ row
      → of_kind test (words_in (few_rows (rows + 1) lines)) ≡ of_kind test (words_in lines) → of_kind test (words_in (few_rows rows lines)) ≡ of_kind test (words_in lines)
      → of_kind test (words_in (cond row (cond few (line ∷ few_rows (rows + 1) lines) (few_rows rows lines)) (line ∷ few_rows rows lines))) ≡ of_kind test (words_in (line ∷ lines))
  same_at rows line lines true true e more same = same_more line (few_rows (rows + 1) lines) lines more
  same_at rows line lines true false e more same = same_dropped line (few_rows rows lines) lines e same
  same_at rows line lines false few e more same = same_more line (few_rows rows lines) lines same

  -- of other lines than rows all are kept
  pub same_kept : (rows : ℕ) (lines : List LogicalLine) → of_kind test (words_in (few_rows rows lines)) ≡ of_kind test (words_in lines)
  same_kept rows [] = refl
  same_kept rows (line ∷ lines) =
      same_at rows line lines (is_row (kind_of (words_of line.bytes))) (nat_le rows MOST_ROWS) refl (same_kept (rows + 1) lines) (same_kept rows lines)

find-filter : {X : Type 0} (p : X → Bool) (xs : List X) → find p xs ≡ find p (filter p xs)
find-filter p [] = refl
find-filter p (x ∷ xs) = at_test (p x) refl (find-filter p xs)
  where
    at_test : (t : Bool) → p x ≡ t → find p xs ≡ find p (filter p xs) → cond t (Some x) (find p xs) ≡ find p (cond t (x ∷ filter p xs) (filter p xs))
    at_test true e rest = ap (λ t. cond t (Some x) (find p (filter p xs))) (sym e)
    at_test false e rest = rest

-- ---- tables

abbrev is_names : Kind → Bool
is_names kind.Names = true
is_names _ = false

bare_rows : (t : NamedTable) (rows : List Line) → table_without_rows (with_rows t rows) ≡ table_without_rows t
bare_rows t [] = refl
bare_rows t (row ∷ rows) = bare_rows (with_row t row) rows

-- without their rows the tables are those of the `.names` lines
bare_tables : (lines : List Line) → map table_without_rows (tables_of lines) ≡ map (λ words. named (arguments words)) (of_kind is_names lines)
bare_tables [] = refl
bare_tables (words ∷ lines) = at_kind (kind_of words) (bare_tables lines)
  where
    at_kind : (k : Kind) → map table_without_rows (tables_of lines) ≡ map (λ w. named (arguments w)) (of_kind is_names lines)
        → map table_without_rows (table_first k words lines (tables_of lines)) ≡ map (λ w. named (arguments w)) (cond (is_names k) (words ∷ of_kind is_names lines) (of_kind is_names lines))
    at_kind kind.Names rest = λ i. bare_rows (named (arguments words)) (rows_first lines) i ∷ rest i
    at_kind kind.Row rest = rest
    at_kind kind.Model rest = rest
    at_kind kind.Inputs rest = rest
    at_kind kind.Outputs rest = rest
    at_kind kind.End rest = rest
    at_kind kind.Command rest = rest

-- the rows that are kept or not are all that tells the nets apart
pub bare_kept : (rows : ℕ) (lines : List LogicalLine) → without_rows (named_net (words_in (few_rows rows lines))) ≡ without_rows (named_net (words_in lines))
unfolding named_net
bare_kept rows lines =
    let few : List Line = words_in (few_rows rows lines) in
    let all : List Line = words_in lines in
    let model : model_of few ≡ model_of all =
    ap (λ o. elim o [ None ↦ codes "top" | Some words ↦ first_word (arguments words) ])
    (find-filter (λ w. is_model (kind_of w)) few ∙ ap (find (λ w. is_model (kind_of w))) (same_kept is_model refl rows lines) ∙ sym (find-filter (λ w. is_model (kind_of w)) all)) in
    let tables : map table_without_rows (tables_of few) ≡ map table_without_rows (tables_of all) =
    bare_tables few ∙ ap (map (λ w. named (arguments w))) (same_kept is_names refl rows lines) ∙ sym (bare_tables all) in
    λ i. record {
      model = model i;
      inputs = flat_map arguments (same_kept is_inputs refl rows lines i);
      outputs = flat_map arguments (same_kept is_outputs refl rows lines i);
      tables = tables i;
    }

-- ---- the number of rows

rows_with : (t : NamedTable) (rows : List Line) → length (with_rows t rows).rows ≡ length t.rows + length rows
rows_with t [] = omega arith
rows_with t (row ∷ rows) = omega (arith, rows_with (with_row t row) rows, length_push t.rows (marks_of row))

abbrev total : List NamedTable → ℕ
total tables = sum_by (λ t. length t.rows) tables

-- behind a line that is no table no row comes first
none_first : (earlier lines : List Line) → table_before earlier ≡ None → AllRight earlier lines → rows_first lines ≡ []
none_first earlier [] closed h = refl
none_first earlier (words ∷ lines) closed h = at_kind (kind_of words) refl
  where
    at_kind : (k : Kind) → kind_of words ≡ k → if_row k (words ∷ rows_first lines) [] ≡ []
    at_kind kind.Row e =
        absurd (none-some stray_row (sym (ap (λ t. wrong_row t words) (sym closed) ∙ ap (λ k. wrong_by k (place_after earlier) words) (sym e) ∙ right_by (place_after earlier) words h.0)))
    at_kind kind.Model e = refl
    at_kind kind.Inputs e = refl
    at_kind kind.Outputs e = refl
    at_kind kind.Names e = refl
    at_kind kind.End e = refl
    at_kind kind.Command e = refl

-- a line, where the rows behind it are counted
counted_at : (before : Option OpenTable) (words : Line) (lines : List Line) (k : Kind) → total (tables_of lines) + length (rows_first lines) ≡ rows_in lines
    → (table_by k words before ≡ None → rows_first lines ≡ [])
    → total (table_first k words lines (tables_of lines)) + length (if_row k (words ∷ rows_first lines) []) ≡ cond (is_row k) 1 0 + rows_in lines
counted_at before words lines kind.Row rest closed = omega (arith, rest)
counted_at before words lines kind.Names rest closed =
    omega (arith, rest, sum_by-cons (λ t. length t.rows) (with_rows (named (arguments words)) (rows_first lines)) (tables_of lines), rows_with (named (arguments words)) (rows_first lines))
counted_at before words lines kind.Model rest closed = omega (arith, rest, ap length (closed refl))
counted_at before words lines kind.Inputs rest closed = omega (arith, rest, ap length (closed refl))
counted_at before words lines kind.Outputs rest closed = omega (arith, rest, ap length (closed refl))
counted_at before words lines kind.End rest closed = omega (arith, rest, ap length (closed refl))
counted_at before words lines kind.Command rest closed = omega (arith, rest, ap length (closed refl))

-- each row is a row of a table, or comes before any other line
rows_counted : (earlier lines : List Line) → AllRight earlier lines → total (tables_of lines) + length (rows_first lines) ≡ rows_in lines
rows_counted earlier [] h = refl
rows_counted earlier (words ∷ lines) h =
    counted_at (table_before earlier) words lines (kind_of words) (rows_counted (words ∷ earlier) lines h.1) (λ e. none_first (words ∷ earlier) lines e h.1)
    ∙ sym (sum_by-cons (λ w. cond (is_row (kind_of w)) 1 0) words lines)

total_numbered : (names : List Bytes) (tables : List NamedTable) → sum_by (λ t. length t.rows) (map (with_signals names) tables) ≡ total tables
total_numbered names [] = refl
total_numbered names (t ∷ tables) =
    sum_by-cons (λ u. length u.rows) (with_signals names t) (map (with_signals names) tables)
    ∙ ap (λ n. length t.rows + n) (total_numbered names tables)
    ∙ sym (sum_by-cons (λ u. length u.rows) t tables)

-- the rows of a net are the rows of its text
pub row_count-lines : (lines : List Line) → AllRight [] lines → row_count (numbered (named_net lines)) ≡ rows_in lines
unfolding numbered named_net
row_count-lines lines h =
    let first : rows_first lines ≡ [] = none_first [] lines refl h in
    omega (arith, total_numbered (names_of (named_net lines)) (tables_of lines), rows_counted [] lines h, ap length first)

-- ---- few rows are all kept

all_kept-at : (rows : ℕ) (line : LogicalLine) (lines : List LogicalLine) (row few : Bool) → nat_le rows MOST_ROWS ≡ few → rows + (cond row 1 0 + rows_in (words_in lines)) ≤ MOST_ROWS
    → (rows + 1 + rows_in (words_in lines) ≤ MOST_ROWS → few_rows (rows + 1) lines ≡ lines) → (rows + rows_in (words_in lines) ≤ MOST_ROWS → few_rows rows lines ≡ lines)
    → cond row (cond few (line ∷ few_rows (rows + 1) lines) (few_rows rows lines)) (line ∷ few_rows rows lines) ≡ line ∷ lines
all_kept-at rows line lines false few e fits more same = ap (λ l. line ∷ l) (same (omega (arith, fits)))
all_kept-at rows line lines true true e fits more same = ap (λ l. line ∷ l) (more (omega (arith, fits)))
all_kept-at rows line lines true false e fits more same = let many = leb-false rows MOST_ROWS e in absurd (omega (arith, many, fits))

pub all_kept : (rows : ℕ) (lines : List LogicalLine) → rows + rows_in (words_in lines) ≤ MOST_ROWS → few_rows rows lines ≡ lines
all_kept rows [] fits = refl
all_kept rows (line ∷ lines) fits =
    all_kept-at rows line lines (is_row (kind_of (words_of line.bytes))) (nat_le rows MOST_ROWS) refl
    (let sum = sum_by-cons (λ w. cond (is_row (kind_of w)) 1 0) (words_of line.bytes) (words_in lines) in omega (arith, sum, fits))
    (all_kept (rows + 1) lines) (all_kept rows lines)
