-- The variables of AND lines are counted up, and their literals are of variables that were counted.
use Rattle.std.proofs.Common.{◌≡◌, ℕ, zero, suc, ◌+◌, ◌-◌, ◌*◌, ◌%◌, ◌<◌, ◌≤◌, Bool, true, false, cond, List, [], ◌∷◌, ◌++◌, length, map, refl, sym, ap, subst, ◌∙◌, inl, inr, arith}
use Rattle.std.specs.Prelude.{All}
use Rattle.std.specs.List.{AllByRecursion, sum_by, range_with_len}
use Rattle.std.proofs.lemmas.Bool.{eq-eqb, ne_eqb, cases_eq, cases_lt}
use Rattle.std.proofs.lemmas.List.{length-append, length-map}
use Rattle.std.proofs.lemmas.List.Sums.{sum_by-cons, sum_by_more_le}
use Rattle.std.proofs.lemmas.List.FromFn.{length-range_with_len}
use Rattle.std.proofs.lemmas.List.Elements.{recursion_from_All, All-weaker}
use Rattle.semantics.specs.declared.mark.Mark.{Mark}
use Rattle.semantics.specs.declared.mark.Mark.TheVariants.{Zero, One, Dash}
use Rattle.semantics.specs.Net.{TableValue, NetValue, no_table, table_at, input_count, signal_count, is_literal, row_literals, IsTable, IsGroundedIn, IsAcyclic, IsSound}
use Rattle.semantics.proofs.Members.{each_member, each_weaker}
use Rattle.semantics.proofs.Depends.{pin_is_signal}
use Rattle.semantics.proofs.Values.{IsGroundedIn-signal}
use Rattle.aiger_semantics.specs.declared.and_line.AndLine.{AndLine}
use Rattle.aiger_semantics.specs.Circuit.{literal_of_variable, negated}
use Rattle.aiger_semantics.specs.NetCircuit.{Literals, joins_after, joins, joined_after, joined, marked, row_inputs, row_ands, rows_ands, table_ands, rows_joins, rows_joined, no_rows, table_joins}
use Rattle.aiger_semantics.specs.NetCircuit.{disjunction, table_literal, first_variable, signal_literal, tables_joins, ands_of}
use Rattle.aiger_semantics.specs.Laws.{AreLiterals, variable_count, IsLiteralOf}
use Rattle.aiger_semantics.proofs.Each.{each-append}
use Rattle.aiger_semantics.proofs.Bits.{AreWide}
use Rattle.aiger_semantics.proofs.SignalLiterals.{are_literals}
use Rattle.aiger_semantics.proofs.NetOutputs.{lines_all}

-- the lines' variables are counted up from `next`
abbrev pub CountsFrom : ℕ → List AndLine → Type 0
CountsFrom next [] = Unit {0}
CountsFrom next (a ∷ lines) = (a.variable ≡ next) × CountsFrom (next + 1) lines

counts-append : (next m : ℕ) (xs ys : List AndLine) → CountsFrom next xs → m ≡ next + length xs → CountsFrom m ys → CountsFrom next (xs ++ ys)
counts-append next m [] ys h at k = let same : m ≡ next = omega arith in subst (λ j. CountsFrom j ys) same k
counts-append next m (x ∷ xs) ys h at k = (h.0, counts-append (next + 1) m xs ys h.1 (omega arith) k)

joins_after-counts : (next so_far : ℕ) (literals : List ℕ) → CountsFrom next (joins_after next so_far literals)
joins_after-counts next so_far [] = tt
joins_after-counts next so_far (literal ∷ literals) = (refl, joins_after-counts (next + 1) (literal_of_variable next) literals)

joins-counts : (next : ℕ) (literals : List ℕ) → CountsFrom next (joins next literals)
joins-counts next [] = tt
joins-counts next (literal ∷ literals) = joins_after-counts next literal literals

joins_after-length : (next so_far : ℕ) (literals : List ℕ) → length (joins_after next so_far literals) ≡ length literals
joins_after-length next so_far [] = refl
joins_after-length next so_far (literal ∷ literals) = ap suc (joins_after-length (next + 1) (literal_of_variable next) literals)

pub joins-length : (next : ℕ) (literals : List ℕ) → length (joins next literals) ≡ length literals - 1
joins-length next [] = refl
joins-length next (literal ∷ literals) = let e = joins_after-length next literal literals in omega (arith, e)

marked-length : (m : Mark) (literal : ℕ) → length (marked m literal) ≡ cond (is_literal m) 1 0
marked-length Zero literal = refl
marked-length One literal = refl
marked-length Dash literal = refl

pub row_inputs-length : (literals : Literals) (marks : List Mark) (pins : List ℕ) → length marks ≡ length pins → length (row_inputs literals marks pins) ≡ row_literals marks
row_inputs-length literals [] pins same = refl
row_inputs-length literals (m ∷ marks) [] same = absurd (omega arith)
row_inputs-length literals (m ∷ marks) (s ∷ pins) same =
    let more : length (row_inputs literals marks pins) ≡ row_literals marks = row_inputs-length literals marks pins (omega arith) in
    let here = marked-length m (literals s) in
    let sum = sum_by-cons (λ (k : Mark). cond (is_literal k) 1 0) m marks in
    length-append (marked m (literals s)) (row_inputs literals marks pins)
    ∙ ap (λ k. k + length (row_inputs literals marks pins)) here ∙ ap (λ k. cond (is_literal m) 1 0 + k) more ∙ sym sum

pub row-length : (literals : Literals) (next : ℕ) (marks : List Mark) (pins : List ℕ) → length marks ≡ length pins → length (joins next (row_inputs literals marks pins)) ≡ row_ands marks
row-length literals next marks pins same = joins-length next (row_inputs literals marks pins) ∙ ap (λ k. k - 1) (row_inputs-length literals marks pins same)

pub rows-length : (literals : Literals) (next : ℕ) (pins : List ℕ) (rows : List (List Mark)) → AreWide pins rows → length (rows_joins literals next pins rows) ≡ rows_ands rows
rows-length literals next pins [] wide = refl
rows-length literals next pins (marks ∷ rows) wide =
    let here = row-length literals next marks pins wide.0 in
    let more = rows-length literals (next + row_ands marks) pins rows wide.1 in
    let sum = sum_by-cons row_ands marks rows in
    length-append (joins next (row_inputs literals marks pins)) (rows_joins literals (next + row_ands marks) pins rows)
    ∙ ap (λ k. k + length (rows_joins literals (next + row_ands marks) pins rows)) here ∙ ap (λ k. row_ands marks + k) more ∙ sym sum

rows-counts : (literals : Literals) (next : ℕ) (pins : List ℕ) (rows : List (List Mark)) → AreWide pins rows → CountsFrom next (rows_joins literals next pins rows)
rows-counts literals next pins [] wide = tt
rows-counts literals next pins (marks ∷ rows) wide =
    let size = row-length literals next marks pins wide.0 in
    counts-append next (next + row_ands marks) (joins next (row_inputs literals marks pins)) (rows_joins literals (next + row_ands marks) pins rows)
    (joins-counts next (row_inputs literals marks pins)) (omega (arith, size)) (rows-counts literals (next + row_ands marks) pins rows wide.1)

rows_joined-length : (literals : Literals) (next : ℕ) (pins : List ℕ) (rows : List (List Mark)) → length (rows_joined literals next pins rows) ≡ length rows
rows_joined-length literals next pins [] = refl
rows_joined-length literals next pins (marks ∷ rows) = ap suc (rows_joined-length literals (next + row_ands marks) pins rows)

pub no_rows-length : (literals : Literals) (next : ℕ) (t : TableValue) → length (no_rows literals next t) ≡ length t.rows
no_rows-length literals next t = length-map (rows_joined literals next t.pins t.rows) negated ∙ rows_joined-length literals next t.pins t.rows

pub table-length : (literals : Literals) (next : ℕ) (t : TableValue) → AreWide t.pins t.rows → length (table_joins literals next t) ≡ table_ands t
table-length literals next t wide =
    let first = rows-length literals next t.pins t.rows wide in
    let last : length (joins (next + rows_ands t.rows) (no_rows literals next t)) ≡ length t.rows - 1
    = joins-length (next + rows_ands t.rows) (no_rows literals next t) ∙ ap (λ k. k - 1) (no_rows-length literals next t) in
    length-append (rows_joins literals next t.pins t.rows) (joins (next + rows_ands t.rows) (no_rows literals next t))
    ∙ ap (λ k. k + length (joins (next + rows_ands t.rows) (no_rows literals next t))) first ∙ ap (λ k. rows_ands t.rows + k) last

table-counts : (literals : Literals) (next : ℕ) (t : TableValue) → AreWide t.pins t.rows → CountsFrom next (table_joins literals next t)
table-counts literals next t wide =
    let size = rows-length literals next t.pins t.rows wide in
    counts-append next (next + rows_ands t.rows) (rows_joins literals next t.pins t.rows) (joins (next + rows_ands t.rows) (no_rows literals next t))
    (rows-counts literals next t.pins t.rows wide) (omega (arith, size)) (joins-counts (next + rows_ands t.rows) (no_rows literals next t))

abbrev pub AreTablesWide : List TableValue → Type 0
AreTablesWide tables = AllByRecursion (λ (t : TableValue). AreWide t.pins t.rows) tables

pub tables-length : (literals : Literals) (next : ℕ) (tables : List TableValue) → AreTablesWide tables → length (tables_joins literals next tables) ≡ sum_by table_ands tables
tables-length literals next [] wide = refl
tables-length literals next (t ∷ tables) wide =
    let here = table-length literals next t wide.0 in
    let more = tables-length literals (next + table_ands t) tables wide.1 in
    let sum = sum_by-cons table_ands t tables in
    length-append (table_joins literals next t) (tables_joins literals (next + table_ands t) tables)
    ∙ ap (λ k. k + length (tables_joins literals (next + table_ands t) tables)) here ∙ ap (λ k. table_ands t + k) more ∙ sym sum

tables-counts : (literals : Literals) (next : ℕ) (tables : List TableValue) → AreTablesWide tables → CountsFrom next (tables_joins literals next tables)
tables-counts literals next [] wide = tt
tables-counts literals next (t ∷ tables) wide =
    let size = table-length literals next t wide.0 in
    counts-append next (next + table_ands t) (table_joins literals next t) (tables_joins literals (next + table_ands t) tables)
    (table-counts literals next t wide.0) (omega (arith, size)) (tables-counts literals (next + table_ands t) tables wide.1)

counts-range : (next : ℕ) (lines : List AndLine) → CountsFrom next lines → map (λ (a : AndLine). a.variable) lines ≡ range_with_len next (length lines)
counts-range next [] h = refl
counts-range next (a ∷ lines) h =
    ap (λ k. k ∷ map (λ (b : AndLine). b.variable) lines) h.0 ∙ ap (λ l. next ∷ l) (counts-range (next + 1) lines h.1)

range-append : (a n m b k : ℕ) → b ≡ a + n → k ≡ n + m → range_with_len a n ++ range_with_len b m ≡ range_with_len a k
range-append a zero m b k at size = let p : b ≡ a = omega arith in let q : m ≡ k = omega arith in ap (λ x. range_with_len x m) p ∙ ap (range_with_len a) q
range-append a (suc n) m b zero at size = absurd (omega arith)
range-append a (suc n) m b (suc k) at size = ap (λ l. a ∷ l) (range-append (a + 1) n m b k (omega arith) (omega arith))

-- a literal of one of the first b variables, or a constant
abbrev pub Below : ℕ → ℕ → Type 0
Below b literal = literal < 2 * b

pub negated-below : (b literal : ℕ) → Below b literal → Below b (negated literal)
negated-below b literal low =
    elim (cases_eq (literal % 2) 0) [
      | inl even ↦ rw (eq-eqb (literal % 2) 0 even) (omega arith)
      | inr ne ↦ rw (ne_eqb (literal % 2) 0 ne) (omega arith)
    ]

abbrev pub AreBelow : ℕ → List AndLine → Type 0
AreBelow b lines = AllByRecursion (λ (a : AndLine). Below b a.left × Below b a.right) lines

module _ (b : ℕ) where
  joined_after-below : (next so_far : ℕ) (literals : List ℕ) → Below b so_far → next + length literals ≤ b → Below b (joined_after next so_far literals)
  joined_after-below next so_far [] low fits = low
  joined_after-below next so_far (literal ∷ literals) low fits = joined_after-below (next + 1) (literal_of_variable next) literals (omega arith) (omega arith)

  pub joined-below : (next : ℕ) (literals : List ℕ) → 0 < b → AllByRecursion (Below b) literals → next + (length literals - 1) ≤ b → Below b (joined next literals)
  joined-below next [] some low fits = omega arith
  joined-below next (literal ∷ literals) some low fits = joined_after-below next literal literals low.0 (omega arith)

  joins_after-below : (next so_far : ℕ) (literals : List ℕ) → Below b so_far → AllByRecursion (Below b) literals → next + length literals ≤ b → AreBelow b (joins_after next so_far literals)
  joins_after-below next so_far [] below low fits = tt
  joins_after-below next so_far (literal ∷ literals) below low fits =
      ((below, low.0), joins_after-below (next + 1) (literal_of_variable next) literals (omega arith) low.1 (omega arith))

  joins-below : (next : ℕ) (literals : List ℕ) → AllByRecursion (Below b) literals → next + (length literals - 1) ≤ b → AreBelow b (joins next literals)
  joins-below next [] low fits = tt
  joins-below next (literal ∷ literals) low fits = joins_after-below next literal literals low.0 low.1 (omega arith)

  opposites-below : (literals : List ℕ) → AllByRecursion (Below b) literals → AllByRecursion (Below b) (map negated literals)
  opposites-below [] low = tt
  opposites-below (literal ∷ literals) low = (negated-below b literal low.0, opposites-below literals low.1)

  module _ (literals : Literals) where
    marked-below : (m : Mark) (s : ℕ) → Below b (literals s) → AllByRecursion (Below b) (marked m (literals s))
    marked-below Zero s low = (negated-below b (literals s) low, tt)
    marked-below One s low = (low, tt)
    marked-below Dash s low = tt

    pub row_inputs-below : (marks : List Mark) (pins : List ℕ) → AllByRecursion (λ s. Below b (literals s)) pins → AllByRecursion (Below b) (row_inputs literals marks pins)
    row_inputs-below [] pins low = tt
    row_inputs-below (m ∷ marks) [] low = tt
    row_inputs-below (m ∷ marks) (s ∷ pins) low = each-append (Below b) (marked m (literals s)) (row_inputs literals marks pins) (marked-below m s low.0) (row_inputs-below marks pins low.1)

    rows_joined-below : (next : ℕ) (pins : List ℕ) (rows : List (List Mark)) → 0 < b → AllByRecursion (λ s. Below b (literals s)) pins → AreWide pins rows → next + rows_ands rows ≤ b
        → AllByRecursion (Below b) (rows_joined literals next pins rows)
    rows_joined-below next pins [] some low wide fits = tt
    rows_joined-below next pins (marks ∷ rows) some low wide fits =
        let size = row_inputs-length literals marks pins wide.0 in
        let sum = sum_by-cons row_ands marks rows in (
          joined-below next (row_inputs literals marks pins) some (row_inputs-below marks pins low) (omega (arith, size, sum)),
          rows_joined-below (next + row_ands marks) pins rows some low wide.1 (omega (arith, sum)),
        )

    rows_joins-below : (next : ℕ) (pins : List ℕ) (rows : List (List Mark)) → AllByRecursion (λ s. Below b (literals s)) pins → AreWide pins rows → next + rows_ands rows ≤ b
        → AreBelow b (rows_joins literals next pins rows)
    rows_joins-below next pins [] low wide fits = tt
    rows_joins-below next pins (marks ∷ rows) low wide fits =
        let size = row_inputs-length literals marks pins wide.0 in
        let sum = sum_by-cons row_ands marks rows in
        each-append (λ (a : AndLine). Below b a.left × Below b a.right) (joins next (row_inputs literals marks pins)) (rows_joins literals (next + row_ands marks) pins rows)
        (joins-below next (row_inputs literals marks pins) (row_inputs-below marks pins low) (omega (arith, size, sum)))
        (rows_joins-below (next + row_ands marks) pins rows low wide.1 (omega (arith, sum)))

    module _ (next : ℕ) (t : TableValue) (some : 0 < b) (low : AllByRecursion (λ s. Below b (literals s)) t.pins) (wide : AreWide t.pins t.rows) (fits : next + table_ands t ≤ b) where
      no_rows-below : AllByRecursion (Below b) (no_rows literals next t)
      no_rows-below = opposites-below (rows_joined literals next t.pins t.rows) (rows_joined-below next t.pins t.rows some low wide (omega arith))

      plane-below : (plane : Bool) (literal : ℕ) → Below b literal → Below b (cond plane literal (negated literal))
      plane-below true literal h = h
      plane-below false literal h = negated-below b literal h

      pub table_literal-below : Below b (table_literal literals next t)
      table_literal-below =
          let size = no_rows-length literals next t in
          let last : Below b (joined (next + rows_ands t.rows) (no_rows literals next t)) = joined-below (next + rows_ands t.rows) (no_rows literals next t) some no_rows-below (omega (arith, size)) in
          let whole : Below b (disjunction literals next t) = negated-below b (joined (next + rows_ands t.rows) (no_rows literals next t)) last in
          plane-below t.plane (disjunction literals next t) whole

      pub table_joins-below : AreBelow b (table_joins literals next t)
      table_joins-below =
          let size = no_rows-length literals next t in
          each-append (λ (a : AndLine). Below b a.left × Below b a.right) (rows_joins literals next t.pins t.rows) (joins (next + rows_ands t.rows) (no_rows literals next t))
          (rows_joins-below next t.pins t.rows low wide (omega arith))
          (joins-below (next + rows_ands t.rows) (no_rows literals next t) no_rows-below (omega (arith, size)))

-- the first variable of a table and its lines
pub first-fits : (n i : ℕ) (tables : List TableValue) → i < length tables → first_variable n tables i + table_ands (table_at tables i) ≤ n + 1 + sum_by table_ands tables
first-fits n i tables low = let sum = sum_by_more_le table_ands tables i no_table low in omega (arith, sum)

module _ (n : ℕ) (tables : List TableValue) (acyclic : IsAcyclic n tables) (formed : All IsTable tables) where
  top : ℕ
  top = n + 1 + sum_by table_ands tables

  literals : Literals
  literals = signal_literal n tables

  is : AreLiterals n tables literals
  unfolding literals
  is = are_literals n tables acyclic

  wide_at : (i : ℕ) → i < length tables → AreWide (table_at tables i).pins (table_at tables i).rows
  wide_at i low = let f : IsTable (table_at tables i)
      = formed i no_table low in recursion_from_All (λ (marks : List Mark). length marks ≡ length (table_at tables i).pins) (table_at tables i).rows f.widths

  input_below : (s : ℕ) → s < n → Below top (literals s)
  unfolding top
  input_below s low = let e = is.input s low in omega (arith, e)

  top_some : 0 < top
  unfolding top
  top_some = omega arith

  top_fits : (i : ℕ) → i < length tables → first_variable n tables i + table_ands (table_at tables i) ≤ top
  unfolding top
  top_fits i low = first-fits n i tables low

  literal_below : (k s : ℕ) → IsGroundedIn n tables k s → Below top (literals s)
  literal_below zero s h = input_below s h
  literal_below (suc k) s (inl h) = input_below s h
  literal_below (suc k) s (inr h) =
      elim (cases_lt s n) [
        | inl low ↦ input_below s low
        | inr high ↦
            let place : s ≡ n + (s - n) = omega arith in
            let within : s - n < length tables = omega (arith, h.0) in
            let pins : AllByRecursion (λ p. Below top (literals p)) (table_at tables (s - n)).pins
            = each_weaker (IsGroundedIn n tables k) (λ p. Below top (literals p)) (table_at tables (s - n)).pins (literal_below k) h.1 in
            subst (Below top) (sym (ap literals place ∙ is.table (s - n) within))
            (table_literal-below top literals (first_variable n tables (s - n)) (table_at tables (s - n)) top_some pins (wide_at (s - n) within) (top_fits (s - n) within))
      ]

  pub signals_below : (s : ℕ) → s < n + length tables → signal_literal n tables s < 2 * (n + 1 + sum_by table_ands tables)
  unfolding literals top
  signals_below s low = literal_below (length tables) s (IsGroundedIn-signal n tables acyclic s low)

  pub lines_below : AreBelow (n + 1 + sum_by table_ands tables) (tables_joins (signal_literal n tables) (n + 1) tables)
  lines_below =
      lines_all (λ (a : AndLine). Below (n + 1 + sum_by table_ands tables) a.left × Below (n + 1 + sum_by table_ands tables) a.right) (signal_literal n tables) (n + 1) tables
      (λ i m low at.
      let pins : AllByRecursion (λ p. Below (n + 1 + sum_by table_ands tables) (signal_literal n tables p)) (table_at tables i).pins =
      each_member (λ p. Below (n + 1 + sum_by table_ands tables) (signal_literal n tables p)) (table_at tables i).pins (λ p c. signals_below p (pin_is_signal n tables i p acyclic low c)) in
      let fits = first-fits n i tables low in
      table_joins-below (n + 1 + sum_by table_ands tables) (signal_literal n tables) m (table_at tables i) (omega arith) pins (wide_at i low) (omega (arith, fits)))

  pub tables_wide : AreTablesWide tables
  tables_wide =
      recursion_from_All (λ (t : TableValue). AreWide t.pins t.rows) tables
      (All-weaker IsTable (λ (t : TableValue). AreWide t.pins t.rows) (λ t f. recursion_from_All (λ (marks : List Mark). length marks ≡ length t.pins) t.rows f.widths) tables formed)

  pub variables : range_with_len 1 n ++ map (λ (a : AndLine). a.variable) (tables_joins (signal_literal n tables) (n + 1) tables)
      ≡ range_with_len 1 (n + length (tables_joins (signal_literal n tables) (n + 1) tables))
  variables =
      ap (λ l. range_with_len 1 n ++ l) (counts-range (n + 1) (tables_joins (signal_literal n tables) (n + 1) tables) (tables-counts (signal_literal n tables) (n + 1) tables tables_wide))
      ∙ range-append 1 n (length (tables_joins (signal_literal n tables) (n + 1) tables)) (n + 1) (n + length (tables_joins (signal_literal n tables) (n + 1) tables)) (omega arith) refl

-- the circuit of a net has as many variables as the net has inputs and its tables AND lines
pub count_of : (N : NetValue) → IsSound N → variable_count (ands_of N) ≡ input_count N + sum_by table_ands N.tables
unfolding ands_of
count_of N sound =
    let front = length-range_with_len 1 (input_count N) in
    let size = tables-length (signal_literal (input_count N) N.tables) (input_count N + 1) N.tables (tables_wide (input_count N) N.tables sound.acyclic sound.tables_formed) in
    omega (arith, front, size)

pub all_variables : (N : NetValue) → IsSound N → (ands_of N).inputs ++ map (λ a. a.variable) (ands_of N).ands ≡ range_with_len 1 (variable_count (ands_of N))
unfolding ands_of
all_variables N sound =
    let front = length-range_with_len 1 (input_count N) in
    variables (input_count N) N.tables sound.acyclic sound.tables_formed
    ∙ ap (λ k. range_with_len 1 (k + length (tables_joins (signal_literal (input_count N) N.tables) (input_count N + 1) N.tables))) (sym front)

sound_lines : (N : NetValue) → IsSound N → AreBelow (input_count N + 1 + sum_by table_ands N.tables) (ands_of N).ands
unfolding ands_of
sound_lines N sound = lines_below (input_count N) N.tables sound.acyclic sound.tables_formed

pub all_lines : (N : NetValue) → IsSound N → AllByRecursion (λ a. IsLiteralOf (ands_of N) a.left × IsLiteralOf (ands_of N) a.right) (ands_of N).ands
all_lines N sound =
    let count : input_count N + 1 + sum_by table_ands N.tables ≡ variable_count (ands_of N) + 1 = let e = count_of N sound in omega (arith, e) in
    subst (λ k. AreBelow k (ands_of N).ands) count (sound_lines N sound)

outputs_below : (literals : Literals) (b : ℕ) (signals : List ℕ) → AllByRecursion (λ s. Below b (literals s)) signals → AllByRecursion (Below b) (map literals signals)
outputs_below literals b [] low = tt
outputs_below literals b (s ∷ signals) low = (low.0, outputs_below literals b signals low.1)

sound_outputs : (N : NetValue) → IsSound N → AllByRecursion (Below (input_count N + 1 + sum_by table_ands N.tables)) (ands_of N).outputs
unfolding ands_of
sound_outputs N sound =
    outputs_below (signal_literal (input_count N) N.tables) (input_count N + 1 + sum_by table_ands N.tables) N.outputs
    (each_weaker (λ s. s < signal_count N) (λ s. Below (input_count N + 1 + sum_by table_ands N.tables) (signal_literal (input_count N) N.tables s)) N.outputs
    (signals_below (input_count N) N.tables sound.acyclic sound.tables_formed) (recursion_from_All (λ s. s < signal_count N) N.outputs sound.outputs_are_signals))

pub all_outputs : (N : NetValue) → IsSound N → AllByRecursion (IsLiteralOf (ands_of N)) (ands_of N).outputs
all_outputs N sound =
    let count : input_count N + 1 + sum_by table_ands N.tables ≡ variable_count (ands_of N) + 1 = let e = count_of N sound in omega (arith, e) in
    subst (λ k. AllByRecursion (Below k) (ands_of N).outputs) count (sound_outputs N sound)
