-- The circuit of a net has the net's outputs.
use Rattle.std.proofs.Common.{◌≡◌, ℕ, zero, suc, ◌+◌, ◌-◌, ◌<◌, Bool, false, List, [], ◌∷◌, ◌++◌, map, length, take, get_or, refl, sym, ap, subst, ◌∙◌, inl, inr, arith}
use Rattle.std.specs.Prelude.{All}
use Rattle.std.specs.List.{AllByRecursion, sum_by, range_with_len}
use Rattle.std.proofs.lemmas.Bool.{cases_lt}
use Rattle.std.proofs.lemmas.List.{get_or_append_left}
use Rattle.std.proofs.lemmas.List.Sums.{sum_by-cons}
use Rattle.std.proofs.lemmas.List.FromFn.{length-range_with_len, get_or-range_with_len, length-map-range_with_len, get_or-map-range_with_len}
use Rattle.std.proofs.lemmas.List.Elements.{recursion_from_All, All-weaker}
use Rattle.semantics.specs.declared.mark.Mark.{Mark}
use Rattle.semantics.specs.Net.{TableValue, NetValue, no_table, table_at, input_count, signal_count, IsTable, IsGroundedIn, IsAcyclic, IsSound}
use Rattle.semantics.specs.Value.{Assignment, IsConsistent, value_of, outputs_of}
use Rattle.semantics.proofs.Members.{each_member, each_weaker}
use Rattle.semantics.proofs.Depends.{pin_is_signal}
use Rattle.semantics.proofs.Values.{table_value-same, IsGroundedIn-signal, value_law}
use Rattle.aiger_semantics.specs.declared.and_line.AndLine.{AndLine}
use Rattle.aiger_semantics.specs.Circuit.{CircuitValue, literal_value, and_value, HasOutputs}
use Rattle.aiger_semantics.specs.NetCircuit.{Literals, table_ands, table_joins, first_variable, signal_literal, tables_joins, ands_of}
use Rattle.aiger_semantics.specs.Laws.{AreLiterals}
use Rattle.aiger_semantics.proofs.Each.{each-append, each-left, each-right}
use Rattle.aiger_semantics.proofs.Literals.{value-variable}
use Rattle.aiger_semantics.proofs.Joins.{Holds, table-value}
use Rattle.aiger_semantics.proofs.Bits.{HasBits, AreWide, tables_bits, bits-behind, bits_at, table-holds}
use Rattle.aiger_semantics.proofs.SignalLiterals.{are_literals}

-- what holds of all lines holds of each table's
pub lines_at : (P : AndLine → Type 0) (literals : Literals) (next m i : ℕ) (tables : List TableValue) → i < length tables → m ≡ next + sum_by table_ands (take i tables)
    → AllByRecursion P (tables_joins literals next tables) → AllByRecursion P (table_joins literals m (table_at tables i))
lines_at P literals next m i [] low at h = absurd (omega arith)
lines_at P literals next m zero (t ∷ tables) low at h =
    let same : next ≡ m = omega arith in
    subst (λ k. AllByRecursion P (table_joins literals k t)) same (each-left P (table_joins literals next t) (tables_joins literals (next + table_ands t) tables) h)
lines_at P literals next m (suc i) (t ∷ tables) low at h =
    let sum = sum_by-cons table_ands t (take i tables) in
    lines_at P literals (next + table_ands t) m i tables (omega arith) (omega (arith, sum))
    (each-right P (table_joins literals next t) (tables_joins literals (next + table_ands t) tables) h)

-- and back
pub lines_all : (P : AndLine → Type 0) (literals : Literals) (next : ℕ) (tables : List TableValue)
    → ((i m : ℕ) → i < length tables → m ≡ next + sum_by table_ands (take i tables) → AllByRecursion P (table_joins literals m (table_at tables i)))
    → AllByRecursion P (tables_joins literals next tables)
lines_all P literals next [] h = tt
lines_all P literals next (t ∷ tables) h =
    each-append P (table_joins literals next t) (tables_joins literals (next + table_ands t) tables)
    (h 0 next (omega arith) (omega arith))
    (lines_all P literals (next + table_ands t) tables
    (λ i m low at. let sum = sum_by-cons table_ands t (take i tables) in h (suc i) m (omega arith) (omega (arith, sum))))

-- values through literals
through : (f g : ℕ → Bool) (literals : Literals) (signals : List ℕ) → AllByRecursion (λ s. f (literals s) ≡ g s) signals → map f (map literals signals) ≡ map g signals
through f g literals [] same = refl
through f g literals (s ∷ signals) same = let rest = through f g literals signals same.1 in let here = same.0 in cc (here, rest)

module _ (n : ℕ) (tables : List TableValue) (x : List Bool) (acyclic : IsAcyclic n tables) (formed : All IsTable tables) where
  literals : Literals
  literals = signal_literal n tables

  is : AreLiterals n tables literals
  unfolding literals
  is = are_literals n tables acyclic

  first_lines : (v : Assignment) (i : ℕ) → i < length tables → Holds v (tables_joins literals (n + 1) tables) → Holds v (table_joins literals (first_variable n tables i) (table_at tables i))
  first_lines v i low h = lines_at (λ a. v a.variable ≡ and_value v a) literals (n + 1) (first_variable n tables i) i tables low refl h

  -- where the lines hold, the values of the signals' literals are those of the tables
  consistent : (v : Assignment) → v 0 ≡ false → ((i : ℕ) → i < n → v (i + 1) ≡ get_or x i false) → Holds v (tables_joins literals (n + 1) tables)
      → IsConsistent n tables x (λ s. literal_value v (literals s))
  consistent v none inputs lines = record {
    input = λ s low. ap (literal_value v) (is.input s low) ∙ value-variable v (s + 1) ∙ inputs s low;
    table = λ i within. ap (literal_value v) (is.table i within) ∙ table-value v none literals (first_variable n tables i) (table_at tables i) (first_lines v i within lines);
  }

  values : Assignment
  values = value_of n tables x

  -- a bit for each variable
  front : List Bool
  front = false ∷ map values (range_with_len 0 n)

  bits : List Bool
  bits = tables_bits values tables

  assigned : Assignment
  assigned k = get_or (front ++ bits) k false

  front-length : n + 1 ≡ length front
  unfolding front
  front-length = let size = length-map-range_with_len values 0 n in omega (arith, size)

  assigned-zero : assigned 0 ≡ false
  unfolding assigned front
  assigned-zero = refl

  assigned-input : (s : ℕ) → s < n → assigned (s + 1) ≡ values s
  unfolding assigned front
  assigned-input s low =
      let next : s + 1 ≡ suc s = omega arith in
      ap (λ k. get_or (front ++ bits) k false) next
      ∙ get_or_append_left (map values (range_with_len 0 n)) bits false s (let size = length-map-range_with_len values 0 n in omega (arith, size))
      ∙ get_or-map-range_with_len values 0 n s s false low (omega arith)

  assigned-bits : HasBits assigned (n + 1) (tables_bits values tables)
  unfolding assigned bits
  assigned-bits = bits-behind front (tables_bits values tables) (n + 1) front-length

  wide : AllByRecursion (λ (t : TableValue). AreWide t.pins t.rows) tables
  wide =
      recursion_from_All (λ (t : TableValue). AreWide t.pins t.rows) tables
      (All-weaker IsTable (λ (t : TableValue). AreWide t.pins t.rows) (λ t f. recursion_from_All (λ (marks : List Mark). length marks ≡ length t.pins) t.rows f.widths) tables formed)

  wide_at : (i : ℕ) → i < length tables → AreWide (table_at tables i).pins (table_at tables i).rows
  wide_at i low = let f : IsTable (table_at tables i)
      = formed i no_table low in recursion_from_All (λ (marks : List Mark). length marks ≡ length (table_at tables i).pins) (table_at tables i).rows f.widths

  Agree : ℕ → Type 0
  Agree s = literal_value assigned (literals s) ≡ values s

  holds_at : (i m : ℕ) → i < length tables → m ≡ n + 1 + sum_by table_ands (take i tables) → AllByRecursion Agree (table_at tables i).pins → Holds assigned (table_joins literals m (table_at tables i))
  unfolding Agree
  holds_at i m low at same =
      table-holds assigned literals values assigned-zero m (table_at tables i) same (wide_at i low) (bits_at assigned values (n + 1) m i tables wide low at assigned-bits)

  -- each signal's literal has its value
  agree : (k s : ℕ) → IsGroundedIn n tables k s → Agree s
  unfolding Agree values
  agree zero s h = ap (literal_value assigned) (is.input s h) ∙ value-variable assigned (s + 1) ∙ assigned-input s h
  agree (suc k) s (inl h) = ap (literal_value assigned) (is.input s h) ∙ value-variable assigned (s + 1) ∙ assigned-input s h
  agree (suc k) s (inr h) =
      elim (cases_lt s n) [
        | inl low ↦ ap (literal_value assigned) (is.input s low) ∙ value-variable assigned (s + 1) ∙ assigned-input s low
        | inr high ↦
            let place : s ≡ n + (s - n) = omega arith in
            let within : s - n < length tables = omega (arith, h.0) in
            let same : AllByRecursion Agree (table_at tables (s - n)).pins = each_weaker (IsGroundedIn n tables k) Agree (table_at tables (s - n)).pins (agree k) h.1 in
            ap (literal_value assigned) (ap literals place ∙ is.table (s - n) within)
            ∙ table-value assigned assigned-zero literals (first_variable n tables (s - n)) (table_at tables (s - n)) (holds_at (s - n) (first_variable n tables (s - n)) within refl same)
            ∙ table_value-same (table_at tables (s - n)) (λ p. literal_value assigned (literals p)) values same
            ∙ sym (ap values place ∙ (value_law n tables x acyclic).consistent.table (s - n) within)
      ]

  assigned-lines : Holds assigned (tables_joins literals (n + 1) tables)
  assigned-lines =
      lines_all (λ a. assigned a.variable ≡ and_value assigned a) literals (n + 1) tables
      (λ i m low at. holds_at i m low at
      (each_member Agree (table_at tables i).pins
      (λ p c. agree (length tables) p (IsGroundedIn-signal n tables acyclic p (pin_is_signal n tables i p acyclic low c)))))

  pub outputs_law : (c : CircuitValue) (outputs : List ℕ) → c.inputs ≡ range_with_len 1 n → c.ands ≡ tables_joins (signal_literal n tables) (n + 1) tables
      → c.outputs ≡ map (signal_literal n tables) outputs → AllByRecursion (λ s. s < n + length tables) outputs → HasOutputs c x (map (value_of n tables x) outputs)
  unfolding literals values
  outputs_law c outputs same_inputs same_ands same_outputs within = record {
    values = assigned;
    fit = record {
      constant = assigned-zero;
      input = λ i low.
          let size : length c.inputs ≡ n = ap length same_inputs ∙ length-range_with_len 1 n in
          let below : i < n = omega arith in
          let at : get_or c.inputs i 0 ≡ i + 1 = ap (λ l. get_or l i 0) same_inputs ∙ get_or-range_with_len 1 n i 0 below ∙ (let o : 1 + i ≡ i + 1 = omega arith in o) in
          ap assigned at ∙ assigned-input i below ∙ (value_law n tables x acyclic).consistent.input i below;
      lines = subst (λ l. Holds assigned l) (sym same_ands) assigned-lines;
    };
    only = λ v fits.
        let lines : Holds v (tables_joins literals (n + 1) tables) = subst (λ l. Holds v l) same_ands fits.lines in
        let inputs : (i : ℕ) → i < n → v (i + 1) ≡ get_or x i false =
        λ i low.
        let size : length c.inputs ≡ n = ap length same_inputs ∙ length-range_with_len 1 n in
        let at : get_or c.inputs i 0 ≡ i + 1 = ap (λ l. get_or l i 0) same_inputs ∙ get_or-range_with_len 1 n i 0 low ∙ (let o : 1 + i ≡ i + 1 = omega arith in o) in
        sym (ap v at) ∙ fits.input i (omega arith) in
        ap (map (literal_value v)) same_outputs
        ∙ through (literal_value v) values literals outputs
        (each_weaker (λ s. s < n + length tables) (λ s. literal_value v (literals s) ≡ values s) outputs
        (λ s low. (value_law n tables x acyclic).only (λ p. literal_value v (literals p)) (consistent v fits.constant inputs lines) s low) within);
  }

pub net_outputs : (N : NetValue) → IsSound N → (x : List Bool) → HasOutputs (ands_of N) x (outputs_of N x)
unfolding ands_of outputs_of
net_outputs N sound x =
    outputs_law (input_count N) N.tables x sound.acyclic sound.tables_formed (ands_of N) N.outputs refl refl refl
    (recursion_from_All (λ s. s < signal_count N) N.outputs sound.outputs_are_signals)
