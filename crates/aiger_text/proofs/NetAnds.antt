-- The parts of the circuit of a net, made of the literals of its signals.
use Rattle.std.proofs.Common.{◌≡◌, ℕ, zero, suc, ◌+◌, ◌^◌, ◌<◌, ◌≤◌, List, [], ◌∷◌, ◌++◌, length, map, get_or, refl, ap, ◌∙◌, arith}
use Rattle.std.specs.Prelude.{All}
use Rattle.std.specs.List.{AllByRecursion, sum_by, range_with_len}
use Rattle.std.proofs.lemmas.List.FromFn.{length-range_with_len}
use Rattle.std.proofs.lemmas.List.Elements.{recursion_from_All, All-weaker}
use Rattle.semantics.specs.declared.mark.Mark.{Mark}
use Rattle.semantics.specs.Texts.{Bytes}
use Rattle.semantics.specs.Net.{TableValue, NetValue, input_count, signal_count, signal_names, name_of, IsSound}
use Rattle.aiger_semantics.specs.declared.and_line.AndLine.{AndLine}
use Rattle.aiger_semantics.specs.Circuit.{CircuitValue, negated}
use Rattle.aiger_semantics.specs.NetCircuit.{Literals, joins, joined, row_inputs, row_ands, rows_ands, table_ands, rows_joins, rows_joined, no_rows, table_joins, tables_joins, signal_literal, ands_of}
use Rattle.aiger_semantics.proofs.SignalLiterals.{row_inputs-same}
use Rattle.aiger_semantics.proofs.Numbered.{tables-length, tables_wide}

rows_joins-same : (k l : Literals) (next : ℕ) (pins : List ℕ) (rows : List (List Mark)) → AllByRecursion (λ s. k s ≡ l s) pins → rows_joins k next pins rows ≡ rows_joins l next pins rows
rows_joins-same k l next pins [] same = refl
rows_joins-same k l next pins (marks ∷ rows) same =
    ap (λ x. joins next x ++ rows_joins k (next + row_ands marks) pins rows) (row_inputs-same k l marks pins same)
    ∙ ap (λ x. joins next (row_inputs l marks pins) ++ x) (rows_joins-same k l (next + row_ands marks) pins rows same)

rows_joined-same : (k l : Literals) (next : ℕ) (pins : List ℕ) (rows : List (List Mark)) → AllByRecursion (λ s. k s ≡ l s) pins
    → rows_joined k next pins rows ≡ rows_joined l next pins rows
rows_joined-same k l next pins [] same = refl
rows_joined-same k l next pins (marks ∷ rows) same =
    ap (λ x. joined next x ∷ rows_joined k (next + row_ands marks) pins rows) (row_inputs-same k l marks pins same)
    ∙ ap (λ x. joined next (row_inputs l marks pins) ∷ x) (rows_joined-same k l (next + row_ands marks) pins rows same)

table_joins-same : (k l : Literals) (next : ℕ) (t : TableValue) → AllByRecursion (λ s. k s ≡ l s) t.pins → table_joins k next t ≡ table_joins l next t
table_joins-same k l next t same =
    ap (λ x. x ++ joins (next + rows_ands t.rows) (no_rows k next t)) (rows_joins-same k l next t.pins t.rows same)
    ∙ ap (λ x. rows_joins l next t.pins t.rows ++ joins (next + rows_ands t.rows) (map negated x)) (rows_joined-same k l next t.pins t.rows same)

tables_joins-same : (k l : Literals) (next : ℕ) (tables : List TableValue) → AllByRecursion (λ (t : TableValue). AllByRecursion (λ s. k s ≡ l s) t.pins) tables
    → tables_joins k next tables ≡ tables_joins l next tables
tables_joins-same k l next [] same = refl
tables_joins-same k l next (t ∷ tables) same =
    ap (λ x. x ++ tables_joins k (next + table_ands t) tables) (table_joins-same k l next t same.0)
    ∙ ap (λ x. table_joins l next t ++ x) (tables_joins-same k l (next + table_ands t) tables same.1)

literals-same : (k l : Literals) (signals : List ℕ) → AllByRecursion (λ s. k s ≡ l s) signals → map k signals ≡ map l signals
literals-same k l [] same = refl
literals-same k l (s ∷ signals) same = let rest = literals-same k l signals same.1 in let here = same.0 in cc (here, rest)

range_suc : (a n : ℕ) → range_with_len a (suc n) ≡ range_with_len a n ++ (a + n) ∷ []
range_suc a zero = let same : a ≡ a + 0 = omega arith in ap (λ k. k ∷ []) same
range_suc a (suc n) = let same : (a + 1) + n ≡ a + suc n = omega arith in ap (λ l. a ∷ l) (range_suc (a + 1) n ∙ ap (λ k. range_with_len (a + 1) n ++ k ∷ []) same)

abbrev circuit : List ℕ → List AndLine → List ℕ → List Bytes → List Bytes → CircuitValue
circuit inputs ands outputs input_names output_names = record {
  inputs = inputs;
  ands = ands;
  outputs = outputs;
  input_names = input_names;
  output_names = output_names;
}

-- the parts make the circuit of the net
pub circuit_of : (N : NetValue) (c : CircuitValue) (literals : List ℕ) → IsSound N → ((s : ℕ) → s < signal_count N → get_or literals s 0 ≡ signal_literal (input_count N) N.tables s)
    → c.inputs ≡ range_with_len 1 (input_count N) → c.ands ≡ tables_joins (λ s. get_or literals s 0) (input_count N + 1) N.tables → c.outputs ≡ map (λ s. get_or literals s 0) N.outputs
    → c.input_names ≡ N.inputs → c.output_names ≡ map (name_of (signal_names N)) N.outputs → c ≡ ands_of N
unfolding ands_of
circuit_of N c literals sound same ei ea eo en em =
    let pins : AllByRecursion (λ (t : TableValue). AllByRecursion (λ s. get_or literals s 0 ≡ signal_literal (input_count N) N.tables s) t.pins) N.tables =
    recursion_from_All (λ (t : TableValue). AllByRecursion (λ s. get_or literals s 0 ≡ signal_literal (input_count N) N.tables s) t.pins) N.tables
    (All-weaker (λ (t : TableValue). All (λ s. s < signal_count N) t.pins) (λ (t : TableValue). AllByRecursion (λ s. get_or literals s 0 ≡ signal_literal (input_count N) N.tables s) t.pins)
    (λ t h. recursion_from_All (λ s. get_or literals s 0 ≡ signal_literal (input_count N) N.tables s) t.pins
    (All-weaker (λ s. s < signal_count N) (λ s. get_or literals s 0 ≡ signal_literal (input_count N) N.tables s) same t.pins h))
    N.tables sound.pins_are_signals) in
    let lines = tables_joins-same (λ s. get_or literals s 0) (signal_literal (input_count N) N.tables) (input_count N + 1) N.tables pins in
    let outputs = literals-same (λ s. get_or literals s 0) (signal_literal (input_count N) N.tables) N.outputs
    (recursion_from_All (λ s. get_or literals s 0 ≡ signal_literal (input_count N) N.tables s) N.outputs
    (All-weaker (λ s. s < signal_count N) (λ s. get_or literals s 0 ≡ signal_literal (input_count N) N.tables s) same N.outputs sound.outputs_are_signals)) in
    ap (λ (x : List ℕ). circuit x c.ands c.outputs c.input_names c.output_names) ei
    ∙ ap (λ (x : List AndLine). circuit (range_with_len 1 (input_count N)) x c.outputs c.input_names c.output_names) (ea ∙ lines)
    ∙ ap (λ (x : List ℕ). circuit (range_with_len 1 (input_count N)) (tables_joins (signal_literal (input_count N) N.tables) (input_count N + 1) N.tables) x c.input_names c.output_names)
    (eo ∙ outputs)
    ∙ ap (λ (x : List Bytes). circuit (range_with_len 1 (input_count N)) (tables_joins (signal_literal (input_count N) N.tables) (input_count N + 1) N.tables)
    (map (signal_literal (input_count N) N.tables) N.outputs) x c.output_names) en
    ∙ ap (λ (x : List Bytes). circuit (range_with_len 1 (input_count N)) (tables_joins (signal_literal (input_count N) N.tables) (input_count N + 1) N.tables)
    (map (signal_literal (input_count N) N.tables) N.outputs) N.inputs x) em

-- it has few variables
pub circuit_few : (N : NetValue) (inputs : List ℕ) (lines : List AndLine) (literals : Literals) → IsSound N → inputs ≡ range_with_len 1 (input_count N)
    → lines ≡ tables_joins literals (input_count N + 1) N.tables
    → input_count N + 1 + sum_by table_ands N.tables ≤ 2 ^ 31 → length inputs + length lines < 2 ^ 31
circuit_few N inputs lines literals sound ei el fits =
    let front : length inputs ≡ input_count N = ap length ei ∙ length-range_with_len 1 (input_count N) in
    let size : length lines ≡ sum_by table_ands N.tables
    = ap length el ∙ tables-length literals (input_count N + 1) N.tables (tables_wide (input_count N) N.tables sound.acyclic sound.tables_formed) in
    omega arith

pub range_more : (a n : ℕ) → range_with_len a (n + 1) ≡ range_with_len a n ++ (a + n) ∷ []
range_more a n = let one : n + 1 ≡ suc n = omega arith in ap (range_with_len a) one ∙ range_suc a n
