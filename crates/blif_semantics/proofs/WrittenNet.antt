-- The lines of a net's text give that net.
use Rattle.std.proofs.Common.{◌≡◌, ◌≢◌, ℕ, ◌-◌, ◌<◌, Bool, true, false, not, List, [], ◌∷◌, ◌++◌, map, flat_map, length, filter, find, All, AllPairs, None, refl, ap, sym, ◌∙◌, append_assoc}
use Rattle.std.proofs.Common.{append-nil, arith}
use Rattle.std.specs.List.{AllByRecursion}
use Rattle.std.proofs.lemmas.List.{length_push, get_or_push, take_at}
use Rattle.std.proofs.lemmas.List.Elements.{All-head, All-tail}
use Rattle.semantics.specs.declared.mark.Mark.{Mark}
use Rattle.semantics.specs.declared.mark.Mark.TheVariants.{Zero, One, Dash}
use Rattle.semantics.specs.Texts.{Bytes, Line}
use Rattle.semantics.specs.Net.{TableValue, NetValue, signal_names, name_of, IsTable}
use Rattle.semantics.specs.Refusals.{has_name}
use Rattle.semantics.specs.Blif.{mark_byte, row_line, names_line, table_lines, blif_lines, end_line}
use Rattle.blif_semantics.specs.declared.kind.Kind.{Kind}
use Rattle.blif_semantics.specs.declared.kind.Kind.TheVariants as kind
use Rattle.blif_semantics.specs.Statements.{kind_of, arguments}
use Rattle.blif_semantics.specs.Tables.{NamedTable, mark_of, last_word, marks_of, is_one, named, with_row, with_rows, if_row, rows_first, table_first, tables_of}
use Rattle.blif_semantics.specs.Reading.{NamedNet, is_inputs, is_outputs, listed, named_net, names_of, names_read, first_undriven_name, signal_named, numbered}
use Rattle.blif_semantics.proofs.NetLines.{all_append}
use Rattle.blif_semantics.proofs.WrittenRight.{row_kind}
use Rattle.blif_semantics.specs.Named.{with_signals}
use Rattle.blif_semantics.proofs.Looked.{signal_named-name_of, has_name-name_of, none_missing}

-- a table with the names of its signals
abbrev pub with_names : List Bytes → TableValue → NamedTable
with_names names t = record { name = t.name; pins = map (name_of names) t.pins; rows = t.rows; plane = t.plane }

-- ---- rows

mark_back : (marks : List Mark) → map mark_of (map mark_byte marks) ≡ marks
mark_back [] = refl
mark_back (Zero ∷ marks) = ap (λ ms. Zero ∷ ms) (mark_back marks)
mark_back (One ∷ marks) = ap (λ ms. One ∷ ms) (mark_back marks)
mark_back (Dash ∷ marks) = ap (λ ms. Dash ∷ ms) (mark_back marks)

marks_back : (plane : Bool) (marks : List Mark) → marks_of (row_line plane marks) ≡ marks
marks_back plane [] = refl
marks_back plane (m ∷ marks) = mark_back (m ∷ marks)

plane_back : (plane : Bool) (marks : List Mark) → is_one (last_word (row_line plane marks)) ≡ plane
plane_back false [] = refl
plane_back true [] = refl
plane_back false (m ∷ marks) = refl
plane_back true (m ∷ marks) = refl

-- a table with some of its rows
abbrev part : Bytes → List Bytes → List (List Mark) → Bool → NamedTable
part name pins rows plane = record { name = name; pins = pins; rows = rows; plane = plane }

row_back : (name : Bytes) (pins : List Bytes) (rows : List (List Mark)) (first plane : Bool) (marks : List Mark)
    → with_row (part name pins rows first) (row_line plane marks) ≡ part name pins (rows ++ marks ∷ []) plane
row_back name pins rows first plane marks = let ms = marks_back plane marks in let p = plane_back plane marks in rw (with_row, ms, p) refl

rows_back : (name : Bytes) (pins : List Bytes) (front rows : List (List Mark)) (plane : Bool)
    → with_rows (part name pins front plane) (map (row_line plane) rows) ≡ part name pins (front ++ rows) plane
rows_back name pins front [] plane = rw append-nil refl
rows_back name pins front (marks ∷ rows) plane =
    ap (λ t. with_rows t (map (row_line plane) rows)) (row_back name pins front plane plane marks)
    ∙ rows_back name pins (front ++ marks ∷ []) rows plane
    ∙ ap (λ all. part name pins all plane) (append_assoc front (marks ∷ []) rows)

table_back : (name : Bytes) (pins : List Bytes) (rows : List (List Mark)) (plane : Bool) → (rows ≡ [] → plane ≡ true)
    → with_rows (part name pins [] true) (map (row_line plane) rows) ≡ part name pins rows plane
table_back name pins [] plane h = ap (part name pins []) (sym (h refl))
table_back name pins (marks ∷ rows) plane h =
    ap (λ t. with_rows t (map (row_line plane) rows)) (row_back name pins [] true plane marks) ∙ rows_back name pins (marks ∷ []) rows plane

named-listed : (pins : List Bytes) (name : Bytes) → named (pins ++ name ∷ []) ≡ part name pins [] true
named-listed pins name =
    let last : length pins ≡ length (pins ++ name ∷ []) - 1 = omega (arith, length_push pins name) in
    let names = get_or_push pins name [] (length (pins ++ name ∷ []) - 1) last in
    let others = take_at pins (name ∷ []) (length (pins ++ name ∷ []) - 1) last in
    rw (named, names, others) refl

-- ---- tables

rows_first-rows : (plane : Bool) (rows : List (List Mark)) (rest : List Line) → rows_first rest ≡ [] → rows_first (map (row_line plane) rows ++ rest) ≡ map (row_line plane) rows
rows_first-rows plane [] rest h = h
rows_first-rows plane (marks ∷ rows) rest h =
    ap (λ k. if_row k (row_line plane marks ∷ rows_first (map (row_line plane) rows ++ rest)) []) (row_kind plane marks)
    ∙ ap (λ lines. row_line plane marks ∷ lines) (rows_first-rows plane rows rest h)

tables_of-rows : (plane : Bool) (rows : List (List Mark)) (rest : List Line) → tables_of (map (row_line plane) rows ++ rest) ≡ tables_of rest
tables_of-rows plane [] rest = refl
tables_of-rows plane (marks ∷ rows) rest =
    let lines : List Line = map (row_line plane) rows ++ rest in
    ap (λ k. table_first k (row_line plane marks) lines (tables_of lines)) (row_kind plane marks) ∙ tables_of-rows plane rows rest

-- the lines of tables, and the last line
abbrev body : List Bytes → List TableValue → List Line
body names tables = flat_map (table_lines names) tables ++ end_line ∷ []

body-more : (names : List Bytes) (t : TableValue) (tables : List TableValue) → body names (t ∷ tables) ≡ names_line names t ∷ (map (row_line t.plane) t.rows ++ body names tables)
body-more names t tables = append_assoc (table_lines names t) (flat_map (table_lines names) tables) (end_line ∷ [])

no_rows_first : (names : List Bytes) (tables : List TableValue) → rows_first (body names tables) ≡ []
no_rows_first names [] = refl
no_rows_first names (t ∷ tables) = refl

tables_back : (names : List Bytes) (tables : List TableValue) → All IsTable tables → tables_of (body names tables) ≡ map (with_names names) tables
tables_back names [] formed = refl
tables_back names (t ∷ tables) formed =
    let rest : List Line = body names tables in
    let pins : List Bytes = map (name_of names) t.pins in
    let rows : List Line = map (row_line t.plane) t.rows in
    let table : with_rows (named (pins ++ t.name ∷ [])) (rows_first (rows ++ rest)) ≡ with_names names t =
    ap (λ n. with_rows n (rows_first (rows ++ rest))) (named-listed pins t.name)
    ∙ ap (with_rows (part t.name pins [] true)) (rows_first-rows t.plane t.rows rest (no_rows_first names tables))
    ∙ table_back t.name pins t.rows t.plane (All-head IsTable t tables formed).plane in
    let others : tables_of (rows ++ rest) ≡ map (with_names names) tables = tables_of-rows t.plane t.rows rest ∙ tables_back names tables (All-tail IsTable t tables formed) in
    ap tables_of (body-more names t tables) ∙ cc (table, others)

-- ---- what is listed by a kind of line that no table has

record IsApart (is_kind : Kind → Bool) : Type 0 where
  names : is_kind kind.Names ≡ false
  row : is_kind kind.Row ≡ false
  end' : is_kind kind.End ≡ false

abbrev of_kind : (Kind → Bool) → List Line → List Line
of_kind is_kind lines = filter (λ words. is_kind (kind_of words)) lines

rows_apart : (is_kind : Kind → Bool) → IsApart is_kind → (plane : Bool) (rows : List (List Mark)) (rest : List Line) → of_kind is_kind rest ≡ []
    → of_kind is_kind (map (row_line plane) rows ++ rest) ≡ []
rows_apart is_kind h plane [] rest none = none
rows_apart is_kind h plane (marks ∷ rows) rest none = let apart = ap is_kind (row_kind plane marks) ∙ h.row in rw apart (rows_apart is_kind h plane rows rest none)

body_apart : (is_kind : Kind → Bool) → IsApart is_kind → (names : List Bytes) (tables : List TableValue) → of_kind is_kind (body names tables) ≡ []
body_apart is_kind h names [] = rw h.end' refl
body_apart is_kind h names (t ∷ tables) =
    ap (of_kind is_kind) (body-more names t tables)
    ∙ rw h.names (rows_apart is_kind h t.plane t.rows (body names tables) (body_apart is_kind h names tables))

-- ---- the whole net

abbrev pub named_of : NetValue → NamedNet
named_of N = record {
  model = N.model;
  inputs = N.inputs;
  outputs = map (name_of (signal_names N)) N.outputs;
  tables = map (with_names (signal_names N)) N.tables;
}

pub named_net-blif_lines : (N : NetValue) → All IsTable N.tables → named_net (blif_lines N) ≡ named_of N
unfolding named_net
named_net-blif_lines N formed =
    let names : List Bytes = signal_names N in
    let no_inputs = body_apart is_inputs (record { names = refl; row = refl; end' = refl }) names N.tables in
    let no_outputs = body_apart is_outputs (record { names = refl; row = refl; end' = refl }) names N.tables in
    let inputs : listed is_inputs (blif_lines N) ≡ N.inputs = ap (λ lines. N.inputs ++ flat_map arguments lines) no_inputs ∙ append-nil N.inputs in
    let outputs : listed is_outputs (blif_lines N) ≡ map (name_of names) N.outputs
    = ap (λ lines. map (name_of names) N.outputs ++ flat_map arguments lines) no_outputs ∙ append-nil (map (name_of names) N.outputs) in
    let tables : tables_of (blif_lines N) ≡ map (with_names names) N.tables = tables_back names N.tables formed in
    cc (inputs, outputs, tables)

names_kept : (names : List Bytes) (tables : List TableValue) → map (λ t. t.name) (map (with_names names) tables) ≡ map (λ t. t.name) tables
names_kept names [] = refl
names_kept names (t ∷ tables) = ap (λ rest. t.name ∷ rest) (names_kept names tables)

pub names_of-named_of : (N : NetValue) → names_of (named_of N) ≡ signal_names N
names_of-named_of N = ap (λ names. N.inputs ++ names) (names_kept (signal_names N) N.tables)

signals_back : (names : List Bytes) → AllPairs ◌≢◌ names → (signals : List ℕ) → All (λ s. s < length names) signals → map (signal_named names) (map (name_of names) signals) ≡ signals
signals_back names differ [] h = refl
signals_back names differ (s ∷ signals) h =
    let here = signal_named-name_of names differ s (All-head (λ p. p < length names) s signals h) in
    let rest = signals_back names differ signals (All-tail (λ p. p < length names) s signals h) in
    cc (here, rest)

pins_back : (names : List Bytes) → AllPairs ◌≢◌ names → (tables : List TableValue) → All (λ t. All (λ s. s < length names) t.pins) tables
    → map (with_signals names) (map (with_names names) tables) ≡ tables
pins_back names differ [] h = refl
pins_back names differ (t ∷ tables) h =
    let here = signals_back names differ t.pins (All-head (λ u. All (λ s. s < length names) u.pins) t tables h) in
    let rest = pins_back names differ tables (All-tail (λ u. All (λ s. s < length names) u.pins) t tables h) in
    ap (λ pins. record { name = t.name; pins = pins; rows = t.rows; plane = t.plane } ∷ map (with_signals names) (map (with_names names) tables)) here ∙ ap (λ others. t ∷ others) rest

pub numbered-named_of : (N : NetValue) → AllPairs ◌≢◌ (signal_names N) → All (λ t. All (λ s. s < length (signal_names N)) t.pins) N.tables → All (λ s. s < length (signal_names N)) N.outputs
    → numbered (named_of N) ≡ N
unfolding numbered
numbered-named_of N differ pins outputs =
    let names : List Bytes = signal_names N in
    let d : NamedNet = named_of N in
    let tables = pins_back names differ N.tables pins in
    let signals = signals_back names differ N.outputs outputs in
    ap (λ ns. record { model = d.model; inputs = d.inputs; tables = map (with_signals ns) d.tables; outputs = map (signal_named ns) d.outputs }) (names_of-named_of N)
    ∙ ap (λ ts. record { model = N.model; inputs = N.inputs; tables = ts; outputs = map (signal_named names) d.outputs }) tables
    ∙ ap (λ os. record { model = N.model; inputs = N.inputs; tables = N.tables; outputs = os }) signals

-- ---- each name is driven

signals_driven : (names : List Bytes) (signals : List ℕ) → All (λ s. s < length names) signals → AllByRecursion (λ word. has_name names word ≡ true) (map (name_of names) signals)
signals_driven names [] h = tt
signals_driven names (s ∷ signals) h = (
  has_name-name_of names s (All-head (λ p. p < length names) s signals h),
  signals_driven names signals (All-tail (λ p. p < length names) s signals h),
)

pins_driven : (names : List Bytes) (tables : List TableValue) → All (λ t. All (λ s. s < length names) t.pins) tables
    → AllByRecursion (λ word. has_name names word ≡ true) (flat_map (λ t. t.pins) (map (with_names names) tables))
pins_driven names [] h = tt
pins_driven names (t ∷ tables) h =
    all_append (λ word. has_name names word ≡ true) (map (name_of names) t.pins) (flat_map (λ t. t.pins) (map (with_names names) tables))
    (signals_driven names t.pins (All-head (λ u. All (λ s. s < length names) u.pins) t tables h))
    (pins_driven names tables (All-tail (λ u. All (λ s. s < length names) u.pins) t tables h))

pub named_of-driven : (N : NetValue) → All (λ t. All (λ s. s < length (signal_names N)) t.pins) N.tables → All (λ s. s < length (signal_names N)) N.outputs → first_undriven_name (named_of N) ≡ None
named_of-driven N pins outputs =
    let names : List Bytes = signal_names N in
    ap (λ ns. find (λ word. not (has_name ns word)) (names_read (named_of N))) (names_of-named_of N)
    ∙ none_missing names (names_read (named_of N))
    (all_append (λ word. has_name names word ≡ true) (flat_map (λ t. t.pins) (named_of N).tables) (map (name_of names) N.outputs) (pins_driven names N.tables pins)
    (signals_driven names N.outputs outputs))
