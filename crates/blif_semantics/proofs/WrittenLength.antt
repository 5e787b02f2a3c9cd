-- How long the text of a small net is.
use Rattle.std.proofs.Common.{◌≡◌, ℕ, ◌+◌, ◌*◌, ◌^◌, ◌<◌, ◌≤◌, Bool, List, [], ◌∷◌, ◌++◌, map, flat_map, length, All, refl, sym, subst, arith}
use Rattle.std.specs.List.{AllByRecursion, join_with_byte, sum_by}
use Rattle.std.proofs.lemmas.List.{length-append, length-map}
use Rattle.std.proofs.lemmas.List.Elements.{All-weaker, All-map, All-get_or, All-head, All-tail}
use Rattle.std.proofs.lemmas.List.Sums.{sum_by-cons}
use Rattle.semantics.specs.declared.mark.Mark.{Mark}
use Rattle.semantics.specs.Texts.{Bytes, Line, line_text, text_of}
use Rattle.semantics.specs.Net.{TableValue, NetValue, signal_names, name_of, signal_count, pin_count, IsName, IsTable, IsSound, IsSmall}
use Rattle.semantics.specs.Blif.{mark_byte, row_line, table_lines, blif_lines, blif_text, end_line}
use Rattle.blif_semantics.proofs.WordLines.{IsLine}
use Rattle.blif_semantics.proofs.NetLines.{length-signal_names, signal_names-are_names, blif_lines-are_lines}

-- each word with the byte after it
abbrev words_size : Line → ℕ
words_size [] = 0
words_size (word ∷ words) = length word + 1 + words_size words

abbrev lines_size : List Line → ℕ
lines_size [] = 0
lines_size (line ∷ lines) = words_size line + lines_size lines

words_size-append : (words more : Line) → words_size (words ++ more) ≡ words_size words + words_size more
words_size-append [] more = omega arith
words_size-append (word ∷ words) more = let rest = words_size-append words more in omega (arith, rest)

lines_size-append : (lines more : List Line) → lines_size (lines ++ more) ≡ lines_size lines + lines_size more
lines_size-append [] more = omega arith
lines_size-append (line ∷ lines) more = let rest = lines_size-append lines more in omega (arith, rest)

joined_size : (words : Line) → 0 < length words → length (join_with_byte 32 words) + 1 ≡ words_size words
joined_size [] some = absurd (omega arith)
joined_size (word ∷ []) some = omega arith
joined_size (word ∷ next ∷ words) some =
    let rest = joined_size (next ∷ words) (omega arith) in
    let whole = length-append word (32 ∷ join_with_byte 32 (next ∷ words)) in
    omega (arith, rest, whole)

text_size : (lines : List Line) → AllByRecursion IsLine lines → length (text_of lines) ≡ lines_size lines
unfolding text_of
text_size [] h = refl
text_size (line ∷ lines) h =
    let whole = length-append (line_text line) (flat_map line_text lines) in
    let here = length-append (join_with_byte 32 line) (10 ∷ []) in
    let words = joined_size line h.0.some in
    let rest = text_size lines h.1 in
    omega (arith, whole, here, words, rest)

-- ---- bounds

names_size : (names : List Bytes) → All IsName names → words_size names ≤ length names * 1024
names_size [] h = omega arith
names_size (name ∷ names) h =
    let short = (All-head IsName name names h).short in
    let rest = names_size names (All-tail IsName name names h) in
    omega (arith, short, rest)

signals_size : (names : List Bytes) → All IsName names → (signals : List ℕ) → All (λ s. s < length names) signals → words_size (map (name_of names) signals) ≤ length signals * 1024
signals_size names h signals within =
    let named : All IsName (map (name_of names) signals)
    = All-map IsName (name_of names) signals (All-weaker (λ s. s < length names) (λ s. IsName (name_of names s)) (λ s l. All-get_or IsName names s [] l h) signals within) in
    omega (arith, names_size (map (name_of names) signals) named, length-map signals (name_of names))

row_size : (plane : Bool) (marks : List Mark) → words_size (row_line plane marks) ≤ length marks + 3
row_size plane [] = omega arith
row_size plane (m ∷ marks) = omega (arith, length-map marks mark_byte)

rows_size : (plane : Bool) (rows : List (List Mark)) (n : ℕ) → n ≤ 256 → All (λ marks. length marks ≡ n) rows → lines_size (map (row_line plane) rows) ≤ length rows * 259
rows_size plane [] n few widths = omega arith
rows_size plane (marks ∷ rows) n few widths =
    let width = All-head (λ row. length row ≡ n) marks rows widths in
    let here = row_size plane marks in
    let rest = rows_size plane rows n few (All-tail (λ row. length row ≡ n) marks rows widths) in
    omega (arith, few, width, here, rest)

table_size : (names : List Bytes) → All IsName names → (t : TableValue) → IsTable t → length t.pins ≤ 256 → All (λ s. s < length names) t.pins
    → lines_size (table_lines names t) ≤ 1031 + length t.pins * 1024 + length t.rows * 259
table_size names h t formed few pins =
    let whole = words_size-append (map (name_of names) t.pins) (t.name ∷ []) in
    let pin_names = signals_size names h t.pins pins in
    let rows = rows_size t.plane t.rows (length t.pins) few formed.widths in
    let short = formed.named.short in
    omega (arith, whole, pin_names, rows, short)

tables_size : (names : List Bytes) → All IsName names → (tables : List TableValue) → All IsTable tables → All (λ t. length t.pins ≤ 256) tables → All (λ t. All (λ s. s < length names) t.pins) tables
    → lines_size (flat_map (table_lines names) tables) ≤ length tables * 1031 + sum_by (λ t. length t.pins) tables * 1024 + sum_by (λ t. length t.rows) tables * 259
tables_size names h [] formed few pins = omega arith
tables_size names h (t ∷ tables) formed few pins =
    let whole = lines_size-append (table_lines names t) (flat_map (table_lines names) tables) in
    let here = table_size names h t (All-head IsTable t tables formed) (All-head (λ u. length u.pins ≤ 256) t tables few) (All-head (λ u. All (λ s. s < length names) u.pins) t tables pins) in
    let rest = tables_size names h tables (All-tail IsTable t tables formed) (All-tail (λ u. length u.pins ≤ 256) t tables few) (All-tail (λ u. All (λ s. s < length names) u.pins) t tables pins) in
    let all_pins = sum_by-cons (λ u. length u.pins) t tables in
    let all_rows = sum_by-cons (λ u. length u.rows) t tables in
    omega (arith, whole, here, rest, all_pins, all_rows)

pub blif_text-short : (N : NetValue) → IsSound N → IsSmall N → length (blif_text N) < pin_count N * 1024 + 2 ^ 24
unfolding blif_text
blif_text-short N h small =
    let names : List Bytes = signal_names N in
    let named : All IsName names = signal_names-are_names N h in
    let count : signal_count N ≡ length names = sym (length-signal_names N) in
    let places : All (λ s. s < length names) N.outputs = subst (λ k. All (λ s. s < k) N.outputs) count h.outputs_are_signals in
    let pins : All (λ t. All (λ s. s < length names) t.pins) N.tables = subst (λ k. All (λ t. All (λ s. s < k) t.pins) N.tables) count h.pins_are_signals in
    let whole = text_size (blif_lines N) (blif_lines-are_lines N h) in
    let model = h.model_named.short in
    let inputs = names_size N.inputs h.inputs_named in
    let outputs = signals_size names named N.outputs places in
    let body = lines_size-append (flat_map (table_lines names) N.tables) (end_line ∷ []) in
    let tables = tables_size names named N.tables h.tables_formed small.table_pins pins in
    omega (arith, whole, model, inputs, outputs, body, tables, small.inputs, small.outputs, small.tables, small.all_rows)
