-- The parts of a net's text make the whole.
use Rattle.std.proofs.Common.{◌≡◌, ◌==◌, ℕ, Bool, false, length, List, [], ◌∷◌, ◌++◌, map, flat_map, codes, refl, sym, ap, ◌∙◌, append_assoc}
use Rattle.std.specs.List.{join_with_byte}
use Rattle.std.proofs.lemmas.List.{append-nil}
use Rattle.std.proofs.lemmas.Grind.{flat_map-append}
use Rattle.semantics.specs.declared.mark.Mark.{Mark}
use Rattle.semantics.specs.Texts.{Bytes, Line, line_text, text_of, bit_byte}
use Rattle.semantics.specs.Net.{TableValue, NetValue, signal_names, name_of}
use Rattle.semantics.specs.Blif.{mark_byte, row_line, names_line, table_lines, blif_text, end_line}
use Rattle.blif_writing.specs.NetText.{blank_words, blank_names, marks_text, rows_text, table_text, tables_text, header_text}

joined_words : (word : Bytes) (words : List Bytes) → join_with_byte 32 (word ∷ words) ≡ word ++ blank_words words
joined_words word [] = sym (append-nil word)
joined_words word (next ∷ words) = ap (λ x. word ++ (32 ∷ x)) (joined_words next words)

-- a line is its first word, and each further word behind a blank
pub line_text-words : (word : Bytes) (words : List Bytes) → line_text (word ∷ words) ≡ word ++ (blank_words words ++ 10 ∷ [])
line_text-words word words = ap (λ x. x ++ 10 ∷ []) (joined_words word words) ∙ append_assoc word (blank_words words) (10 ∷ [])

-- words behind blanks, in two parts
pub blank_words-append : (xs ys : List Bytes) → blank_words (xs ++ ys) ≡ blank_words xs ++ blank_words ys
blank_words-append xs ys = flat_map-append (λ word. 32 ∷ word) xs ys

-- the names of signals are words behind blanks
pub blank_words-names : (names : List Bytes) (signals : List ℕ) → blank_words (map (name_of names) signals) ≡ blank_names names signals
blank_words-names names [] = refl
blank_words-names names (s ∷ signals) = ap (λ x. (32 ∷ name_of names s) ++ x) (blank_words-names names signals)

-- the characters of marks
pub marks_text-map : (marks : List Mark) → marks_text marks ≡ map mark_byte marks
marks_text-map [] = refl
marks_text-map (m ∷ marks) = ap (λ x. mark_byte m ∷ x) (marks_text-map marks)

rows_lines : (plane : Bool) (rows : List (List Mark)) → text_of (map (row_line plane) rows) ≡ rows_text plane rows
unfolding text_of
rows_lines plane [] = refl
rows_lines plane (row ∷ rows) = ap (λ x. line_text (row_line plane row) ++ x) (rows_lines plane rows)

-- the text of lines, in two parts
pub text_of-append : (xs ys : List Line) → text_of (xs ++ ys) ≡ text_of xs ++ text_of ys
unfolding text_of
text_of-append xs ys = flat_map-append line_text xs ys

table_lines_text : (names : List Bytes) (t : TableValue) → text_of (table_lines names t) ≡ table_text names t
unfolding text_of
table_lines_text names t = ap (λ x. line_text (names_line names t) ++ x) (rows_lines t.plane t.rows)

tables_lines : (names : List Bytes) (tables : List TableValue) → text_of (flat_map (table_lines names) tables) ≡ tables_text names tables
tables_lines names [] = unfold text_of in refl
tables_lines names (t ∷ tables) =
    text_of-append (table_lines names t) (flat_map (table_lines names) tables)
    ∙ ap (λ x. x ++ text_of (flat_map (table_lines names) tables)) (table_lines_text names t)
    ∙ ap (λ x. table_text names t ++ x) (tables_lines names tables)

-- the text is the header, the tables and the end line
pub blif_text-parts : (N : NetValue) → header_text N ++ (tables_text (signal_names N) N.tables ++ line_text end_line) ≡ blif_text N
unfolding text_of blif_text
blif_text-parts N =
    let names : List Bytes = signal_names N in
    let model : Bytes = line_text (codes ".model" ∷ N.model ∷ []) in
    let inputs : Bytes = line_text (codes ".inputs" ∷ N.inputs) in
    let outputs : Bytes = line_text (codes ".outputs" ∷ map (name_of names) N.outputs) in
    let rest : Bytes = tables_text names N.tables ++ line_text end_line in
    append_assoc model (inputs ++ outputs) rest
    ∙ ap (λ x. model ++ x) (append_assoc inputs outputs rest)
    ∙ ap (λ x. model ++ (inputs ++ (outputs ++ x)))
    (ap (λ x. x ++ line_text end_line) (sym (tables_lines names N.tables))
    ∙ ap (λ x. text_of (flat_map (table_lines names) N.tables) ++ x) (sym (append-nil (line_text end_line)))
    ∙ sym (text_of-append (flat_map (table_lines names) N.tables) (end_line ∷ [])))

header_pieces : (m lf i x o y : Bytes) → (m ++ ((lf ++ i) ++ [])) ++ (x ++ ((lf ++ o) ++ (y ++ lf))) ≡ (m ++ lf) ++ ((i ++ (x ++ lf)) ++ (o ++ (y ++ lf)))
header_pieces m lf i x o y = simp (append_assoc, append-nil {A = ℕ})

-- the three lines of the header in the pieces in which they are written
pub header_text-parts : (N : NetValue) (model : Bytes) → model ≡ N.model
    → (codes ".model " ++ (model ++ ((10 ∷ codes ".inputs") ++ []))) ++ (blank_words N.inputs ++ ((10 ∷ codes ".outputs") ++ (blank_names (signal_names N) N.outputs ++ (10 ∷ [])))) ≡ header_text N
header_text-parts N model is =
    let names : List Bytes = signal_names N in
    let lf : Bytes = 10 ∷ [] in
    let first : codes ".inputs" ++ (blank_words N.inputs ++ lf) ≡ line_text (codes ".inputs" ∷ N.inputs) = sym (line_text-words (codes ".inputs") N.inputs) in
    let second : codes ".outputs" ++ (blank_names names N.outputs ++ lf) ≡ line_text (codes ".outputs" ∷ map (name_of names) N.outputs) =
    ap (λ x. codes ".outputs" ++ (x ++ lf)) (sym (blank_words-names names N.outputs)) ∙ sym (line_text-words (codes ".outputs") (map (name_of names) N.outputs)) in
    ap (λ x. codes ".model " ++ x) (header_pieces model lf (codes ".inputs") (blank_words N.inputs) (codes ".outputs") (blank_names names N.outputs))
    ∙ ap (λ m. codes ".model " ++ ((m ++ lf) ++ ((codes ".inputs" ++ (blank_words N.inputs ++ lf)) ++ (codes ".outputs" ++ (blank_names names N.outputs ++ lf))))) is
    ∙ ap (λ x. codes ".model " ++ ((N.model ++ lf) ++ (x ++ (codes ".outputs" ++ (blank_names names N.outputs ++ lf))))) first
    ∙ ap (λ x. codes ".model " ++ ((N.model ++ lf) ++ (line_text (codes ".inputs" ∷ N.inputs) ++ x))) second

names_line_pieces : (pins name lf : Bytes) → pins ++ (32 ∷ (name ++ (lf ++ []))) ≡ (pins ++ (32 ∷ name ++ [])) ++ lf
names_line_pieces pins name lf = simp (append_assoc, append-nil {A = ℕ})

-- the line that begins a table, in pieces
pub names_line-parts : (names : List Bytes) (t : TableValue) (pins : List ℕ) (name : Bytes) → pins ≡ t.pins → name ≡ t.name
    → codes ".names" ++ (blank_names names pins ++ (32 ∷ (name ++ (10 ∷ [] ++ [])))) ≡ line_text (names_line names t)
names_line-parts names t pins name same_pins same_name =
    let words : List Bytes = map (name_of names) t.pins in
    ap (λ p. codes ".names" ++ (blank_names names p ++ (32 ∷ (name ++ (10 ∷ [] ++ []))))) same_pins
    ∙ ap (λ n. codes ".names" ++ (blank_names names t.pins ++ (32 ∷ (n ++ (10 ∷ [] ++ []))))) same_name
    ∙ ap (λ x. codes ".names" ++ x) (names_line_pieces (blank_names names t.pins) t.name (10 ∷ []))
    ∙ ap (λ x. codes ".names" ++ ((x ++ (32 ∷ t.name ++ [])) ++ 10 ∷ [])) (sym (blank_words-names names t.pins))
    ∙ ap (λ x. codes ".names" ++ (x ++ 10 ∷ [])) (sym (blank_words-append words (t.name ∷ [])))
    ∙ sym (line_text-words (codes ".names") (words ++ t.name ∷ []))

-- the line of a row with marks, in pieces
pub row_line-parts : (plane : Bool) (marks : List Mark) (digit : ℕ) → (length marks == 0) ≡ false → digit ≡ bit_byte plane
    → marks_text marks ++ (32 ∷ digit ∷ 10 ∷ []) ≡ line_text (row_line plane marks)
row_line-parts plane [] digit some is = cc
row_line-parts plane (m ∷ marks) digit some is =
    ap (λ d. marks_text (m ∷ marks) ++ (32 ∷ d ∷ 10 ∷ [])) is
    ∙ ap (λ x. x ++ (32 ∷ bit_byte plane ∷ 10 ∷ [])) (marks_text-map (m ∷ marks))
    ∙ sym (append_assoc (map mark_byte (m ∷ marks)) (32 ∷ bit_byte plane ∷ []) (10 ∷ []))

-- a table's line and its rows
pub table_text-parts : (names : List Bytes) (t : TableValue) (rows : List (List Mark)) (plane : Bool) → rows ≡ t.rows → plane ≡ t.plane
    → line_text (names_line names t) ++ rows_text plane rows ≡ table_text names t
table_text-parts names t rows plane same_rows same_plane =
    ap (λ r. line_text (names_line names t) ++ rows_text plane r) same_rows ∙ ap (λ p. line_text (names_line names t) ++ rows_text p t.rows) same_plane
