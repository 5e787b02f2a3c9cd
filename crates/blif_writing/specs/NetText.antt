-- The parts of a net's BLIF text, one behind another. Source: BLIF, as this tool writes it.
use Rattle.std.specs.Prelude.{ℕ, Bool, List, [], ◌∷◌, ◌++◌, map, flat_map, codes}
use Rattle.semantics.specs.declared.mark.Mark.{Mark}
use Rattle.semantics.specs.Texts.{Bytes, line_text}
use Rattle.semantics.specs.Net.{TableValue, NetValue, signal_names, name_of}
use Rattle.semantics.specs.Blif.{mark_byte, row_line, names_line}

-- each word behind a blank
abbrev pub blank_words : List Bytes → Bytes
blank_words words = flat_map (λ word. 32 ∷ word) words

-- the name of each signal behind a blank
abbrev pub blank_names : List Bytes → List ℕ → Bytes
blank_names names signals = flat_map (λ s. 32 ∷ name_of names s) signals

abbrev pub marks_text : List Mark → Bytes
marks_text marks = flat_map (λ mark. mark_byte mark ∷ []) marks

-- the lines of rows with one plane
abbrev pub rows_text : Bool → List (List Mark) → Bytes
rows_text plane rows = flat_map (λ marks. line_text (row_line plane marks)) rows

abbrev pub table_text : List Bytes → TableValue → Bytes
table_text names t = line_text (names_line names t) ++ rows_text t.plane t.rows

abbrev pub tables_text : List Bytes → List TableValue → Bytes
tables_text names tables = flat_map (table_text names) tables

-- the lines of the model, the inputs and the outputs
abbrev pub header_text : NetValue → Bytes
header_text N =
    line_text (codes ".model" ∷ N.model ∷ [])
    ++ (line_text (codes ".inputs" ∷ N.inputs)
    ++ line_text (codes ".outputs" ∷ map (name_of (signal_names N)) N.outputs))
