-- The BLIF text of a net. Source: BLIF, as this tool writes it.
use Rattle.std.specs.Prelude.{ℕ, Bool, List, [], ◌∷◌, ◌++◌, map, flat_map, codes}
use Rattle.semantics.specs.declared.mark.Mark.{Mark}
use Rattle.semantics.specs.declared.mark.Mark.TheVariants.{Zero, One, Dash}
use Rattle.semantics.specs.Texts.{Bytes, Line, text_of, bit_byte}
use Rattle.semantics.specs.Net.{TableValue, NetValue, signal_names, name_of}

-- the characters `0`, `1` and `-`
abbrev pub mark_byte : Mark → ℕ
mark_byte Zero = 48
mark_byte One = 49
mark_byte Dash = 45

-- the marks and the plane, or the plane alone if there are no marks
abbrev pub row_line : Bool → List Mark → Line
row_line plane [] = (bit_byte plane ∷ []) ∷ []
row_line plane (m ∷ marks) = map mark_byte (m ∷ marks) ∷ (bit_byte plane ∷ []) ∷ []

-- `.names`, the pins' names and the table's name
abbrev pub names_line : List Bytes → TableValue → Line
names_line names t = codes ".names" ∷ (map (name_of names) t.pins ++ t.name ∷ [])

abbrev pub table_lines : List Bytes → TableValue → List Line
table_lines names t = names_line names t ∷ map (row_line t.plane) t.rows

abbrev pub end_line : Line
end_line = codes ".end" ∷ []

abbrev pub blif_lines : NetValue → List Line
blif_lines N =
    (codes ".model" ∷ N.model ∷ [])
    ∷ (codes ".inputs" ∷ N.inputs)
    ∷ (codes ".outputs" ∷ map (name_of (signal_names N)) N.outputs)
    ∷ (flat_map (table_lines (signal_names N)) N.tables ++ end_line ∷ [])

unfoldable pub blif_text : NetValue → Bytes
blif_text N = text_of (blif_lines N)
