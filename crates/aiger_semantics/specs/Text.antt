-- The text of an AND circuit. Source: the ASCII form of AIGER, with no latch and a symbol for each input and
-- output.
use Rattle.std.specs.Prelude.{ℕ, ◌+◌, List, [], ◌∷◌, ◌++◌, map, length, decimal, codes}
use Rattle.std.specs.List.{range_with_len}
use Rattle.semantics.specs.Texts.{Bytes, Line, text_of}
use Rattle.semantics.specs.Net.{name_of}
use Rattle.aiger_semantics.specs.declared.and_line.AndLine.{AndLine}
use Rattle.aiger_semantics.specs.Circuit.{CircuitValue, literal_of_variable}

-- the greatest variable, and the numbers of inputs, latches, outputs and AND lines
abbrev pub header_line : CircuitValue → Line
header_line c =
    codes "aag" ∷ decimal (length c.inputs + length c.ands) ∷ decimal (length c.inputs) ∷ codes "0"
    ∷ decimal (length c.outputs)
    ∷ decimal (length c.ands) ∷ []

abbrev pub number_line : ℕ → Line
number_line n = decimal n ∷ []

abbrev pub input_line : ℕ → Line
input_line variable = number_line (literal_of_variable variable)

abbrev pub and_line : AndLine → Line
and_line a = decimal (literal_of_variable a.variable) ∷ decimal a.left ∷ decimal a.right ∷ []

-- a letter and a place, counted from 0, and the name of what stands there
abbrev pub symbol_line : ℕ → List Bytes → ℕ → Line
symbol_line letter names i = (letter ∷ decimal i) ∷ name_of names i ∷ []

abbrev pub symbol_lines : ℕ → List Bytes → List Line
symbol_lines letter names = map (symbol_line letter names) (range_with_len 0 (length names))

-- the letters `i` and `o`
abbrev pub aiger_lines : CircuitValue → List Line
aiger_lines c =
    header_line c
    ∷ (map input_line c.inputs
    ++ (map number_line c.outputs
    ++ (map and_line c.ands ++ (symbol_lines 105 c.input_names ++ symbol_lines 111 c.output_names))))

unfoldable pub aiger_text : CircuitValue → Bytes
aiger_text c = text_of (aiger_lines c)
