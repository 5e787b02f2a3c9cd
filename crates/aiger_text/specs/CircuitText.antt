-- The parts of a circuit's text, one behind another. Source: the ASCII form of AIGER.
use Rattle.std.specs.Prelude.{ℕ, List, ◌++◌, flat_map, length}
use Rattle.std.specs.List.{range_with_len}
use Rattle.semantics.specs.Texts.{Bytes, line_text}
use Rattle.aiger_semantics.specs.declared.and_line.AndLine.{AndLine}
use Rattle.aiger_semantics.specs.Circuit.{CircuitValue}
use Rattle.aiger_semantics.specs.Text.{header_line, number_line, input_line, and_line, symbol_line}

abbrev pub inputs_text : List ℕ → Bytes
inputs_text variables = flat_map (λ variable. line_text (input_line variable)) variables

abbrev pub outputs_text : List ℕ → Bytes
outputs_text literals = flat_map (λ literal. line_text (number_line literal)) literals

abbrev pub ands_text : List AndLine → Bytes
ands_text ands = flat_map (λ a. line_text (and_line a)) ands

abbrev pub symbols_text : ℕ → List Bytes → Bytes
symbols_text letter names = flat_map (λ i. line_text (symbol_line letter names i))
    (range_with_len 0 (length names))

-- the lines before the symbols
abbrev pub body_text : CircuitValue → Bytes
body_text c = line_text (header_line c)
    ++ (inputs_text c.inputs ++ (outputs_text c.outputs ++ ands_text c.ands))
