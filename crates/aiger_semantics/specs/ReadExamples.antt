-- Worked examples of reading, computed from the definitions.
use Rattle.std.specs.Prelude.{◌≡◌, ℕ, true, false, List, [], ◌∷◌, ◌++◌, codes, Result, Ok, Err}
use Rattle.semantics.specs.declared.limits.TheConstants.{MOST_INPUT_BYTES}
use Rattle.semantics.specs.declared.mark.Mark.{Mark}
use Rattle.semantics.specs.declared.mark.Mark.TheVariants.{Zero, One}
use Rattle.semantics.specs.Texts.{Bytes}
use Rattle.semantics.specs.Net.{TableValue, NetValue, constant_table, table_count, literal_count}
use Rattle.semantics.specs.Examples.{text, half_adder}
use Rattle.aiger_semantics.specs.NetCircuit.{ands_of}
use Rattle.aiger_semantics.specs.Text.{aiger_text}
use Rattle.aiger_semantics.specs.TextLines.{text_lines}
use Rattle.aiger_semantics.specs.CircuitLines.{Refusal, text_long, no_header, has_latches, wrong_line}
use Rattle.aiger_semantics.specs.CircuitLines.{wrong_symbol, twice, undefined, no_output, loop, doubled}
use Rattle.aiger_semantics.specs.CircuitLines.{circuit_reading}
use Rattle.aiger_semantics.specs.Reading.{aiger_reading}

abbrev pub read : List Bytes → Result NetValue Refusal
read lines = aiger_reading (text lines) MOST_INPUT_BYTES

abbrev pub half_adder_lines : List Bytes
half_adder_lines =
    codes "aag 6 2 0 2 4" ∷ codes "2" ∷ codes "4" ∷ codes "11" ∷ codes "12" ∷ codes "6 2 5" ∷ codes "8 3 4"
    ∷ codes "10 7 9" ∷ codes "12 2 4" ∷ []

-- a table of one row and plane 1
abbrev pub one_row : Bytes → List ℕ → List Mark → TableValue
one_row name pins marks = record { name = name; pins = pins; rows = marks ∷ []; plane = true }

-- what is read of the half adder's lines, with these names
abbrev pub half_adder_read : (a b s c : Bytes) → NetValue
half_adder_read a b s c = record {
  model = codes "top";
  inputs = a ∷ b ∷ [];
  tables =
      one_row (codes "$a3") (0 ∷ 1 ∷ []) (One ∷ Zero ∷ [])
      ∷ one_row (codes "$a4") (0 ∷ 1 ∷ []) (Zero ∷ One ∷ [])
      ∷ one_row (codes "$a5") (2 ∷ 3 ∷ []) (Zero ∷ Zero ∷ [])
      ∷ one_row (codes "$a6") (0 ∷ 1 ∷ []) (One ∷ One ∷ [])
      ∷ one_row s (4 ∷ []) (Zero ∷ [])
      ∷ one_row c (5 ∷ []) (One ∷ [])
      ∷ [];
  outputs = 6 ∷ 7 ∷ [];
}

-- Lines end at LF or CR LF, and the last line may have no end; one CR is removed, and no second one.
pub record TextLineExamples : Type 0 where
  pub empty : text_lines [] ≡ []
  pub one : text_lines (codes "a") ≡ codes "a" ∷ []
  pub ended : text_lines (codes "a" ++ 10 ∷ []) ≡ codes "a" ∷ []
  pub empty_line : text_lines (codes "a" ++ 10 ∷ 10 ∷ codes "b") ≡ codes "a" ∷ [] ∷ codes "b" ∷ []
  pub returns : text_lines (codes "a" ++ 13 ∷ 10 ∷ codes "b" ++ 13 ∷ 13 ∷ 10 ∷ codes "c" ++ 13 ∷ [])
      ≡ codes "a" ∷ (codes "b" ++ 13 ∷ []) ∷ codes "c" ∷ []

-- What is written is read as the circuit that was written, and names without symbols are a letter and a
-- place.
pub record ReadExamples : Type 0 where
  pub circuit_back : circuit_reading (text_lines (aiger_text (ands_of half_adder))) ≡ Ok (ands_of half_adder)
  pub half_adder_back : aiger_reading (aiger_text (ands_of half_adder)) MOST_INPUT_BYTES
      ≡ Ok (half_adder_read (codes "a") (codes "b") (codes "s") (codes "c"))
  pub half_adder_counts :
      (table_count (half_adder_read (codes "a") (codes "b") (codes "s") (codes "c")) ≡ 6)
      × (literal_count (half_adder_read (codes "a") (codes "b") (codes "s") (codes "c")) ≡ 10)
  pub without_symbols : read half_adder_lines
      ≡ Ok (half_adder_read (codes "i0") (codes "i1") (codes "o0") (codes "o1"))
  -- a text with a blank is no name
  pub some_symbols :
      read (half_adder_lines ++ codes "o1 c" ∷ codes "i0 a b" ∷ codes "i1 b" ∷ codes "comment"
      ∷ codes "i0 i0" ∷ [])
      ≡ Ok (half_adder_read (codes "i0") (codes "b") (codes "o0") (codes "c"))
  -- constants, an input that is an output, an output twice, and lines out of order
  pub constants :
      read (codes "aag 9 1 0 8 4" ∷ codes "2" ∷ codes "0" ∷ codes "1" ∷ codes "2" ∷ codes "2" ∷ codes "3"
      ∷ codes "18" ∷ codes "18" ∷ codes "10"
      ∷ codes "8 6 1" ∷ codes "6 2 0" ∷ codes "10 1 1" ∷ codes "18 3 8" ∷ codes "i0 a" ∷ codes "o2 a"
      ∷ codes "o6 o5" ∷ [])
      ≡ Ok (record {
        model = codes "top";
        inputs = codes "a" ∷ [];
        tables =
            one_row (codes "$a4") (2 ∷ []) (One ∷ [])
            ∷ constant_table (codes "$a3") false
            ∷ constant_table (codes "$a5") true
            ∷ one_row (codes "$a9") (0 ∷ 1 ∷ []) (Zero ∷ One ∷ [])
            ∷ constant_table (codes "o0") false
            ∷ constant_table (codes "o1") true
            ∷ one_row (codes "o3") (0 ∷ []) (One ∷ [])
            ∷ one_row (codes "o4") (0 ∷ []) (Zero ∷ [])
            ∷ one_row (codes "o5") (4 ∷ []) (One ∷ [])
            ∷ one_row (codes "o7") (3 ∷ []) (One ∷ [])
            ∷ [];
        outputs = 5 ∷ 6 ∷ 0 ∷ 7 ∷ 8 ∷ 9 ∷ 9 ∷ 10 ∷ [];
      })

-- lines that are refused
pub record LineRefusals : Type 0 where
  pub empty : aiger_reading [] MOST_INPUT_BYTES ≡ Err no_header
  pub too_long : aiger_reading (codes "aag 0 0 0 0 0") 12 ≡ Err text_long
  pub binary : read (codes "aig 0 0 0 0 0" ∷ []) ≡ Err no_header
  pub leading_zero : read (codes "aag 00 0 0 0 0" ∷ []) ≡ Err no_header
  pub two_blanks : read (codes "aag  0 0 0 0 0" ∷ []) ≡ Err no_header
  pub greatest : read (codes "aag 2147483647 0 0 0 0" ∷ []) ≡ Err no_output
  pub above_greatest : read (codes "aag 2147483648 0 0 0 0" ∷ []) ≡ Err no_header
  pub latches : read (codes "aag 1 0 1 0 0" ∷ codes "2 3" ∷ []) ≡ Err has_latches
  pub above_literals : read (codes "aag 1 1 0 1 0" ∷ codes "2" ∷ codes "4" ∷ []) ≡ Err (wrong_line 3)
  pub missing : read (codes "aag 3 1 0 1 1" ∷ codes "2" ∷ codes "6" ∷ []) ≡ Err (wrong_line 4)
  pub odd_input : read (codes "aag 1 1 0 1 0" ∷ codes "3" ∷ codes "2" ∷ []) ≡ Err (wrong_line 2)
  pub constant_defined : read (codes "aag 1 0 0 1 1" ∷ codes "2" ∷ codes "0 1 1" ∷ []) ≡ Err (wrong_line 3)
  pub no_symbol : read (half_adder_lines ++ codes "" ∷ []) ≡ Err (wrong_symbol 10)
  pub out_of_range : read (half_adder_lines ++ codes "i1 b" ∷ codes "i2 a" ∷ []) ≡ Err (wrong_symbol 11)
  pub symbol_twice : read (half_adder_lines ++ codes "i1 b" ∷ codes "o1 b" ∷ codes "i1 c" ∷ [])
      ≡ Err (wrong_symbol 12)
  pub without_text : read (half_adder_lines ++ codes "i1 " ∷ []) ≡ Err (wrong_symbol 10)
  pub defined_twice : read (codes "aag 3 1 0 1 2" ∷ codes "4" ∷ codes "9" ∷ []) ≡ Err (wrong_line 3)

-- circuits and nets that are refused
pub record CircuitRefusals : Type 0 where
  pub input_and_line : read (codes "aag 9 1 0 1 2" ∷ codes "4" ∷ codes "8" ∷ codes "6 8 8" ∷ codes "4 2 2"
      ∷ []) ≡ Err (twice 2)
  pub operand : read (codes "aag 9 1 0 1 2" ∷ codes "4" ∷ codes "8" ∷ codes "6 4 11" ∷ codes "8 2 2" ∷ [])
      ≡ Err (undefined 5)
  pub output : read (codes "aag 9 1 0 1 0" ∷ codes "4" ∷ codes "9" ∷ []) ≡ Err (undefined 4)
  pub itself : read (codes "aag 9 1 0 1 2" ∷ codes "4" ∷ codes "8" ∷ codes "6 8 8" ∷ codes "8 0 9" ∷ [])
      ≡ Err (loop 3)
  pub named_twice : read (codes "aag 2 1 0 1 1" ∷ codes "2" ∷ codes "5" ∷ codes "4 2 2" ∷ codes "o0 i0" ∷ [])
      ≡ Err (doubled (codes "i0"))
  pub named_as_a_line : read
      (codes "aag 2 1 0 1 1" ∷ codes "2" ∷ codes "4" ∷ codes "4 2 2" ∷ codes "o0 $a2" ∷ [])
      ≡ Err (doubled (codes "$a2"))
