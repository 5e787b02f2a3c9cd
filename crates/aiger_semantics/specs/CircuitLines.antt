-- From the lines of a text to an AND circuit, or the first refusal of a line. Source: the ASCII form of
-- AIGER; what is refused, and in which order, is this tool's own.
use Rattle.std.specs.Prelude.{ℕ, zero, suc, ◌+◌, ◌-◌, ◌*◌, ◌/◌, ◌%◌, ◌^◌, ◌==◌, nat_lt, nat_le, Bool, false}
use Rattle.std.specs.Prelude.{◌&&◌, List, [], ◌∷◌, map, length, take, drop, codes, decimal, bytes_eq}
use Rattle.std.specs.Prelude.{position, Option, Some, None, Result, Ok, Err, if◌then◌else◌}
use Rattle.std.specs.List.{range_with_len}
use Rattle.semantics.specs.declared.which.Which.{Which}
use Rattle.semantics.specs.Texts.{Bytes}
use Rattle.blif_semantics.specs.Statements.{is_name}
use Rattle.aiger_semantics.specs.declared.and_line.AndLine.{AndLine}
use Rattle.aiger_semantics.specs.declared.header.Header.{Header}
use Rattle.aiger_semantics.specs.Circuit.{CircuitValue}
use Rattle.aiger_semantics.specs.TextLines.{pieces, number_to, all_numbers, line_numbers}

-- lines are counted from 1; a refusal of the circuit tells a variable, and a refusal of the net tells a name
pub data Refusal : Type 0 where
  text_long : Refusal
  no_header : Refusal
  has_latches : Refusal
  wrong_line : (line : ℕ) → Refusal
  wrong_symbol : (line : ℕ) → Refusal
  twice : (variable : ℕ) → Refusal
  undefined : (variable : ℕ) → Refusal
  no_output : Refusal
  loop : (variable : ℕ) → Refusal
  doubled : (name : Bytes) → Refusal
  limit : Which → Refusal

-- the first refusal, or what the second reading makes of the result of the first
abbrev pub and_then : {X Y : Type 0} → Result X Refusal → (X → Result Y Refusal) → Result Y Refusal
and_then (Err refusal) rest = Err refusal
and_then (Ok x) rest = rest x

-- ---- the header

-- the greatest number of a header
abbrev pub most_in_header : ℕ
most_in_header = 2 ^ 31 - 1

abbrev pub header_numbers : Option (List ℕ) → Option Header
header_numbers (Some (greatest ∷ inputs ∷ latches ∷ outputs ∷ ands ∷ [])) =
    Some (record { greatest = greatest; inputs = inputs; latches = latches; outputs = outputs; ands = ands })
header_numbers _ = None

abbrev pub header_words : List Bytes → Option Header
header_words [] = None
header_words (word ∷ words)
    = if bytes_eq word (codes "aag") then header_numbers (all_numbers most_in_header words) else None

abbrev pub header_of : Bytes → Option Header
header_of line = header_words (pieces line)

-- ---- the lines of inputs, outputs and ANDs

-- the greatest literal
abbrev pub greatest_literal : Header → ℕ
greatest_literal h = 2 * h.greatest + 1

-- the literal of a variable that is defined: even, and no constant
abbrev pub is_definable : ℕ → Bool
is_definable literal = literal % 2 == 0 && nat_le 2 literal

-- the variable of an input line
abbrev pub input_numbers : Option (List ℕ) → Option ℕ
input_numbers (Some (literal ∷ [])) = if is_definable literal then Some (literal / 2) else None
input_numbers _ = None

abbrev pub input_of : ℕ → Bytes → Option ℕ
input_of most line = input_numbers (line_numbers most line)

-- the literal of an output line
abbrev pub output_numbers : Option (List ℕ) → Option ℕ
output_numbers (Some (literal ∷ [])) = Some literal
output_numbers _ = None

abbrev pub output_of : ℕ → Bytes → Option ℕ
output_of most line = output_numbers (line_numbers most line)

abbrev pub and_numbers : Option (List ℕ) → Option AndLine
and_numbers (Some (literal ∷ left ∷ right ∷ [])) =
    if is_definable literal then Some (record { variable = literal / 2; left = left; right = right })
    else None
and_numbers _ = None

abbrev pub and_of : ℕ → Bytes → Option AndLine
and_of most line = and_numbers (line_numbers most line)

abbrev pub put_before : {X : Type 0} → X → Result (List X) Refusal → Result (List X) Refusal
put_before x (Err refusal) = Err refusal
put_before x (Ok xs) = Ok (x ∷ xs)

-- what the first `count` of the lines say, where the first of them has the number `number`; or the first of
-- them that is missing or lacks its form
abbrev pub all_read : {X : Type 0} → (Bytes → Option X) → (number count : ℕ) → List Bytes
    → Result (List X) Refusal
all_read read number zero lines = Ok []
all_read read number (suc count) [] = Err (wrong_line number)
all_read read number (suc count) (line ∷ lines) =
    elim (read line) [
      | None ↦ Err (wrong_line number)
      | Some x ↦ put_before x
          (all_read read (number + 1) count lines)
    ]

-- ---- symbols

-- the letter `i` or `o`, a place, and a text for the input or output that stands there
pub record Symbol : Type 0 where
  pub letter : ℕ
  pub place : ℕ
  pub text : Bytes

-- the number of places for a letter
abbrev pub places : Header → ℕ → ℕ
places h letter = if letter == 105 then h.inputs else (if letter == 111 then h.outputs else 0)

-- the symbol of a place and a text: the word is a decimal number below the limit, and the text is not empty
abbrev pub symbol_at : ℕ → ℕ → Bytes → Bytes → Option Symbol
symbol_at letter count word text =
    if length text == 0 then None
    else elim (number_to most_in_header word) [
      | None ↦ None
      | Some place ↦ if nat_lt place count then Some (record { letter = letter; place = place; text = text })
          else None
    ]

-- a letter and a place, and behind the first blank a text
abbrev pub symbol_of : Header → Bytes → Option Symbol
symbol_of h [] = None
symbol_of h (letter ∷ rest) =
    elim (position (λ b. b == 32) rest)
    [ None ↦ None | Some at ↦ symbol_at letter (places h letter) (take at rest) (drop (at + 1) rest) ]

-- the text that symbols give to a place, and no bytes where they give none
abbrev pub symbol_text : List Symbol → ℕ → ℕ → Bytes
symbol_text [] letter place = []
symbol_text (s ∷ symbols) letter place
    = if s.letter == letter && s.place == place then s.text else symbol_text symbols letter place

-- whether none of the symbols stands at the place of this one
abbrev pub is_new : List Symbol → Symbol → Bool
is_new symbols s = length (symbol_text symbols s.letter s.place) == 0

-- The symbols of lines, of which the first has this number, behind the symbols so far; or the first line that
-- is no symbol, or that names a place a second time.
abbrev pub symbols_after : Header → ℕ → List Symbol → List Bytes → Result (List Symbol) Refusal
symbols_after h number so_far [] = Ok so_far
symbols_after h number so_far (line ∷ lines) =
    elim (symbol_of h line) [
      | None ↦ Err (wrong_symbol number)
      | Some s ↦ if is_new so_far s then symbols_after h (number + 1) (s ∷ so_far) lines
          else Err (wrong_symbol number)
    ]

abbrev pub begins_comment : Bytes → Bool
begins_comment [] = false
begins_comment (b ∷ bs) = b == 99

-- the lines before the one that ends the reading
abbrev pub before_comment : List Bytes → List Bytes
before_comment lines = elim (position begins_comment lines) [ None ↦ lines | Some at ↦ take at lines ]

-- the symbol's text where that is a name, else the letter and the place
abbrev pub name_at : List Symbol → ℕ → ℕ → Bytes
name_at symbols letter place =
    let text = symbol_text symbols letter place in
    if is_name text then text else letter ∷ decimal place

abbrev pub names_at : List Symbol → ℕ → ℕ → List Bytes
names_at symbols letter count = map (name_at symbols letter) (range_with_len 0 count)

-- ---- the circuit

-- the number of the first line of symbols
abbrev pub symbols_line : Header → ℕ
symbols_line h = 2 + h.inputs + h.outputs + h.ands

-- the circuit of the lines behind the header: the inputs, the outputs, the ANDs, and then the symbols
abbrev pub body_reading : Header → List Bytes → Result CircuitValue Refusal
body_reading h lines =
    let most = greatest_literal h in
    and_then (all_read (input_of most) 2 h.inputs lines) (λ inputs.
    and_then (all_read (output_of most) (2 + h.inputs) h.outputs (drop h.inputs lines)) (λ outputs.
    and_then (all_read (and_of most) (2 + h.inputs + h.outputs) h.ands (drop (h.inputs + h.outputs) lines))
    (λ ands.
    and_then (symbols_after h (symbols_line h) []
    (before_comment (drop (h.inputs + h.outputs + h.ands) lines))) (λ symbols.
    Ok (record {
      inputs = inputs;
      ands = ands;
      outputs = outputs;
      input_names = names_at symbols 105 h.inputs;
      output_names = names_at symbols 111 h.outputs;
    })))))

abbrev pub with_header : Option Header → List Bytes → Result CircuitValue Refusal
with_header None lines = Err no_header
with_header (Some h) lines = if h.latches == 0 then body_reading h lines else Err has_latches

abbrev pub circuit_reading : List Bytes → Result CircuitValue Refusal
circuit_reading [] = Err no_header
circuit_reading (line ∷ lines) = with_header (header_of line) lines
