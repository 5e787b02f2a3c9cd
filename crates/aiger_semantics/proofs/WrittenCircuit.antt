-- The text of a circuit is read back, where the circuit is one that a text can have.
use Rattle.std.proofs.Common.{◌≡◌, ℕ, zero, suc, ◌+◌, ◌*◌, ◌/◌, ◌%◌, ◌<◌, ◌≤◌, true, false, cond, ◌==◌, leb, List, [], ◌∷◌, ◌++◌, map, length, drop, decimal, All, codes, Some, None, Result, Ok, refl}
use Rattle.std.proofs.Common.{ap, sym, subst, ◌∙◌, append-nil, arith}
use Rattle.std.specs.List.{AllByRecursion, range_with_len, join_with_byte}
use Rattle.std.proofs.lemmas.Bool.{eq-eqb, and_from, le-leb, le-ltb}
use Rattle.std.proofs.lemmas.Fmt.{decimal_digit}
use Rattle.std.proofs.lemmas.List.{map-append, length-map}
use Rattle.std.proofs.lemmas.List.Elements.{All-from_recursion}
use Rattle.std.proofs.Math.Seq.{drop-append_seam, drop-append-add}
use Rattle.semantics.specs.Texts.{Bytes, Line}
use Rattle.semantics.specs.Net.{IsName, name_of}
use Rattle.blif_semantics.proofs.Names.{IsName-from_test}
use Rattle.blif_semantics.proofs.WordLines.{IsLine}
use Rattle.aiger_semantics.specs.declared.and_line.AndLine.{AndLine}
use Rattle.aiger_semantics.specs.declared.header.Header.{Header}
use Rattle.aiger_semantics.specs.Circuit.{CircuitValue, literal_of_variable}
use Rattle.aiger_semantics.specs.Text.{header_line, number_line, input_line, and_line, symbol_line, symbol_lines, aiger_lines, aiger_text}
use Rattle.aiger_semantics.specs.TextLines.{text_lines}
use Rattle.aiger_semantics.specs.CircuitLines.{Refusal, and_then, most_in_header, header_numbers, header_words, header_of, greatest_literal, is_definable, input_numbers, input_of, output_numbers}
use Rattle.aiger_semantics.specs.CircuitLines.{output_of, and_numbers, and_of, all_read, Symbol, symbols_after, before_comment, begins_comment, names_at, symbols_line, body_reading, with_header}
use Rattle.aiger_semantics.specs.CircuitLines.{circuit_reading}
use Rattle.aiger_semantics.proofs.Each.{each-append}
use Rattle.aiger_semantics.proofs.WrittenNumbers.{IsLow, word_from_name, text_lines-written, pieces-written, all_numbers-written, number_line-formed, line_numbers-written, all_read-written}
use Rattle.aiger_semantics.proofs.WrittenSymbols.{symbol_bytes, symbol-formed, name_before, letter-lines, names-read, before_comment-none}

abbrev pub greatest_of : CircuitValue → ℕ
greatest_of c = length c.inputs + length c.ands

abbrev pub IsVariable : CircuitValue → ℕ → Type 0
IsVariable c v = (0 < v) × (v ≤ greatest_of c)

abbrev pub IsLiteral : CircuitValue → ℕ → Type 0
IsLiteral c l = l ≤ 2 * greatest_of c + 1

-- a circuit that a text can have
pub record IsTextual (c : CircuitValue) : Type 0 where
  pub few_variables : greatest_of c ≤ most_in_header
  pub few_outputs : length c.outputs ≤ most_in_header
  pub input_count : length c.input_names ≡ length c.inputs
  pub output_count : length c.output_names ≡ length c.outputs
  pub inputs_named : All IsName c.input_names
  pub outputs_named : All IsName c.output_names
  pub inputs_within : AllByRecursion (IsVariable c) c.inputs
  pub lines_within : AllByRecursion (λ a. IsVariable c a.variable × IsLiteral c a.left × IsLiteral c a.right) c.ands
  pub outputs_within : AllByRecursion (IsLiteral c) c.outputs

-- ---- lists

each-map : {X Y : Type 0} (P : Y → Type 0) (f : X → Y) (xs : List X) → AllByRecursion (λ x. P (f x)) xs → AllByRecursion P (map f xs)
each-map P f [] h = tt
each-map P f (x ∷ xs) h = (h.0, each-map P f xs h.1)

pub each-weaker : {X : Type 0} (P Q : X → Type 0) (xs : List X) → ((x : X) → P x → Q x) → AllByRecursion P xs → AllByRecursion Q xs
each-weaker P Q [] weak h = tt
each-weaker P Q (x ∷ xs) weak h = (weak x h.0, each-weaker P Q xs weak h.1)

range-below : (a n : ℕ) → AllByRecursion (λ i. i < a + n) (range_with_len a n)
range-below a zero = tt
range-below a (suc n) = (omega arith, each-weaker (λ i. i < (a + 1) + n) (λ i. i < a + suc n) (range_with_len (a + 1) n) (λ i low. omega (arith, low)) (range-below (a + 1) n))

map-twice : {X Y Z : Type 0} (g : Y → Z) (f : X → Y) (xs : List X) → map g (map f xs) ≡ map (λ x. g (f x)) xs
map-twice g f [] = refl
map-twice g f (x ∷ xs) = ap (λ l. g (f x) ∷ l) (map-twice g f xs)

skip-one : {X : Type 0} (write : X → Bytes) (xs : List X) (rest : List Bytes) → drop (length xs) (map write xs ++ rest) ≡ rest
skip-one write xs rest = ap (λ k. drop k (map write xs ++ rest)) (sym (length-map xs write)) ∙ drop-append_seam (map write xs) rest

skip-more : {X : Type 0} (write : X → Bytes) (xs : List X) (rest : List Bytes) (n : ℕ) → drop (length xs + n) (map write xs ++ rest) ≡ drop n rest
skip-more write xs rest n = ap (λ k. drop (k + n) (map write xs ++ rest)) (sym (length-map xs write)) ∙ drop-append-add (map write xs) rest n

and_then-ok : {X Y : Type 0} (r : Result X Refusal) (rest : X → Result Y Refusal) (x : X) (y : Y) → r ≡ Ok x → rest x ≡ Ok y → and_then r rest ≡ Ok y
and_then-ok r rest x y e next = ap (λ s. and_then s rest) e ∙ next

-- ---- the lines as bytes

abbrev joined_line : Line → Bytes
joined_line line = join_with_byte 32 line

abbrev input_bytes : ℕ → Bytes
input_bytes v = joined_line (input_line v)

abbrev output_bytes : ℕ → Bytes
output_bytes l = joined_line (number_line l)

abbrev and_bytes : AndLine → Bytes
and_bytes a = joined_line (and_line a)

abbrev symbols_bytes : ℕ → List Bytes → List Bytes
symbols_bytes letter names = map (symbol_bytes letter names) (range_with_len 0 (length names))

abbrev both_symbols : CircuitValue → List Bytes
both_symbols c = symbols_bytes 105 c.input_names ++ symbols_bytes 111 c.output_names

abbrev body_bytes : CircuitValue → List Bytes
body_bytes c = map input_bytes c.inputs ++ (map output_bytes c.outputs ++ (map and_bytes c.ands ++ both_symbols c))

abbrev header_for : CircuitValue → Header
header_for c = record { greatest = greatest_of c; inputs = length c.inputs; latches = 0; outputs = length c.outputs; ands = length c.ands }

bytes-are : (c : CircuitValue) → map joined_line (aiger_lines c) ≡ joined_line (header_line c) ∷ body_bytes c
bytes-are c =
    let i : List Line = map input_line c.inputs in
    let o : List Line = map number_line c.outputs in
    let a : List Line = map and_line c.ands in
    let s : List Line = symbol_lines 105 c.input_names in
    let t : List Line = symbol_lines 111 c.output_names in
    ap (λ l. joined_line (header_line c) ∷ l)
    (map-append joined_line i (o ++ (a ++ (s ++ t)))
    ∙ ap (λ l. l ++ map joined_line (o ++ (a ++ (s ++ t)))) (map-twice joined_line input_line c.inputs)
    ∙ ap (λ l. map input_bytes c.inputs ++ l)
    (map-append joined_line o (a ++ (s ++ t))
    ∙ ap (λ l. l ++ map joined_line (a ++ (s ++ t))) (map-twice joined_line number_line c.outputs)
    ∙ ap (λ l. map output_bytes c.outputs ++ l)
    (map-append joined_line a (s ++ t)
    ∙ ap (λ l. l ++ map joined_line (s ++ t)) (map-twice joined_line and_line c.ands)
    ∙ ap (λ l. map and_bytes c.ands ++ l)
    (map-append joined_line s t
    ∙ ap (λ l. l ++ map joined_line t) (map-twice joined_line (symbol_line 105 c.input_names) (range_with_len 0 (length c.input_names)))
    ∙ ap (λ l. symbols_bytes 105 c.input_names ++ l) (map-twice joined_line (symbol_line 111 c.output_names) (range_with_len 0 (length c.output_names)))))))

module _ (c : CircuitValue) (h : IsTextual c) where
  most : ℕ
  most = greatest_literal (header_for c)

  -- ---- each line has words

  double-low : (v : ℕ) → IsVariable c v → IsLow (greatest_literal (header_for c)) (literal_of_variable v)
  double-low v is = let few = h.few_variables in record { within = omega (arith, is.1); small = omega (arith, is.1, few) }

  literal-low : (l : ℕ) → IsLiteral c l → IsLow (greatest_literal (header_for c)) l
  literal-low l is = let few = h.few_variables in record { within = is; small = omega (arith, is, few) }

  header-numbers-low : AllByRecursion (IsLow most_in_header) (greatest_of c ∷ length c.inputs ∷ 0 ∷ length c.outputs ∷ length c.ands ∷ [])
  header-numbers-low =
      let few = h.few_variables in
      let outputs = h.few_outputs in
      let inputs_low : IsLow most_in_header (length c.inputs) = record { within = omega (arith, few); small = omega (arith, few) } in
      let outputs_low : IsLow most_in_header (length c.outputs) = record { within = outputs; small = omega (arith, outputs) } in
      let ands_low : IsLow most_in_header (length c.ands) = record { within = omega (arith, few); small = omega (arith, few) } in
      let none_low : IsLow most_in_header 0 = record { within = omega arith; small = omega arith } in
      (record { within = few; small = omega (arith, few) }, (inputs_low, (none_low, (outputs_low, (ands_low, tt)))))

  header-is : header_line c ≡ codes "aag" ∷ map decimal (greatest_of c ∷ length c.inputs ∷ 0 ∷ length c.outputs ∷ length c.ands ∷ [])
  header-is =
      ap (λ (word : Bytes). codes "aag" ∷ decimal (greatest_of c) ∷ decimal (length c.inputs) ∷ word ∷ decimal (length c.outputs) ∷ decimal (length c.ands) ∷ [])
      (sym (decimal_digit 0 (omega arith)))

  header-formed : IsLine (header_line c)
  header-formed =
      let numbers = number_line-formed most_in_header (greatest_of c ∷ length c.inputs ∷ 0 ∷ length c.outputs ∷ length c.ands ∷ []) (omega arith) header-numbers-low in
      subst IsLine (sym header-is) (record { some = omega arith; words = (word_from_name (codes "aag") (IsName-from_test (codes "aag") refl), numbers.words) })

  inputs-formed : AllByRecursion (λ v. IsLine (input_line v)) c.inputs
  inputs-formed =
      each-weaker (IsVariable c) (λ v. IsLine (input_line v)) c.inputs
      (λ v is. number_line-formed (greatest_literal (header_for c)) (literal_of_variable v ∷ []) (omega arith) (double-low v is, tt)) h.inputs_within

  outputs-formed : AllByRecursion (λ l. IsLine (number_line l)) c.outputs
  outputs-formed =
      each-weaker (IsLiteral c) (λ l. IsLine (number_line l)) c.outputs
      (λ l is. number_line-formed (greatest_literal (header_for c)) (l ∷ []) (omega arith) (literal-low l is, tt)) h.outputs_within

  numbers-low : (a : AndLine) → IsVariable c a.variable × IsLiteral c a.left × IsLiteral c a.right
      → AllByRecursion (IsLow (greatest_literal (header_for c))) (literal_of_variable a.variable ∷ a.left ∷ a.right ∷ [])
  numbers-low a is = (double-low a.variable is.0, (literal-low a.left is.1, (literal-low a.right is.2, tt)))

  ands-formed : AllByRecursion (λ a. IsLine (and_line a)) c.ands
  ands-formed =
      each-weaker (λ a. IsVariable c a.variable × IsLiteral c a.left × IsLiteral c a.right) (λ a. IsLine (and_line a)) c.ands
      (λ a is. number_line-formed (greatest_literal (header_for c)) (literal_of_variable a.variable ∷ a.left ∷ a.right ∷ []) (omega arith) (numbers-low a is)) h.lines_within

  few_input_names : length c.input_names ≤ most_in_header
  few_input_names = let few = h.few_variables in let count = h.input_count in omega (arith, few, count)

  few_output_names : length c.output_names ≤ most_in_header
  few_output_names = let few = h.few_outputs in let count = h.output_count in omega (arith, few, count)

  input_symbols-formed : AllByRecursion IsLine (symbol_lines 105 c.input_names)
  input_symbols-formed =
      each-map IsLine (symbol_line 105 c.input_names) (range_with_len 0 (length c.input_names))
      (each-weaker (λ i. i < 0 + length c.input_names) (λ i. IsLine (symbol_line 105 c.input_names i)) (range_with_len 0 (length c.input_names))
      (λ i low. symbol-formed (header_for c) 105 c.input_names h.inputs_named (sym h.input_count) few_input_names i (omega arith, omega arith, omega arith) (omega (arith, low)))
      (range-below 0 (length c.input_names)))

  output_symbols-formed : AllByRecursion IsLine (symbol_lines 111 c.output_names)
  output_symbols-formed =
      each-map IsLine (symbol_line 111 c.output_names) (range_with_len 0 (length c.output_names))
      (each-weaker (λ i. i < 0 + length c.output_names) (λ i. IsLine (symbol_line 111 c.output_names i)) (range_with_len 0 (length c.output_names))
      (λ i low. symbol-formed (header_for c) 111 c.output_names h.outputs_named (sym h.output_count) few_output_names i (omega arith, omega arith, omega arith) (omega (arith, low)))
      (range-below 0 (length c.output_names)))

  lines-formed : AllByRecursion IsLine (aiger_lines c)
  lines-formed =
      let symbols = each-append IsLine (symbol_lines 105 c.input_names) (symbol_lines 111 c.output_names) input_symbols-formed output_symbols-formed in
      let ands = each-append IsLine (map and_line c.ands) (symbol_lines 105 c.input_names ++ symbol_lines 111 c.output_names) (each-map IsLine and_line c.ands ands-formed) symbols in
      let outputs = each-append IsLine (map number_line c.outputs) (map and_line c.ands ++ (symbol_lines 105 c.input_names ++ symbol_lines 111 c.output_names))
      (each-map IsLine number_line c.outputs outputs-formed) ands in (
        header-formed,
        each-append IsLine (map input_line c.inputs) (map number_line c.outputs ++ (map and_line c.ands ++ (symbol_lines 105 c.input_names ++ symbol_lines 111 c.output_names)))
            (each-map IsLine input_line c.inputs inputs-formed) outputs,
      )

  -- ---- each line is read

  header-read : header_of (joined_line (header_line c)) ≡ Some (header_for c)
  header-read =
      ap header_words (pieces-written (header_line c) header-formed ∙ header-is)
      ∙ ap header_numbers (all_numbers-written most_in_header (greatest_of c ∷ length c.inputs ∷ 0 ∷ length c.outputs ∷ length c.ands ∷ []) header-numbers-low)

  double-definable : (v : ℕ) → 0 < v → is_definable (literal_of_variable v) ≡ true
  double-definable v some =
      let even : (2 * v) % 2 ≡ 0 = omega arith in
      and_from ((2 * v) % 2 == 0) (leb 2 (2 * v)) (eq-eqb ((2 * v) % 2) 0 even) (le-leb 2 (2 * v) (omega (arith, some)))

  input-read : (v : ℕ) → IsVariable c v → input_of (greatest_literal (header_for c)) (input_bytes v) ≡ Some v
  input-read v is =
      let half : (2 * v) / 2 ≡ v = omega arith in
      ap input_numbers (line_numbers-written (greatest_literal (header_for c)) (literal_of_variable v ∷ []) (omega arith) (double-low v is, tt))
      ∙ ap (λ t. cond t (Some ((2 * v) / 2)) None) (double-definable v is.0) ∙ ap Some half

  output-read : (l : ℕ) → IsLiteral c l → output_of (greatest_literal (header_for c)) (output_bytes l) ≡ Some l
  output-read l is = ap output_numbers (line_numbers-written (greatest_literal (header_for c)) (l ∷ []) (omega arith) (literal-low l is, tt))

  and-read : (a : AndLine) → IsVariable c a.variable × IsLiteral c a.left × IsLiteral c a.right → and_of (greatest_literal (header_for c)) (and_bytes a) ≡ Some a
  and-read a is =
      let half : (2 * a.variable) / 2 ≡ a.variable = omega arith in
      ap and_numbers (line_numbers-written (greatest_literal (header_for c)) (literal_of_variable a.variable ∷ a.left ∷ a.right ∷ []) (omega arith) (numbers-low a is))
      ∙ ap (λ t. cond t (Some (record { variable = (2 * a.variable) / 2; left = a.left; right = a.right })) None) (double-definable a.variable is.0.0)
      ∙ ap (λ v. Some (record { variable = v; left = a.left; right = a.right })) half

  -- ---- the symbols

  no-comment : (letter : ℕ) (names : List Bytes) → (letter == 99) ≡ false → AllByRecursion (λ line. begins_comment line ≡ false) (symbols_bytes letter names)
  no-comment letter names other =
      each-map (λ line. begins_comment line ≡ false) (symbol_bytes letter names) (range_with_len 0 (length names))
      (each-weaker (λ i. i < 0 + length names) (λ i. begins_comment (symbol_bytes letter names i) ≡ false) (range_with_len 0 (length names)) (λ i low. other) (range-below 0 (length names)))

  uncommented : before_comment (both_symbols c) ≡ both_symbols c
  uncommented =
      before_comment-none (both_symbols c)
      (All-from_recursion (λ line. begins_comment line ≡ false) (both_symbols c)
      (each-append (λ line. begins_comment line ≡ false) (symbols_bytes 105 c.input_names) (symbols_bytes 111 c.output_names) (no-comment 105 c.input_names refl) (no-comment 111 c.output_names refl)))

  none-before : (names : List Bytes) (place : ℕ) → [] ≡ name_before names 0 place
  none-before names place = sym (ap (λ t. cond t (name_of names place) []) (le-ltb place 0 (omega arith)))

  record AreRead (number : ℕ) : Type 0 where
    symbols : List Symbol
    are : symbols_after (header_for c) number [] (both_symbols c) ≡ Ok symbols
    inputs : names_at symbols 105 (length c.inputs) ≡ c.input_names
    outputs : names_at symbols 111 (length c.outputs) ≡ c.output_names

  symbols-read : (number : ℕ) → AreRead number
  symbols-read number =
      let first = letter-lines (header_for c) 105 c.input_names h.inputs_named (sym h.input_count) few_input_names
      (length c.input_names) 0 number [] (symbols_bytes 111 c.output_names) (omega arith) (none-before c.input_names) in
      let second = letter-lines (header_for c) 111 c.output_names h.outputs_named (sym h.output_count) few_output_names
      (length c.output_names) 0 first.next first.symbols [] (omega arith)
      (λ place. first.others 111 place (λ e. omega (arith, e)) ∙ none-before c.output_names place) in
      record {
        symbols = second.symbols;
        are = first.go ∙ ap (symbols_after (header_for c) first.next first.symbols) (sym (append-nil (symbols_bytes 111 c.output_names))) ∙ second.go;
        inputs =
            ap (names_at second.symbols 105) (sym h.input_count)
            ∙ names-read 105 c.input_names second.symbols h.inputs_named (λ place. second.others 105 place (λ e. omega (arith, e)) ∙ first.own place);
        outputs = ap (names_at second.symbols 111) (sym h.output_count) ∙ names-read 111 c.output_names second.symbols h.outputs_named second.own;
      }

  -- ---- the whole

  body-read : body_reading (header_for c) (body_bytes c) ≡ Ok c
  body-read =
      let outputs_on : List Bytes = map output_bytes c.outputs ++ (map and_bytes c.ands ++ both_symbols c) in
      let ands_on : List Bytes = map and_bytes c.ands ++ both_symbols c in
      let past_inputs : drop (length c.inputs) (body_bytes c) ≡ outputs_on = skip-one input_bytes c.inputs outputs_on in
      let past_outputs : drop (length c.inputs + length c.outputs) (body_bytes c) ≡ ands_on =
      skip-more input_bytes c.inputs outputs_on (length c.outputs) ∙ skip-one output_bytes c.outputs ands_on in
      let sum : length c.inputs + length c.outputs + length c.ands ≡ length c.inputs + (length c.outputs + length c.ands) = omega arith in
      let past_ands : drop (length c.inputs + length c.outputs + length c.ands) (body_bytes c) ≡ both_symbols c =
      ap (λ k. drop k (body_bytes c)) sum
      ∙ skip-more input_bytes c.inputs outputs_on (length c.outputs + length c.ands)
      ∙ skip-more output_bytes c.outputs ands_on (length c.ands)
      ∙ skip-one and_bytes c.ands (both_symbols c) in
      let inputs = all_read-written (input_of (greatest_literal (header_for c))) input_bytes 2 c.inputs outputs_on
      (each-weaker (IsVariable c) (λ v. input_of (greatest_literal (header_for c)) (input_bytes v) ≡ Some v) c.inputs input-read h.inputs_within) in
      let outputs = all_read-written (output_of (greatest_literal (header_for c))) output_bytes (2 + length c.inputs) c.outputs ands_on
      (each-weaker (IsLiteral c) (λ l. output_of (greatest_literal (header_for c)) (output_bytes l) ≡ Some l) c.outputs output-read h.outputs_within) in
      let ands = all_read-written (and_of (greatest_literal (header_for c))) and_bytes (2 + length c.inputs + length c.outputs) c.ands (both_symbols c)
      (each-weaker (λ a. IsVariable c a.variable × IsLiteral c a.left × IsLiteral c a.right) (λ a. and_of (greatest_literal (header_for c)) (and_bytes a) ≡ Some a) c.ands and-read h.lines_within) in
      let symbols = symbols-read (symbols_line (header_for c)) in
      and_then-ok (all_read (input_of (greatest_literal (header_for c))) 2 (length c.inputs) (body_bytes c)) _ c.inputs c inputs
      (and_then-ok (all_read (output_of (greatest_literal (header_for c))) (2 + length c.inputs) (length c.outputs) (drop (length c.inputs) (body_bytes c))) _ c.outputs c
      (ap (all_read (output_of (greatest_literal (header_for c))) (2 + length c.inputs) (length c.outputs)) past_inputs ∙ outputs)
      (and_then-ok (all_read (and_of (greatest_literal (header_for c))) (2 + length c.inputs + length c.outputs) (length c.ands) (drop (length c.inputs + length c.outputs) (body_bytes c))) _ c.ands c
      (ap (all_read (and_of (greatest_literal (header_for c))) (2 + length c.inputs + length c.outputs) (length c.ands)) past_outputs ∙ ands)
      (and_then-ok (symbols_after (header_for c) (symbols_line (header_for c)) [] (before_comment (drop (length c.inputs + length c.outputs + length c.ands) (body_bytes c)))) _ symbols.symbols c
      (ap (λ l. symbols_after (header_for c) (symbols_line (header_for c)) [] (before_comment l)) past_ands
      ∙ ap (symbols_after (header_for c) (symbols_line (header_for c)) []) uncommented ∙ symbols.are)
      (ap (λ (names : List Bytes). Ok (record {
        inputs = c.inputs;
        ands = c.ands;
        outputs = c.outputs;
        input_names = names;
        output_names = names_at symbols.symbols 111 (length c.outputs);
      })) symbols.inputs
      ∙ ap (λ (names : List Bytes). Ok (record {
        inputs = c.inputs;
        ands = c.ands;
        outputs = c.outputs;
        input_names = c.input_names;
        output_names = names;
      })) symbols.outputs))))

  pub circuit-read : circuit_reading (text_lines (aiger_text c)) ≡ Ok c
  unfolding aiger_text
  circuit-read =
      ap circuit_reading (text_lines-written (aiger_lines c) lines-formed ∙ bytes-are c)
      ∙ ap (λ o. with_header o (body_bytes c)) header-read
      ∙ body-read
