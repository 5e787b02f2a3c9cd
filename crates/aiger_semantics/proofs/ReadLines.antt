-- What is known of a circuit that lines are read as: as many names as inputs and outputs, each of them a name; and no variable is 0.
use Rattle.std.proofs.Common.{◌≡◌, ℕ, zero, suc, ◌+◌, ◌/◌, ◌%◌, ◌^◌, ◌<◌, ◌≤◌, Bool, true, false, cond, ◌&&◌, ◌==◌, leb, List, [], ◌∷◌, length, drop, decimal, All, codes, bytes_eq, true≢false}
use Rattle.std.proofs.Common.{Option, Some, None, Result, Ok, Err, refl, ap, sym, subst, arith}
use Rattle.std.specs.List.{AllByRecursion}
use Rattle.std.specs.Option.{option_map}
use Rattle.std.proofs.lemmas.Bool.{and_parts, leb-true}
use Rattle.std.proofs.lemmas.List.FromFn.{length-map-range_with_len, get_or-map-range_with_len}
use Rattle.std.proofs.lemmas.Option.{none-some, same_Some}
use Rattle.semantics.specs.Texts.{Bytes}
use Rattle.semantics.specs.Net.{IsNameByte, IsName}
use Rattle.semantics.specs.Decimal.{is_decimal, digits_number}
use Rattle.semantics.proofs.NumberedNames.{IsName-numbered}
use Rattle.blif_semantics.specs.Statements.{is_name}
use Rattle.blif_semantics.proofs.Names.{IsName-from_test}
use Rattle.aiger_semantics.specs.declared.and_line.AndLine.{AndLine}
use Rattle.aiger_semantics.specs.declared.header.Header.{Header}
use Rattle.aiger_semantics.specs.Circuit.{CircuitValue}
use Rattle.aiger_semantics.specs.TextLines.{number_to, all_numbers, line_numbers, pieces}
use Rattle.aiger_semantics.specs.CircuitLines.{Refusal, no_header, has_latches, wrong_line, and_then, most_in_header, header_numbers, header_words, header_of, greatest_literal, is_definable}
use Rattle.aiger_semantics.specs.CircuitLines.{input_numbers, input_of, output_of, and_numbers, and_of, put_before, all_read, Symbol, symbol_text, symbols_after, before_comment, name_at, names_at}
use Rattle.aiger_semantics.specs.CircuitLines.{symbols_line, body_reading, with_header, circuit_reading}

is_read : {X : Type 0} → Result X Refusal → Bool
is_read (Ok x) = true
is_read (Err refusal) = false

pub err-ok : {X : Type 0} (r : Refusal) (x : X) → Err r ≡ Ok x → ⊥
unfolding is_read
err-ok r x e = true≢false (sym (ap is_read e))

value_or : {X : Type 0} → Result X Refusal → X → X
value_or (Ok x) y = x
value_or (Err refusal) y = y

pub ok-same : {X : Type 0} (x y : X) → ◌≡◌ {A = Result X Refusal} (Ok x) (Ok y) → x ≡ y
unfolding value_or
ok-same x y e = ap (λ r. value_or r x) e

-- what was read, and what the rest made of it
pub and_then-parts : {X Y : Type 0} (r : Result X Refusal) (rest : X → Result Y Refusal) (y : Y) → and_then r rest ≡ Ok y → (x : X) × ((r ≡ Ok x) × (rest x ≡ Ok y))
and_then-parts (Err refusal) rest y e = absurd (err-ok refusal y e)
and_then-parts (Ok x) rest y e = (x, (refl, e))

-- ---- lines of a section

read-more : {X : Type 0} (P : X → Type 0) (found : Option X) (r : Result (List X) Refusal) (number count : ℕ) (xs : List X) → ((x : X) → found ≡ Some x → P x)
    → ((ys : List X) → r ≡ Ok ys → (length ys ≡ count) × AllByRecursion P ys)
    → ◌≡◌ {A = Result (List X) Refusal} (elim found [ None ↦ Err (wrong_line number) | Some x ↦ put_before x r ]) (Ok xs) → (length xs ≡ suc count) × AllByRecursion P xs
read-more P None r number count xs each rest e = absurd (err-ok (wrong_line number) xs e)
read-more P (Some x) (Err refusal) number count xs each rest e = absurd (err-ok refusal xs e)
read-more P (Some x) (Ok ys) number count xs each rest e =
    let more = rest ys refl in
    subst (λ zs. (length zs ≡ suc count) × AllByRecursion P zs) (ok-same (x ∷ ys) xs e) (ap suc more.0, (each x refl, more.1))

-- as many as were asked for, and of each what its line says
pub read-each : {X : Type 0} (P : X → Type 0) (read : Bytes → Option X) → ((line : Bytes) (x : X) → read line ≡ Some x → P x) → (number count : ℕ) (lines : List Bytes) (xs : List X)
    → all_read read number count lines ≡ Ok xs → (length xs ≡ count) × AllByRecursion P xs
read-each P read each number zero lines xs e = subst (λ ys. (length ys ≡ 0) × AllByRecursion P ys) (ok-same [] xs e) (refl, tt)
read-each P read each number (suc count) [] xs e = absurd (err-ok (wrong_line number) xs e)
read-each P read each number (suc count) (line ∷ lines) xs e =
    read-more P (read line) (all_read read (number + 1) count lines) number count xs (each line) (λ ys. read-each P read each (number + 1) count lines ys) e

-- ---- numbers

number-low : (most : ℕ) (word : Bytes) (n : ℕ) → number_to most word ≡ Some n → n ≤ most
number-low most word n e = at_test (is_decimal word && leb (digits_number word) most) refl e
  where
    at_test : (t : Bool) → (is_decimal word && leb (digits_number word) most) ≡ t → cond t (Some (digits_number word)) None ≡ Some n → n ≤ most
    at_test true is k =
        let low = leb-true (digits_number word) most (and_parts (is_decimal word) (leb (digits_number word) most) is).1 in
        omega (arith, low, same_Some _ _ k)
    at_test false is k = absurd (none-some n k)

numbers-more : (most : ℕ) (found : Option ℕ) (rest : Option (List ℕ)) (ns : List ℕ) → ((n : ℕ) → found ≡ Some n → n ≤ most) → ((ms : List ℕ) → rest ≡ Some ms → AllByRecursion (λ n. n ≤ most) ms)
    → elim found [ None ↦ None | Some n ↦ option_map (λ numbers. n ∷ numbers) rest ] ≡ Some ns → AllByRecursion (λ n. n ≤ most) ns
numbers-more most None rest ns each more e = absurd (none-some ns e)
numbers-more most (Some n) None ns each more e = absurd (none-some ns e)
numbers-more most (Some n) (Some ms) ns each more e = subst (AllByRecursion (λ m. m ≤ most)) (same_Some _ _ e) (each n refl, more ms refl)

numbers-low : (most : ℕ) (words : List Bytes) (ns : List ℕ) → all_numbers most words ≡ Some ns → AllByRecursion (λ n. n ≤ most) ns
numbers-low most [] ns e = subst (AllByRecursion (λ m. m ≤ most)) (same_Some _ _ e) tt
numbers-low most (word ∷ words) ns e = numbers-more most (number_to most word) (all_numbers most words) ns (number-low most word) (λ ms. numbers-low most words ms) e

abbrev AreLow : ℕ → Option (List ℕ) → Type 0
AreLow most o = (ns : List ℕ) → o ≡ Some ns → AllByRecursion (λ n. n ≤ most) ns

-- ---- the header

pub record IsLow (h : Header) : Type 0 where
  pub greatest : h.greatest ≤ most_in_header
  pub inputs : h.inputs ≤ most_in_header
  pub outputs : h.outputs ≤ most_in_header

header-numbers-low : (o : Option (List ℕ)) (h : Header) → AreLow most_in_header o → header_numbers o ≡ Some h → IsLow h
header-numbers-low None h low e = absurd (none-some h e)
header-numbers-low (Some []) h low e = absurd (none-some h e)
header-numbers-low (Some (a ∷ [])) h low e = absurd (none-some h e)
header-numbers-low (Some (a ∷ b ∷ [])) h low e = absurd (none-some h e)
header-numbers-low (Some (a ∷ b ∷ d ∷ [])) h low e = absurd (none-some h e)
header-numbers-low (Some (a ∷ b ∷ d ∷ f ∷ [])) h low e = absurd (none-some h e)
header-numbers-low (Some (a ∷ b ∷ d ∷ f ∷ g ∷ [])) h low e =
    let all = low (a ∷ b ∷ d ∷ f ∷ g ∷ []) refl in
    subst IsLow (same_Some _ _ e) (record { greatest = all.0; inputs = all.1.0; outputs = all.1.1.1.0 })
header-numbers-low (Some (a ∷ b ∷ d ∷ f ∷ g ∷ i ∷ is)) h low e = absurd (none-some h e)

pub header-low : (words : List Bytes) (h : Header) → header_words words ≡ Some h → IsLow h
header-low [] h e = absurd (none-some h e)
header-low (word ∷ words) h e = at_test (bytes_eq word (codes "aag")) e
  where
    low : AreLow most_in_header (all_numbers most_in_header words)
    low ns is = numbers-low most_in_header words ns is

    at_test : (t : Bool) → cond t (header_numbers (all_numbers most_in_header words)) None ≡ Some h → IsLow h
    at_test true k = header-numbers-low (all_numbers most_in_header words) h low k
    at_test false k = absurd (none-some h k)

-- ---- inputs and lines

half-some : (l : ℕ) → is_definable l ≡ true → 0 < l / 2
half-some l is = let low = leb-true 2 l (and_parts (l % 2 == 0) (leb 2 l) is).1 in omega (arith, low)

-- an input is no constant, and a variable of less than 2^31
pub record IsInput (v : ℕ) : Type 0 where
  pub some : 0 < v
  pub low : v < 2 ^ 31

input-formed : (most : ℕ) → most < 2 ^ 32 → (o : Option (List ℕ)) (v : ℕ) → AreLow most o → input_numbers o ≡ Some v → IsInput v
input-formed most small None v low e = absurd (none-some v e)
input-formed most small (Some []) v low e = absurd (none-some v e)
input-formed most small (Some (l ∷ [])) v low e = at_test (is_definable l) refl e
  where
    bound : l ≤ most
    bound = (low (l ∷ []) refl).0

    at_test : (t : Bool) → is_definable l ≡ t → cond t (Some (l / 2)) None ≡ Some v → IsInput v
    at_test true is k = subst IsInput (same_Some _ _ k) (record { some = half-some l is; low = omega (arith, bound, small) })
    at_test false is k = absurd (none-some v k)
input-formed most small (Some (l ∷ k ∷ ks)) v low e = absurd (none-some v e)

-- a line defines no constant, and a variable of less than 2^64
pub record IsDefinition (a : AndLine) : Type 0 where
  pub some : 0 < a.variable
  pub low : a.variable < 2 ^ 64

and-defines : (most : ℕ) → most < 2 ^ 32 → (o : Option (List ℕ)) (a : AndLine) → AreLow most o → and_numbers o ≡ Some a → IsDefinition a
and-defines most small None a low e = absurd (none-some a e)
and-defines most small (Some []) a low e = absurd (none-some a e)
and-defines most small (Some (l ∷ [])) a low e = absurd (none-some a e)
and-defines most small (Some (l ∷ m ∷ [])) a low e = absurd (none-some a e)
and-defines most small (Some (l ∷ m ∷ n ∷ [])) a low e = at_test (is_definable l) refl e
  where
    bound : l ≤ most
    bound = (low (l ∷ m ∷ n ∷ []) refl).0

    at_test : (t : Bool) → is_definable l ≡ t → cond t (Some (record { variable = l / 2; left = m; right = n })) None ≡ Some a → IsDefinition a
    at_test true is k = subst IsDefinition (same_Some _ _ k) (record { some = half-some l is; low = omega (arith, bound, small) })
    at_test false is k = absurd (none-some a k)
and-defines most small (Some (l ∷ m ∷ n ∷ k ∷ ks)) a low e = absurd (none-some a e)

-- ---- names

name-named : (symbols : List Symbol) (letter place : ℕ) → IsNameByte letter → place < 2 ^ 64 → IsName (name_at symbols letter place)
name-named symbols letter place byte low = at_test (is_name (symbol_text symbols letter place)) refl
  where
    at_test : (t : Bool) → is_name (symbol_text symbols letter place) ≡ t → IsName (cond t (symbol_text symbols letter place) (letter ∷ decimal place))
    at_test true is = IsName-from_test (symbol_text symbols letter place) is
    at_test false is = IsName-numbered letter place byte low

names-named : (symbols : List Symbol) (letter count : ℕ) → IsNameByte letter → count ≤ most_in_header → All IsName (names_at symbols letter count)
names-named symbols letter count byte low i d within =
    let size = length-map-range_with_len (name_at symbols letter) 0 count in
    let below : i < count = omega (arith, within, size) in
    subst IsName (sym (get_or-map-range_with_len (name_at symbols letter) 0 count i i d below (omega arith))) (name-named symbols letter i byte (omega (arith, below, low)))

-- ---- the circuit

pub record IsDrawn (c : CircuitValue) : Type 0 where
  pub input_count : length c.input_names ≡ length c.inputs
  pub output_count : length c.output_names ≡ length c.outputs
  pub inputs_named : All IsName c.input_names
  pub outputs_named : All IsName c.output_names
  pub inputs_formed : AllByRecursion IsInput c.inputs
  pub lines_define : AllByRecursion IsDefinition c.ands

body-drawn : (h : Header) (lines : List Bytes) (c : CircuitValue) → IsLow h → body_reading h lines ≡ Ok c → IsDrawn c
body-drawn h lines c low e =
    let most = greatest_literal h in
    let one = and_then-parts (all_read (input_of most) 2 h.inputs lines) _ c e in
    let two = and_then-parts (all_read (output_of most) (2 + h.inputs) h.outputs (drop h.inputs lines)) _ c one.1.1 in
    let three = and_then-parts (all_read (and_of most) (2 + h.inputs + h.outputs) h.ands (drop (h.inputs + h.outputs) lines)) _ c two.1.1 in
    let four = and_then-parts (symbols_after h (symbols_line h) [] (before_comment (drop (h.inputs + h.outputs + h.ands) lines))) _ c three.1.1 in
    let inputs = read-each IsInput (input_of most)
    (λ line v. input-formed most (let g = low.greatest in omega (arith, g)) (line_numbers most line) v (λ ns is. numbers-low most (pieces line) ns is)) 2 h.inputs lines one.0 one.1.0 in
    let outputs = read-each (λ (l : ℕ). Unit {0}) (output_of most) (λ line l k. tt) (2 + h.inputs) h.outputs (drop h.inputs lines) two.0 two.1.0 in
    let ands = read-each IsDefinition (and_of most)
    (λ line a. and-defines most (let g = low.greatest in omega (arith, g)) (line_numbers most line) a (λ ns is. numbers-low most (pieces line) ns is)) (2 + h.inputs + h.outputs) h.ands
    (drop (h.inputs + h.outputs) lines) three.0 three.1.0 in
    let input_size = length-map-range_with_len (name_at four.0 105) 0 h.inputs in
    let output_size = length-map-range_with_len (name_at four.0 111) 0 h.outputs in
    subst IsDrawn (ok-same _ c four.1.1)
    (record {
      input_count = omega (arith, input_size, inputs.0);
      output_count = omega (arith, output_size, outputs.0);
      inputs_named = names-named four.0 105 h.inputs (omega arith, omega arith, omega arith) low.inputs;
      outputs_named = names-named four.0 111 h.outputs (omega arith, omega arith, omega arith) low.outputs;
      inputs_formed = inputs.1;
      lines_define = ands.1;
    })

with-drawn : (o : Option Header) (lines : List Bytes) (c : CircuitValue) → ((h : Header) → o ≡ Some h → IsLow h) → with_header o lines ≡ Ok c → IsDrawn c
with-drawn None lines c low e = absurd (err-ok no_header c e)
with-drawn (Some h) lines c low e = at_test (h.latches == 0) e
  where
    at_test : (t : Bool) → cond t (body_reading h lines) (Err has_latches) ≡ Ok c → IsDrawn c
    at_test true k = body-drawn h lines c (low h refl) k
    at_test false k = absurd (err-ok has_latches c k)

pub circuit-drawn : (lines : List Bytes) (c : CircuitValue) → circuit_reading lines ≡ Ok c → IsDrawn c
circuit-drawn [] c e = absurd (err-ok no_header c e)
circuit-drawn (line ∷ lines) c e = with-drawn (header_of line) lines c (λ h is. header-low (pieces line) h is) e
