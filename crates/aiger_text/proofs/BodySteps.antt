-- From the sections of a text to its circuit, or the first refusal of a line.
use Rattle.std.proofs.Common.{◌≡◌, ℕ, zero, suc, ◌+◌, ◌<◌, ◌≤◌, ◌^◌, cond, ◌==◌, true, false, Bool, List, [], ◌∷◌, length, drop, Option, Some, None, Result, Ok, Err, refl, ap, sym, subst, ◌∙◌, arith}
use Rattle.std.proofs.lemmas.List.{length-drop}
use Rattle.std.proofs.lemmas.List.Elements.{All-from_recursion}
use Rattle.std.specs.List.{AllByRecursion}
use Rattle.semantics.specs.Texts.{Bytes}
use Rattle.aiger_semantics.specs.declared.and_line.AndLine.{AndLine}
use Rattle.aiger_semantics.specs.declared.header.Header.{Header}
use Rattle.aiger_semantics.specs.Circuit.{CircuitValue}
use Rattle.aiger_semantics.specs.CircuitLines.{Refusal, no_header, has_latches, wrong_line, and_then, header_of, greatest_literal, input_of, output_of, and_of, put_before, all_read, Symbol}
use Rattle.aiger_semantics.specs.CircuitLines.{symbols_after, symbols_line, before_comment, names_at, body_reading, with_header, circuit_reading}
use Rattle.aiger_semantics.proofs.ReadLines.{err-ok, ok-same, and_then-parts, read-each, IsInput, circuit-drawn}
use Rattle.aiger_text.specs.declared.refusal.AigerRefusal.{AigerRefusal}
use Rattle.aiger_text.specs.Refusals.{Tells}
use Rattle.aiger_text.specs.ReadCircuit.{IsRead}
use Rattle.aiger_text.specs.SymbolTexts.{AreTextsOf}
use Rattle.text_words.specs.Slices.{texts}
use Rattle.std.specs.Borrow.{Bor}
use Rattle.aiger_text.proofs.SectionSteps.{texts-count}

module _ (h : Header) (lines : List Bytes) where
  -- what the lines behind each section make of it
  abbrev pub with_symbols : List ℕ → List ℕ → List AndLine → Result CircuitValue Refusal
  with_symbols inputs outputs ands =
      and_then (symbols_after h (symbols_line h) [] (before_comment (drop (h.inputs + h.outputs + h.ands) lines))) (λ symbols. Ok (record {
        inputs = inputs;
        ands = ands;
        outputs = outputs;
        input_names = names_at symbols 105 h.inputs;
        output_names = names_at symbols 111 h.outputs;
      }))

  abbrev pub with_ands : List ℕ → List ℕ → Result CircuitValue Refusal
  with_ands inputs outputs =
      and_then (all_read (and_of (greatest_literal h)) (2 + h.inputs + h.outputs) h.ands (drop (h.inputs + h.outputs) lines)) (with_symbols inputs outputs)

  abbrev pub with_outputs : List ℕ → Result CircuitValue Refusal
  with_outputs inputs = and_then (all_read (output_of (greatest_literal h)) (2 + h.inputs) h.outputs (drop h.inputs lines)) (with_ands inputs)

  body-is : body_reading h lines ≡ and_then (all_read (input_of (greatest_literal h)) 2 h.inputs lines) with_outputs
  body-is = refl

  -- the sections, where the first lines have these numbers
  module _ (most : ℕ) (greatest : most ≡ greatest_literal h) (inputs : List ℕ) where
    pub inputs_told : (told : AigerRefusal) → Tells told (all_read (input_of most) 2 h.inputs lines) → Tells told (body_reading h lines)
    inputs_told told t = λ refusal e. ap (λ r. and_then r with_outputs) (ap (λ m. all_read (input_of m) 2 h.inputs lines) (sym greatest) ∙ t refusal e)

    module _ (read_inputs : all_read (input_of most) 2 h.inputs lines ≡ Ok inputs) where
      inputs-read : body_reading h lines ≡ with_outputs inputs
      inputs-read = ap (λ r. and_then r with_outputs) (ap (λ m. all_read (input_of m) 2 h.inputs lines) (sym greatest) ∙ read_inputs)

      module _ (first : ℕ) (second : first ≡ 2 + h.inputs) (rest : List Bytes) (behind : rest ≡ drop h.inputs lines) (outputs : List ℕ) where
        outputs-are : all_read (output_of (greatest_literal h)) (2 + h.inputs) h.outputs (drop h.inputs lines) ≡ all_read (output_of most) first h.outputs rest
        outputs-are =
            ap (λ m. all_read (output_of m) (2 + h.inputs) h.outputs (drop h.inputs lines)) (sym greatest)
            ∙ ap (λ n. all_read (output_of most) n h.outputs (drop h.inputs lines)) (sym second)
            ∙ ap (λ ls. all_read (output_of most) first h.outputs ls) (sym behind)

        pub outputs_told : (told : AigerRefusal) → Tells told (all_read (output_of most) first h.outputs rest) → Tells told (body_reading h lines)
        outputs_told told t = λ refusal e. inputs-read ∙ ap (λ r. and_then r (with_ands inputs)) (outputs-are ∙ t refusal e)

        module _ (read_outputs : all_read (output_of most) first h.outputs rest ≡ Ok outputs) where
          outputs-read : body_reading h lines ≡ with_ands inputs outputs
          outputs-read = inputs-read ∙ ap (λ r. and_then r (with_ands inputs)) (outputs-are ∙ read_outputs)

          module _ (next : ℕ) (third : next ≡ 2 + h.inputs + h.outputs) (more : List Bytes) (further : more ≡ drop (h.inputs + h.outputs) lines) (ands : List AndLine) where
            ands-are : all_read (and_of (greatest_literal h)) (2 + h.inputs + h.outputs) h.ands (drop (h.inputs + h.outputs) lines) ≡ all_read (and_of most) next h.ands more
            ands-are =
                ap (λ m. all_read (and_of m) (2 + h.inputs + h.outputs) h.ands (drop (h.inputs + h.outputs) lines)) (sym greatest)
                ∙ ap (λ n. all_read (and_of most) n h.ands (drop (h.inputs + h.outputs) lines)) (sym third)
                ∙ ap (λ ls. all_read (and_of most) next h.ands ls) (sym further)

            pub ands_told : (told : AigerRefusal) → Tells told (all_read (and_of most) next h.ands more) → Tells told (body_reading h lines)
            ands_told told t = λ refusal e. outputs-read ∙ ap (λ r. and_then r (with_symbols inputs outputs)) (ands-are ∙ t refusal e)

            module _ (read_ands : all_read (and_of most) next h.ands more ≡ Ok ands) where
              ands-read : body_reading h lines ≡ with_symbols inputs outputs ands
              ands-read = outputs-read ∙ ap (λ r. and_then r (with_symbols inputs outputs)) (ands-are ∙ read_ands)

              module _ (last : ℕ) (fourth : last ≡ symbols_line h) (named : List Bytes) (before : named ≡ before_comment (drop (h.inputs + h.outputs + h.ands) lines)) where
                symbols-are : symbols_after h (symbols_line h) [] (before_comment (drop (h.inputs + h.outputs + h.ands) lines)) ≡ symbols_after h last [] named
                symbols-are =
                    ap (λ n. symbols_after h n [] (before_comment (drop (h.inputs + h.outputs + h.ands) lines))) (sym fourth)
                    ∙ ap (symbols_after h last []) (sym before)

                pub symbols_told : (told : AigerRefusal) → Tells told (symbols_after h last [] named) → Tells told (body_reading h lines)
                symbols_told told t = λ refusal e. ands-read ∙ ap (λ r. and_then r (λ symbols. Ok (record {
                  inputs = inputs;
                  ands = ands;
                  outputs = outputs;
                  input_names = names_at symbols 105 h.inputs;
                  output_names = names_at symbols 111 h.outputs;
                }))) (symbols-are ∙ t refusal e)

                pub body-read : (symbols : List Symbol) (input_names output_names : List Bytes) → symbols_after h last [] named ≡ Ok symbols → input_names ≡ names_at symbols 105 h.inputs
                    → output_names ≡ names_at symbols 111 h.outputs
                    → body_reading h lines ≡ Ok (record { inputs = inputs; ands = ands; outputs = outputs; input_names = input_names; output_names = output_names })
                body-read symbols input_names output_names said ins outs =
                    ands-read
                    ∙ ap (λ r. and_then r (λ symbols. Ok (record {
                      inputs = inputs;
                      ands = ands;
                      outputs = outputs;
                      input_names = names_at symbols 105 h.inputs;
                      output_names = names_at symbols 111 h.outputs;
                    }))) (symbols-are ∙ said)
                    ∙ ap (λ ns. Ok (record { inputs = inputs; ands = ands; outputs = outputs; input_names = ns; output_names = names_at symbols 111 h.outputs })) (sym ins)
                    ∙ ap (λ ns. Ok (record { inputs = inputs; ands = ands; outputs = outputs; input_names = input_names; output_names = ns })) (sym outs)

-- ---- how many lines there are

read-more : {X : Type 0} (found : Option X) (r : Result (List X) Refusal) (number count size : ℕ) (xs : List X)
    → ((ys : List X) → r ≡ Ok ys → count ≤ size)
    → ◌≡◌ {A = Result (List X) Refusal} (elim found [ None ↦ Err (wrong_line number) | Some x ↦ put_before x r ]) (Ok xs) → suc count ≤ suc size
read-more None r number count size xs rest e = absurd (err-ok (wrong_line number) xs e)
read-more (Some x) (Err refusal) number count size xs rest e = absurd (err-ok refusal xs e)
read-more (Some x) (Ok ys) number count size xs rest e = let low = rest ys refl in omega (arith, low)

-- as many lines as were asked for are there
pub read-within : {X : Type 0} (read : Bytes → Option X) (number count : ℕ) (lines : List Bytes) (xs : List X) → all_read read number count lines ≡ Ok xs → count ≤ length lines
read-within read number zero lines xs e = omega arith
read-within read number (suc count) [] xs e = absurd (err-ok (wrong_line number) xs e)
read-within read number (suc count) (line ∷ lines) xs e =
    read-more (read line) (all_read read (number + 1) count lines) number count (length lines) xs (λ ys. read-within read (number + 1) count lines ys) e

pub read-size : {X : Type 0} (read : Bytes → Option X) (number count : ℕ) (lines : List Bytes) (xs : List X) → all_read read number count lines ≡ Ok xs → length xs ≡ count
read-size read number count lines xs e = (read-each (λ x. Unit {0}) read (λ line x k. tt) number count lines xs e).0

-- ---- what is known of the circuit

pub body-few : (h : Header) (lines : List Bytes) (c : CircuitValue) → body_reading h lines ≡ Ok c → length c.inputs + length c.outputs + length c.ands ≤ length lines
body-few h lines c e =
    let most = greatest_literal h in
    let one = and_then-parts (all_read (input_of most) 2 h.inputs lines) (with_outputs h lines) c e in
    let two = and_then-parts (all_read (output_of most) (2 + h.inputs) h.outputs (drop h.inputs lines)) (with_ands h lines one.0) c one.1.1 in
    let three = and_then-parts (all_read (and_of most) (2 + h.inputs + h.outputs) h.ands (drop (h.inputs + h.outputs) lines)) (with_symbols h lines one.0 two.0) c two.1.1 in
    let four = and_then-parts (symbols_after h (symbols_line h) [] (before_comment (drop (h.inputs + h.outputs + h.ands) lines))) _ c three.1.1 in
    let inputs = read-size (input_of most) 2 h.inputs lines one.0 one.1.0 in
    let outputs = read-size (output_of most) (2 + h.inputs) h.outputs (drop h.inputs lines) two.0 two.1.0 in
    let ands = read-size (and_of most) (2 + h.inputs + h.outputs) h.ands (drop (h.inputs + h.outputs) lines) three.0 three.1.0 in
    let first = read-within (input_of most) 2 h.inputs lines one.0 one.1.0 in
    let second = read-within (output_of most) (2 + h.inputs) h.outputs (drop h.inputs lines) two.0 two.1.0 in
    let third = read-within (and_of most) (2 + h.inputs + h.outputs) h.ands (drop (h.inputs + h.outputs) lines) three.0 three.1.0 in
    subst (λ (d : CircuitValue). length d.inputs + length d.outputs + length d.ands ≤ length lines) (ok-same _ c four.1.1)
    (omega (arith, inputs, outputs, ands, first, second, third, length-drop h.inputs lines, length-drop (h.inputs + h.outputs) lines))

circuit-few : (lines : List Bytes) (c : CircuitValue) → circuit_reading lines ≡ Ok c → length c.inputs + length c.outputs + length c.ands < length lines
circuit-few [] c e = absurd (err-ok no_header c e)
circuit-few (line ∷ lines) c e = at_header (header_of line) e
  where
    at_header : (found : Option Header) → with_header found lines ≡ Ok c → length c.inputs + length c.outputs + length c.ands < suc (length lines)
    at_header None k = absurd (err-ok no_header c k)
    at_header (Some h) k = at_test (h.latches == 0) k
      where
        at_test : (t : Bool) → cond t (body_reading h lines) (Err has_latches) ≡ Ok c → length c.inputs + length c.outputs + length c.ands < suc (length lines)
        at_test true g = let few = body-few h lines c g in omega (arith, few)
        at_test false g = absurd (err-ok has_latches c g)

inputs-low : (inputs : List ℕ) → AllByRecursion IsInput inputs → AllByRecursion (λ v. v < 2 ^ 31) inputs
inputs-low [] h = tt
inputs-low (v ∷ vs) h = (h.0.low, inputs-low vs h.1)

pub circuit-is-read : (lines : List Bytes) (c : CircuitValue) → length lines ≤ 2 ^ 31 → circuit_reading lines ≡ Ok c → IsRead c
circuit-is-read lines c short e =
    let drawn = circuit-drawn lines c e in
    let size = circuit-few lines c e in
    record {
      input_names = drawn.input_count;
      output_names = drawn.output_count;
      outputs_named = drawn.outputs_named;
      inputs_low = All-from_recursion (λ v. v < 2 ^ 31) c.inputs (inputs-low c.inputs drawn.inputs_formed);
      few = omega (arith, size, short);
    }

-- the names of places
pub names-from : (symbols : List Symbol) (letter count : ℕ) (given : List (Bor Bytes)) (all names : List Bytes) → texts given ≡ all → AreTextsOf symbols letter count all
    → (AreTextsOf symbols letter (length given) (texts given) → names ≡ names_at symbols letter (length given)) → names ≡ names_at symbols letter count
names-from symbols letter count given all names same h f =
    let size : length given ≡ count = sym (texts-count given) ∙ ap length same ∙ h.size in
    f (subst (λ n. AreTextsOf symbols letter n (texts given)) (sym size) (subst (AreTextsOf symbols letter count) (sym same) h)) ∙ ap (names_at symbols letter) size
