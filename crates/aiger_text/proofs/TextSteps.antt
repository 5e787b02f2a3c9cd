-- From a text to its net, or its first refusal.
use Rattle.std.proofs.Common.{◌≡◌, ℕ, ◌+◌, ◌-◌, ◌<◌, ◌≤◌, Bool, true, false, cond, not, ◌==◌, List, [], ◌∷◌, length, get_or, take, Ok, Err, Some, None, ap, sym, ◌∙◌, arith}
use Rattle.std.specs.List.{slice_split}
use Rattle.std.proofs.lemmas.Bool.{lt-leb, le-leb, eq-eqb, ne_eqb}
use Rattle.std.proofs.lemmas.List.{length-map, length-take}
use Rattle.std.proofs.lemmas.List.Splits.{length-slice_split}
use Rattle.std.proofs.lemmas.List.Sums.{count_by-le-length}
use Rattle.semantics.specs.Texts.{Bytes}
use Rattle.aiger_semantics.specs.declared.header.Header.{Header}
use Rattle.aiger_semantics.specs.Circuit.{CircuitValue}
use Rattle.aiger_semantics.specs.TextLines.{without_return, without_empty_end, text_lines}
use Rattle.aiger_semantics.specs.CircuitLines.{text_long, no_header, has_latches, and_then, header_of, body_reading, with_header, circuit_reading}
use Rattle.aiger_semantics.specs.Reading.{net_reading, aiger_reading}
use Rattle.aiger_text.specs.declared.refusal.AigerRefusal.{AigerRefusal}
use Rattle.aiger_text.specs.Refusals.{Tells}

-- ---- how many lines there are

ended-short : (lines : List Bytes) → length (without_empty_end lines) ≤ length lines
ended-short lines = at_test (length (get_or lines (length lines - 1) []) == 0)
  where
    at_test : (t : Bool) → length (cond t (take (length lines - 1) lines) lines) ≤ length lines
    at_test true = omega (arith, length-take (length lines - 1) lines)
    at_test false = omega arith

pub lines-short : (text : Bytes) → length (text_lines text) ≤ length text + 1
lines-short text =
    let parts : List Bytes = slice_split (λ b. b == 10) text in
    omega (arith, length-map (without_empty_end parts) without_return, ended-short parts, length-slice_split (λ b. b == 10) text, count_by-le-length (λ b. b == 10) text)

-- ---- the header

module _ (line : Bytes) (lines : List Bytes) where
  pub no_header-read : header_of line ≡ None → circuit_reading (line ∷ lines) ≡ Err no_header
  no_header-read e = ap (λ found. with_header found lines) e

  module _ (h : Header) (is : header_of line ≡ Some h) where
    pub latches-read : (h.latches ≡ 0 → ⊥) → circuit_reading (line ∷ lines) ≡ Err has_latches
    latches-read some = ap (λ found. with_header found lines) is ∙ ap (λ t. cond t (body_reading h lines) (Err has_latches)) (ne_eqb h.latches 0 some)

    pub body-of : h.latches ≡ 0 → circuit_reading (line ∷ lines) ≡ body_reading h lines
    body-of none = ap (λ found. with_header found lines) is ∙ ap (λ t. cond t (body_reading h lines) (Err has_latches)) (eq-eqb h.latches 0 none)

-- ---- the text

module _ (text : Bytes) (most : ℕ) where
  pub long_told : most < length text → aiger_reading text most ≡ Err text_long
  unfolding aiger_reading
  long_told long = ap (λ t. cond (not t) (Err text_long) (and_then (circuit_reading (text_lines text)) net_reading)) (lt-leb (length text) most long)

  module _ (short : length text ≤ most) where
    read-short : aiger_reading text most ≡ and_then (circuit_reading (text_lines text)) net_reading
    unfolding aiger_reading
    read-short = ap (λ t. cond (not t) (Err text_long) (and_then (circuit_reading (text_lines text)) net_reading)) (le-leb (length text) most short)

    module _ (lines : List Bytes) (are : lines ≡ text_lines text) where
      pub circuit_told : (told : AigerRefusal) → Tells told (circuit_reading lines) → Tells told (aiger_reading text most)
      circuit_told told h = λ refusal e. read-short ∙ ap (λ r. and_then r net_reading) (ap circuit_reading (sym are) ∙ h refusal e)

      module _ (c : CircuitValue) (read : circuit_reading lines ≡ Ok c) where
        pub circuit-net : aiger_reading text most ≡ net_reading c
        circuit-net = read-short ∙ ap (λ r. and_then r net_reading) (ap circuit_reading (sym are) ∙ read)

        pub net_told : (told : AigerRefusal) → Tells told (net_reading c) → Tells told (aiger_reading text most)
        net_told told h = λ refusal e. circuit-net ∙ h refusal e
