-- The words of a header's line.
use Rattle.std.proofs.Common.{◌≡◌, ℕ, ◌+◌, ◌≤◌, ◌==◌, Bool, true, false, cond, [], ◌∷◌, length, take, drop, codes, bytes_eq, ltb, Option, Some, None, Result, IfOk, ◌-◌, refl, ap, sym, subst, ◌∙◌}
use Rattle.std.proofs.Common.{arith}
use Rattle.std.specs.List.{position, position_or_len}
use Rattle.std.proofs.lemmas.Bool.{ltb-true, ltb-false}
use Rattle.std.proofs.lemmas.Option.{none-some, same_Some}
use Rattle.std.proofs.lemmas.List.Splits.{slice_split_first, slice_split_none}
use Rattle.std.proofs.lemmas.List.Sums.{fails_before_first}
use Rattle.std.proofs.lemmas.List.{length-drop}
use Rattle.semantics.specs.Texts.{Bytes}
use Rattle.aiger_semantics.specs.declared.header.Header.{Header}
use Rattle.aiger_semantics.specs.TextLines.{pieces, line_numbers}
use Rattle.aiger_semantics.specs.CircuitLines.{most_in_header, header_numbers, header_words, header_of}

-- the words are what stands before the first blank, and those behind it
pub pieces-first : (line : Bytes) (at : ℕ) → position (λ b. b == 32) line ≡ Some at → pieces line ≡ take at line ∷ pieces (drop (at + 1) line)
pieces-first line at is = at_test (ltb (position_or_len (λ b. b == 32) line) (length line)) refl is
  where
    at_test : (t : Bool) → ltb (position_or_len (λ b. b == 32) line) (length line) ≡ t → cond t (Some (position_or_len (λ b. b == 32) line)) None ≡ Some at
        → pieces line ≡ take at line ∷ pieces (drop (at + 1) line)
    at_test true low e =
        let place = same_Some _ _ e in
        subst (λ k. pieces line ≡ take k line ∷ pieces (drop (k + 1) line)) place
        (slice_split_first (λ b. b == 32) line 0 (ltb-true (position_or_len (λ b. b == 32) line) (length line) low))
    at_test false past e = absurd (none-some at e)

-- without a blank the line is one word
pub header-none : (line : Bytes) → position (λ b. b == 32) line ≡ None → header_of line ≡ None
header-none line is = ap header_words (alone (ltb (position_or_len (λ b. b == 32) line) (length line)) refl is) ∙ no_numbers (bytes_eq line (codes "aag"))
  where
    no_numbers : (t : Bool) → cond t (header_numbers (Some [])) None ≡ None
    no_numbers true = refl
    no_numbers false = refl

    alone : (t : Bool) → ltb (position_or_len (λ b. b == 32) line) (length line) ≡ t → cond t (Some (position_or_len (λ b. b == 32) line)) None ≡ None → pieces line ≡ line ∷ []
    alone true low e = absurd (none-some _ (sym e))
    alone false past e =
        let far = ltb-false (position_or_len (λ b. b == 32) line) (length line) past in
        slice_split_none (λ b. b == 32) line (λ k d low. fails_before_first (λ b. b == 32) line k d (omega (arith, low, far)))

pub header-first : (line : Bytes) (at : ℕ) → position (λ b. b == 32) line ≡ Some at
    → header_of line ≡ cond (bytes_eq (take at line) (codes "aag")) (header_numbers (line_numbers most_in_header (drop (at + 1) line))) None
header-first line at is = ap header_words (pieces-first line at is)

-- what was read behind the first word
pub header-behind : {E : Type 0} (r : Result (Option Header) E) (line rest : Bytes) (at : ℕ) → position (λ b. b == 32) line ≡ Some at → bytes_eq (take at line) (codes "aag") ≡ true
    → rest ≡ drop (at + 1) line
    → IfOk r (λ header. header ≡ header_numbers (line_numbers most_in_header rest)) → IfOk r (λ header. header ≡ header_of line)
header-behind r line rest at is word same h =
    subst (λ f. IfOk r (λ header. header ≡ f))
    (ap (λ t. header_numbers (line_numbers most_in_header t)) same
    ∙ sym (header-first line at is ∙ ap (λ t. cond t (header_numbers (line_numbers most_in_header (drop (at + 1) line))) None) word)) h

pub rest-length : (line : Bytes) (at : ℕ) → length (drop (at + 1) line) ≤ length line - (at + 1)
rest-length line at = let size = length-drop (at + 1) line in omega (arith, size)
