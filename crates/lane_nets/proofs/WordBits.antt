-- Bits of words that are computed from words.
use Rattle.std.proofs.Common.{◌≡◌, ℕ, zero, suc, ◌+◌, ◌-◌, ◌<◌, ◌≤◌, ◌^◌, Bool, true, false, not, cond, ◌&&◌, ◌||◌, ◌==◌, List, length, get_or, drop, w64, refl, ap, sym, ◌∙◌, arith}
use Rattle.std.specs.Int.{bit_at, bit_not}
use Rattle.std.specs.Prelude.{bit_and, bit_or}
use Rattle.std.specs.List.{list_any}
use Rattle.std.proofs.lemmas.List.{drop_more, drop_all}
use Rattle.std.proofs.lemmas.Nat.Bits.{bit_at-lt, bit_at_not, bit_at_ones, bit_at-zero}
use Rattle.semantics.specs.declared.mark.Mark.{Mark}
use Rattle.semantics.specs.Value.{mark_matches, row_matches}
use Rattle.lane_bits.proofs.Bits.{and_bit, or_bit}
use Rattle.lane_nets.specs.Words.{word_bit, values_at}

not_test : (x : ℕ) → x < 2 → (1 - x == 1) ≡ not (x == 1)
not_test zero a = refl
not_test (suc zero) a = refl
not_test (suc (suc x)) a = absurd (omega arith)

pub not_bit : (w b : ℕ) → w < 2 ^ 64 → b < 64 → word_bit (bit_not w64 w) b ≡ not (word_bit w b)
not_bit w b fits low = ap (λ n. n == 1) (bit_at_not w64 w b fits low) ∙ not_test (bit_at w b) (bit_at-lt w b)

pub ones_bit : (b : ℕ) → b < 64 → word_bit (2 ^ 64 - 1) b ≡ true
ones_bit b low = ap (λ n. n == 1) (bit_at_ones 64 b low)

pub zero_bit : (b : ℕ) → word_bit 0 b ≡ false
zero_bit b = ap (λ n. n == 1) (bit_at-zero b)

pub and_assoc : (x y z : Bool) → ((x && y) && z) ≡ (x && (y && z))
and_assoc true y z = refl
and_assoc false y z = refl

or_assoc : (x y z : Bool) → ((x || y) || z) ≡ (x || (y || z))
or_assoc true y z = refl
or_assoc false y z = refl

and_true : (x : Bool) → (x && true) ≡ x
and_true true = refl
and_true false = refl

or_false : (x : Bool) → (x || false) ≡ x
or_false true = refl
or_false false = refl

-- one more pin of a row
pub row_step : (marks : List Mark) (pins words : List ℕ) (i b all pin : ℕ) (d : Mark) → i < length marks → length marks ≡ length pins
    → word_bit pin b ≡ mark_matches (get_or marks i d) (word_bit (get_or words (get_or pins i 0) 0) b)
    → (word_bit all b && row_matches (drop i marks) (drop i pins) (values_at words b)) ≡ row_matches marks pins (values_at words b)
    → (word_bit (bit_and all pin) b && row_matches (drop (i + 1) marks) (drop (i + 1) pins) (values_at words b)) ≡ row_matches marks pins (values_at words b)
row_step marks pins words i b all pin d low same here before =
    let rest : Bool = row_matches (drop (i + 1) marks) (drop (i + 1) pins) (values_at words b) in
    let whole : row_matches (drop i marks) (drop i pins) (values_at words b) ≡ (mark_matches (get_or marks i d) (word_bit (get_or words (get_or pins i 0) 0) b) && rest) =
    rw (drop_more marks i d low, drop_more pins i 0 (omega arith)) refl in
    ap (λ x. x && rest) (and_bit all pin b)
    ∙ and_assoc (word_bit all b) (word_bit pin b) rest
    ∙ ap (λ x. word_bit all b && (x && rest)) here
    ∙ ap (λ x. word_bit all b && x) (sym whole)
    ∙ before

-- no pin is left
pub row_end : (marks : List Mark) (pins words : List ℕ) (i b all : ℕ) → length marks ≤ i
    → (word_bit all b && row_matches (drop i marks) (drop i pins) (values_at words b)) ≡ row_matches marks pins (values_at words b)
    → word_bit all b ≡ row_matches marks pins (values_at words b)
row_end marks pins words i b all past before =
    sym (and_true (word_bit all b)) ∙ ap (λ l. word_bit all b && row_matches l (drop i pins) (values_at words b)) (sym (drop_all i marks past)) ∙ before

-- one more row
pub rows_step : (test : List Mark → Bool) (rows : List (List Mark)) (i b any word : ℕ) (marks : List Mark) → i < length rows → marks ≡ get_or rows i marks
    → word_bit word b ≡ test marks → (word_bit any b || list_any test (drop i rows)) ≡ list_any test rows
    → (word_bit (bit_or any word) b || list_any test (drop (i + 1) rows)) ≡ list_any test rows
rows_step test rows i b any word marks low read here before =
    let rest : Bool = list_any test (drop (i + 1) rows) in
    let whole : list_any test (drop i rows) ≡ (test marks || rest) =
    ap (list_any test) (drop_more rows i marks low) ∙ ap (λ m. test m || rest) (sym read) in
    ap (λ x. x || rest) (or_bit any word b)
    ∙ or_assoc (word_bit any b) (word_bit word b) rest
    ∙ ap (λ x. word_bit any b || (x || rest)) here
    ∙ ap (λ x. word_bit any b || x) (sym whole)
    ∙ before

pub rows_end : (test : List Mark → Bool) (rows : List (List Mark)) (i b any : ℕ) → length rows ≤ i → (word_bit any b || list_any test (drop i rows)) ≡ list_any test rows
    → word_bit any b ≡ list_any test rows
rows_end test rows i b any past before =
    sym (or_false (word_bit any b)) ∙ ap (λ l. word_bit any b || list_any test l) (sym (drop_all i rows past)) ∙ before

pub plane_false : (any b : ℕ) (plane : Bool) → any < 2 ^ 64 → b < 64 → plane ≡ false → word_bit (bit_not w64 any) b ≡ cond (word_bit any b) plane (not plane)
plane_false any b plane fits low is = rw is (not_bit any b fits low ∙ turned_over (word_bit any b))
  where
    turned_over : (x : Bool) → not x ≡ cond x false true
    turned_over true = refl
    turned_over false = refl
