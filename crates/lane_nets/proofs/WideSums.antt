-- The comparison of the sum of two numbers with a third, in wide words.
use Rattle.std.proofs.Common.{◌≡◌, ◌↔◌, ℕ, ◌+◌, ◌*◌, ◌/◌, ◌%◌, ◌<◌, ◌≤◌, Bool, true, false, not, ◌&&◌, ◌==◌, List, [], length, get_or, drop, IsTrue, refl, ap, sym, ◌∙◌, subst, arith}
use Rattle.std.proofs.lemmas.List.{drop_all}
use Rattle.semantics.specs.Error.{bit_number, number_of}
use Rattle.lane_nets.specs.Words.{word_bit}
use Rattle.lane_nets.specs.Lanes.{lane_at, lane_number, lane_so_far, GoesOn}
use Rattle.lane_nets.specs.Wide.{lane_words}
use Rattle.lane_nets.proofs.WideWords.{lane_words_get, lane_words-length}
use Rattle.lane_nets.proofs.Comparing.{digit, number_from}
use Rattle.lane_nets.proofs.WideErrors.{wide_more, wide_all}

-- the lowest bit of a number, and the rest of it
parity : (t : Bool) (m r : ℕ) → r ≡ bit_number t + 2 * m → (bit_number t ≡ bit_number (r % 2 == 1)) × (m ≡ r / 2)
parity false m r is = (omega (arith, is, digit (r % 2) (omega arith)), omega (arith, is))
parity true m r is = (omega (arith, is, digit (r % 2) (omega arith)), omega (arith, is))

module _ (first second high : List (List ℕ)) (i j b carry above : ℕ) (P : Type 0) (same : length first ≡ length high) (same_second : length second ≡ length high)
    (before : (number_of (lane_at (drop i (lane_words first j)) b) + number_of (lane_at (drop i (lane_words second j)) b) + lane_number carry b
    < number_of (lane_at (drop i (lane_words high j)) b) + lane_number above b) ↔ P) where
  -- one more bit
  pub sum_more : (new_carry new_above : ℕ) → i < length first
      → GoesOn (lane_number (get_or (get_or first i []) j 0) b) (lane_number (get_or (get_or high i []) j 0) b) (lane_number (get_or (get_or second i []) j 0) b)
      (lane_so_far carry above b) (lane_so_far new_carry new_above b)
      → (number_of (lane_at (drop (i + 1) (lane_words first j)) b) + number_of (lane_at (drop (i + 1) (lane_words second j)) b) + lane_number new_carry b
      < number_of (lane_at (drop (i + 1) (lane_words high j)) b) + lane_number new_above b) ↔ P
  sum_more new_carry new_above within step =
      let rest : ℕ = number_of (lane_at (drop i (lane_words second j)) b) in
      let later : ℕ = number_of (lane_at (drop (i + 1) (lane_words second j)) b) in
      let is : rest ≡ lane_number (get_or (get_or second i []) j 0) b + 2 * later =
      number_from (lane_words second j) i b (omega (arith, within, same, same_second, lane_words-length second j)) ∙ ap (λ w. lane_number w b + 2 * later) (lane_words_get second j i) in
      let both = parity (word_bit (get_or (get_or second i []) j 0) b) later rest is in
      let one : GoesOn (lane_number (get_or (get_or first i []) j 0) b) (lane_number (get_or (get_or high i []) j 0) b) (bit_number (rest % 2 == 1))
      (lane_so_far carry above b) (lane_so_far new_carry new_above b) =
      subst
      (λ n. GoesOn (lane_number (get_or (get_or first i []) j 0) b) (lane_number (get_or (get_or high i []) j 0) b) n (lane_so_far carry above b)
      (lane_so_far new_carry new_above b))
      both.0 step in
      subst
      (λ n. (number_of (lane_at (drop (i + 1) (lane_words first j)) b) + n + lane_number new_carry b < number_of (lane_at (drop (i + 1) (lane_words high j)) b) + lane_number new_above b) ↔ P)
      (sym both.1) (wide_more first high i j b rest carry above P same before (get_or first i []) (get_or high i []) new_carry new_above within refl refl one)

  -- no bit is left
  pub sum_all : (last : Bool) → last ≡ (word_bit above b && not (word_bit carry b)) → length first ≤ i → IsTrue last ↔ P
  sum_all last is past =
      wide_all first high i j b (number_of (lane_at (drop i (lane_words second j)) b)) carry above P same before last is past
      (ap (λ (l : List ℕ). number_of (lane_at l b)) (drop_all i (lane_words second j) (omega (arith, past, same, same_second, lane_words-length second j))))
