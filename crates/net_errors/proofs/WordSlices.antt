-- The words into which outputs are cut, as slices.
use Rattle.std.proofs.Common.{◌≡◌, ℕ, ◌+◌, ◌-◌, ◌*◌, zero, suc, min, max, Bool, List, length, take, drop, None, sym, ap, ◌∙◌, length-drop, arith}
use Rattle.std.specs.Prelude.{unwrap_or}
use Rattle.std.proofs.lemmas.List.{take_min}
use Rattle.semantics.specs.declared.metric.Metric.{Metric}
use Rattle.semantics.proofs.Words.{no_words, single_word, word_width-some}
use Rattle.semantics.specs.Error.{word_error, word_width, word_count, greatest_of, error_of_word}

-- without a width there is one word, or none where there are no outputs
pub count_without_width : (metric : Metric) (n : ℕ) → metric.width ≡ None → min n 1 ≡ word_count metric n
count_without_width metric zero none = sym (no_words (word_width metric 0) (word_width-some metric 0))
count_without_width metric (suc n) none =
    let wide : word_width metric (suc n) ≡ max 1 (suc n) = ap (λ w. max 1 (unwrap_or w (suc n))) none in
    let one : word_count metric (suc n) ≡ 1 = single_word (suc n) (word_width metric (suc n)) (omega arith) (omega (arith, wide)) in
    omega (arith, one)

-- the slice of the place of word j
pub word_cut : {X : Type 0} → (w j first size : ℕ) (xs : List X) → first ≡ j * w → size ≡ min w (length xs - j * w) → take (first + size - first) (drop first xs) ≡ take w (drop (j * w) xs)
word_cut w j first size xs begin count =
    let whole : first + size - first ≡ min w (length (drop (j * w) xs)) = omega (arith, count, length-drop (j * w) xs) in
    (λ i. take (whole i) (drop (begin i) xs)) ∙ take_min w (drop (j * w) xs)

-- the error of two such slices is that of the word
pub word_found : (metric : Metric) (e a : List Bool) (j first size found : ℕ) → length e ≡ length a → first ≡ j * word_width metric (length e)
    → size ≡ min (word_width metric (length e)) (length e - j * word_width metric (length e))
    → found ≡ word_error metric.kind (take (first + size - first) (drop first e)) (take (first + size - first) (drop first a)) → found ≡ error_of_word metric e a j
word_found metric e a j first size found same begin count is =
    let w : ℕ = word_width metric (length e) in
    let exact = word_cut w j first size e begin count in
    let approximate = word_cut w j first size a begin (count ∙ ap (λ n. min w (n - j * w)) same) in
    is ∙ (λ i. word_error metric.kind (exact i) (approximate i))

-- the greatest value with one more
pub greatest_more : (f : ℕ → ℕ) (n most here found : ℕ) → most ≡ greatest_of f n → here ≡ f n → found ≡ max here most → found ≡ greatest_of f (n + 1)
greatest_more f n most here found before is more =
    let next : n + 1 ≡ suc n = omega arith in
    rw next (omega (arith, more, is, before))
