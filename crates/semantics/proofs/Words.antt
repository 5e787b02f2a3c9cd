-- Outputs that are cut into words, and the error of the word that errs most.
use Rattle.std.proofs.Common.{◌≡◌, ℕ, zero, suc, ◌+◌, ◌-◌, ◌*◌, ◌<◌, ◌≤◌, min, Bool, List, [], ◌∷◌, ◌++◌, map, length, take, drop, inl, inr, refl, ap, sym, ◌∙◌, arith}
use Rattle.std.proofs.Common.{drop_of_length-le, take-append-drop, length-take, length-drop, drop-drop, take_all}
use Rattle.std.specs.Prelude.{flat_map}
use Rattle.std.specs.List.{range_with_len}
use Rattle.std.proofs.lemmas.Bool.{cases_lt}
use Rattle.std.proofs.lemmas.Grind.{div_ceil_times}
use Rattle.semantics.specs.declared.metric.Metric.{Metric}
use Rattle.semantics.specs.declared.metric.Kind.{Kind}
use Rattle.semantics.specs.declared.metric.Kind.TheVariants.{Abs, Rel, Ham, Sabs}
use Rattle.semantics.specs.Error.{rounded_up, word_error, one_word, in_words, word_width, word_count, word_at, words_of, greatest_of, error_of_word, error_of}

-- ---- the greatest of the first values of a function

pub greatest_of-le : (f : ℕ → ℕ) (n most : ℕ) → ((j : ℕ) → j < n → f j ≤ most) → greatest_of f n ≤ most
greatest_of-le f zero most each = omega arith
greatest_of-le f (suc n) most each = omega (arith, greatest_of-le f n most (λ j low. each j (omega (arith, low))), each n (omega arith))

pub greatest_of-each : (f : ℕ → ℕ) (n j : ℕ) → j < n → f j ≤ greatest_of f n
greatest_of-each f zero j low = absurd (omega (arith, low))
greatest_of-each f (suc n) j low =
    elim (cases_lt j n) [
      | inl before ↦ omega (arith, greatest_of-each f n j before)
      | inr last ↦ let here : j ≡ n = omega (arith, low, last) in rw here (omega arith)
    ]

pub greatest_of-some : (f : ℕ → ℕ) (n : ℕ) → 0 < n → (j : ℕ) × (j < n) × (f j ≡ greatest_of f n)
greatest_of-some f zero some = absurd (omega (arith, some))
greatest_of-some f (suc zero) some = (0, omega arith, omega arith)
greatest_of-some f (suc (suc n)) some =
    let before = greatest_of-some f (suc n) (omega arith) in
    elim (cases_lt (greatest_of f (suc n)) (f (suc n))) [
      | inl last ↦ (suc n, omega arith, omega (arith, last))
      | inr kept ↦ (before.0, omega (arith, before.1), omega (arith, before.2, kept))
    ]

pub greatest_of-same : (f g : ℕ → ℕ) (n : ℕ) → ((j : ℕ) → j < n → f j ≡ g j) → greatest_of f n ≡ greatest_of g n
greatest_of-same f g zero each = refl
greatest_of-same f g (suc n) each = omega (arith, greatest_of-same f g n (λ j low. each j (omega (arith, low))), each n (omega arith))

-- ---- how many words there are

more_times : (a b w : ℕ) → a ≤ b → a * w ≤ b * w
more_times zero b w h = omega arith
more_times (suc a) zero w h = absurd (omega (arith, h))
more_times (suc a) (suc b) w h = omega (arith, more_times a b w (omega (arith, h)))

-- a word that there is begins before the last output
pub word_begins : (n w j : ℕ) → 0 < w → j < rounded_up n w → j * w < n
word_begins n w j some low = omega (arith, (div_ceil_times n w some).1, more_times (suc j) (rounded_up n w) w low)

-- the words hold all outputs
pub words_hold : (n w : ℕ) → 0 < w → n ≤ rounded_up n w * w
words_hold n w some = (div_ceil_times n w some).0

pub no_words : (w : ℕ) → 0 < w → rounded_up 0 w ≡ 0
no_words w some =
    elim (cases_lt 0 (rounded_up 0 w)) [
      | inl one ↦ absurd (omega (arith, word_begins 0 w 0 some one))
      | inr none ↦ omega (arith, none)
    ]

-- outputs that fit in one word are one word
pub single_word : (n w : ℕ) → 0 < n → n ≤ w → rounded_up n w ≡ 1
single_word n w some fits =
    let held = words_hold n w (omega (arith, some, fits)) in
    elim (cases_lt 1 (rounded_up n w)) [
      | inl more ↦ absurd (omega (arith, word_begins n w 1 (omega (arith, some, fits)) more, fits))
      | inr few ↦ elim (cases_lt 0 (rounded_up n w)) [
        | inl one ↦ omega (arith, few, one)
        | inr none ↦ let zero_words : rounded_up n w ≡ 0 = omega (arith, none) in absurd (omega (arith, held, ap (λ c. c * w) zero_words, some))
      ]
    ]

pub word_width-some : (metric : Metric) (n : ℕ) → 0 < word_width metric n
word_width-some metric n = omega arith

-- ---- the words one behind another

words_from : (w : ℕ) (bits : List Bool) (j m : ℕ) → length bits ≤ (j + m) * w
    → flat_map (λ word. word) (map (λ i. word_at w i bits) (range_with_len j m)) ≡ drop (j * w) bits
words_from w bits j zero held =
    let all : j + 0 ≡ j = omega arith in
    sym (drop_of_length-le bits (omega (arith, held, ap (λ i. i * w) all)))
words_from w bits j (suc m) held =
    let next : j + suc m ≡ (j + 1) + m = omega arith in
    let rest = words_from w bits (j + 1) m (omega (arith, held, ap (λ i. i * w) next)) in
    let on : (j + 1) * w ≡ j * w + w = omega arith in
    let behind : drop ((j + 1) * w) bits ≡ drop w (drop (j * w) bits) = ap (λ i. drop i bits) on ∙ sym (drop-drop w (j * w) bits) in
    ap (λ more. word_at w j bits ++ more) (rest ∙ behind) ∙ take-append-drop w (drop (j * w) bits)

pub words_joined : (metric : Metric) (bits : List Bool) → flat_map (λ word. word) (words_of metric bits) ≡ bits
words_joined metric bits =
    let n : ℕ = length bits in
    let w : ℕ = word_width metric n in
    let all : 0 + word_count metric n ≡ word_count metric n = omega arith in
    let begin : 0 * w ≡ 0 = omega arith in
    words_from w bits 0 (word_count metric n) (omega (arith, words_hold n w (word_width-some metric n), ap (λ c. c * w) all)) ∙ ap (λ i. drop i bits) begin

pub word_length : (metric : Metric) (bits : List Bool) (j : ℕ) → j < word_count metric (length bits)
    → let w = word_width metric (length bits) in
    (length (word_at w j bits) ≡ min w (length bits - j * w)) × (0 < length (word_at w j bits))
word_length metric bits j low =
    let w : ℕ = word_width metric (length bits) in
    let some = word_width-some metric (length bits) in
    let count : length (word_at w j bits) ≡ min w (length bits - j * w) = omega (arith, length-take w (drop (j * w) bits), length-drop (j * w) bits) in
    (count, omega (arith, count, some, word_begins (length bits) w j some low))

-- two words that stand at one place have one length
pub same_lengths : (w j : ℕ) (e a : List Bool) → length e ≡ length a → length (word_at w j e) ≡ length (word_at w j a)
same_lengths w j e a same =
    omega (arith, length-take w (drop (j * w) e), length-drop (j * w) e, length-take w (drop (j * w) a), length-drop (j * w) a, same)

pub word_length-le : (w j : ℕ) (e : List Bool) → length (word_at w j e) ≤ length e
word_length-le w j e = omega (arith, length-take w (drop (j * w) e), length-drop (j * w) e)

-- ---- the error

pub some_word : (metric : Metric) (e a : List Bool) → 0 < length e
    → (j : ℕ) × (j < word_count metric (length e)) × (error_of_word metric e a j ≡ error_of metric e a)
unfolding error_of
some_word metric e a some =
    let w : ℕ = word_width metric (length e) in
    let held = words_hold (length e) w (word_width-some metric (length e)) in
    elim (cases_lt 0 (word_count metric (length e))) [
      | inl one ↦ greatest_of-some (error_of_word metric e a) (word_count metric (length e)) one
      | inr none ↦ let zero_words : word_count metric (length e) ≡ 0 = omega (arith, none) in absurd (omega (arith, held, ap (λ c. c * w) zero_words, some))
    ]

pub none_greater : (metric : Metric) (e a : List Bool) (j : ℕ) → j < word_count metric (length e) → error_of_word metric e a j ≤ error_of metric e a
unfolding error_of
none_greater metric e a j low = greatest_of-each (error_of_word metric e a) (word_count metric (length e)) j low

pub error_of-most : (metric : Metric) (e a : List Bool) (most : ℕ) → ((j : ℕ) → j < word_count metric (length e) → error_of_word metric e a j ≤ most)
    → error_of metric e a ≤ most
unfolding error_of
error_of-most metric e a most each = greatest_of-le (error_of_word metric e a) (word_count metric (length e)) most each

nothing_errs : (kind : Kind) → word_error kind [] [] ≡ 0
nothing_errs Abs = refl
nothing_errs Rel = refl
nothing_errs Ham = refl
nothing_errs Sabs = refl

-- outputs that fit in one word have the error of that word
pub as_one_word : (metric : Metric) (e a : List Bool) → length e ≡ length a → length e ≤ word_width metric (length e) → error_of metric e a ≡ word_error metric.kind e a
unfolding error_of
as_one_word metric [] [] same fits =
    let none : word_count metric 0 ≡ 0 = no_words (word_width metric 0) (word_width-some metric 0) in
    ap (greatest_of (error_of_word metric [] [])) none ∙ sym (nothing_errs metric.kind)
as_one_word metric [] (b ∷ a) same fits = absurd (omega (arith, same))
as_one_word metric (b ∷ e) a same fits =
    let n : ℕ = length (b ∷ e) in
    let w : ℕ = word_width metric n in
    let one : word_count metric n ≡ 1 = single_word n w (omega arith) fits in
    let exact : take w (b ∷ e) ≡ b ∷ e = take_all w (b ∷ e) fits in
    let approximate : take w a ≡ a = take_all w a (omega (arith, same, fits)) in
    let begin : 0 * w ≡ 0 = omega arith in
    let first : error_of_word metric (b ∷ e) a 0 ≡ word_error metric.kind (b ∷ e) a = rw (begin, exact, approximate) refl in
    ap (greatest_of (error_of_word metric (b ∷ e) a)) one ∙ omega (arith, first)

pub in_one_word : (kind : Kind) (e a : List Bool) → length e ≡ length a → error_of (one_word kind) e a ≡ word_error kind e a
in_one_word kind e a same = as_one_word (one_word kind) e a same (omega arith)

pub in_wide_words : (kind : Kind) (width : ℕ) (e a : List Bool) → length e ≡ length a → length e ≤ width → error_of (in_words kind width) e a ≡ word_error kind e a
in_wide_words kind width e a same fits = as_one_word (in_words kind width) e a same (omega (arith, fits))
