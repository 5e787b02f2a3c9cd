-- The number of a list of bits, the four errors of a word, and the error of outputs that are cut into words.
-- Source: SALSA's quality functions; the relative error is in parts per million, rounded up; signed words are
-- in two's complement.
use Rattle.std.specs.Prelude.{◌≡◌, ℕ, ◌+◌, ◌-◌, ◌*◌, ◌/◌, ◌%◌, ◌^◌, ◌≤◌, min, max, ℤ, pos, ◌-ℤ◌}
use Rattle.std.specs.Prelude.{unsigned_abs, Bool, true, false, not, List, [], ◌∷◌, length, slice_index_or}
use Rattle.std.specs.Prelude.{slice_set, zero, suc, map, take, drop, Some, None, unwrap_or}
use Rattle.std.specs.List.{range_with_len}
use Rattle.semantics.specs.declared.metric.Metric.{Metric}
use Rattle.semantics.specs.declared.metric.Kind.{Kind}
use Rattle.semantics.specs.declared.metric.Kind.TheVariants.{Abs, Rel, Ham, Sabs}
use Rattle.semantics.specs.declared.limits.TheConstants.{MOST_OUTPUTS, LARGEST_ERROR}
use Rattle.semantics.specs.Net.{NetValue, input_count, HasSamePorts}
use Rattle.semantics.specs.Value.{outputs_of}

abbrev pub bit_number : Bool → ℕ
bit_number false = 0
bit_number true = 1

-- the first bit is bit 0
abbrev pub number_of : List Bool → ℕ
number_of [] = 0
number_of (b ∷ bits) = bit_number b + 2 * number_of bits

-- the last bit is the sign; no bits have the sign 0
abbrev pub sign_of : List Bool → Bool
sign_of bits = slice_index_or bits (length bits - 1) false

-- what two's complement takes off: 2 to the width where the sign is 1
abbrev pub sign_weight : List Bool → ℕ
sign_weight bits = bit_number (sign_of bits) * 2 ^ length bits

-- the number in two's complement
abbrev pub signed_number_of : List Bool → ℤ
signed_number_of bits = pos (number_of bits) -ℤ pos (sign_weight bits)

-- the word with its sign turned over
abbrev pub sign_flipped : List Bool → List Bool
sign_flipped bits = slice_set bits (length bits - 1) (not (sign_of bits))

abbrev pub distance : ℕ → ℕ → ℕ
distance a b = (a - b) + (b - a)

abbrev pub rounded_up : ℕ → ℕ → ℕ
rounded_up a b = a / b + min 1 (a % b)

abbrev pub differing : List Bool → List Bool → ℕ
differing [] bs = 0
differing (a ∷ as') [] = 0
differing (a ∷ as') (b ∷ bs) = distance (bit_number a) (bit_number b) + differing as' bs

-- ---- the error of one word

-- the error of the approximate word (second) against the exact one (first)
abbrev pub word_error : Kind → List Bool → List Bool → ℕ
word_error Abs e a = distance (number_of e) (number_of a)
word_error Rel e a = rounded_up (distance (number_of e) (number_of a) * 1000000) (max 1 (number_of e))
word_error Ham e a = differing e a
word_error Sabs e a = unsigned_abs (signed_number_of e -ℤ signed_number_of a)

-- the greatest error of two words of `width` bits
abbrev pub greatest_error : Kind → ℕ → ℕ
greatest_error Abs width = 2 ^ width - 1
greatest_error Rel width = (2 ^ width - 1) * 1000000
greatest_error Ham width = width
greatest_error Sabs width = 2 ^ width - 1

-- a number that is above every error of words of at most `MOST_OUTPUTS` bits
abbrev pub errors_below : Kind → ℕ
errors_below Abs = 2 ^ MOST_OUTPUTS
errors_below Rel = LARGEST_ERROR + 1
errors_below Ham = MOST_OUTPUTS + 1
errors_below Sabs = 2 ^ MOST_OUTPUTS

-- ---- outputs that are cut into words

-- all outputs are one word
abbrev pub one_word : Kind → Metric
one_word kind = record { kind = kind; width = None }

-- the outputs are cut into words of `width` outputs
abbrev pub in_words : Kind → ℕ → Metric
in_words kind width = record { kind = kind; width = Some width }

-- how many outputs a word has where there are `count`, but for the last word, which may have fewer; a width
-- of 0, which no word of the command line names, counts as 1
abbrev pub word_width : Metric → ℕ → ℕ
word_width metric count = max 1 (unwrap_or metric.width count)

-- how many words `count` outputs make
abbrev pub word_count : Metric → ℕ → ℕ
word_count metric count = rounded_up count (word_width metric count)

-- word j of bits that are cut into words of w bits
abbrev pub word_at : ℕ → ℕ → List Bool → List Bool
word_at w j bits = take w (drop (j * w) bits)

-- the words of a list of bits, the first of which is bit 0 of the first word
abbrev pub words_of : Metric → List Bool → List (List Bool)
words_of metric bits =
    let w = word_width metric (length bits) in
    map (λ j. word_at w j bits) (range_with_len 0 (word_count metric (length bits)))

-- the greatest of the first n values of f; 0 where there are none
abbrev pub greatest_of : (ℕ → ℕ) → ℕ → ℕ
greatest_of f zero = 0
greatest_of f (suc n) = max (greatest_of f n) (f n)

-- the error of word j of the approximate outputs (second) against that of the exact ones (first)
abbrev pub error_of_word : Metric → List Bool → List Bool → ℕ → ℕ
error_of_word metric e a j =
    let w = word_width metric (length e) in
    word_error metric.kind (word_at w j e) (word_at w j a)

-- the error of the approximate outputs (second) against the exact ones (first): that of the word that errs
-- most
unfoldable pub error_of : Metric → List Bool → List Bool → ℕ
error_of metric e a = greatest_of (error_of_word metric e a) (word_count metric (length e))

unfoldable pub net_error : Metric → NetValue → NetValue → List Bool → ℕ
net_error metric exact approx x = error_of metric (outputs_of exact x) (outputs_of approx x)

-- on every input vector the error is at most the level
abbrev pub IsWithin : Metric → NetValue → ℕ → NetValue → Type 0
IsWithin metric exact level approx = (x : List Bool) → length x ≡ input_count exact
    → net_error metric exact approx x ≤ level

-- the approximate net may be judged against the exact one: the ports agree, and the outputs are few enough
-- that every error is a number of at most 84 bits
pub record IsCandidate (exact approx : NetValue) : Type 0 where
  pub ports : HasSamePorts exact approx
  pub few_outputs : length exact.outputs ≤ MOST_OUTPUTS
