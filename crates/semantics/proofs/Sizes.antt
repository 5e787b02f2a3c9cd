-- How large the errors of two words are.
use Rattle.std.proofs.Common.{◌≡◌, ℕ, zero, suc, ◌+◌, ◌-◌, ◌*◌, ◌/◌, ◌^◌, ◌<◌, ◌≤◌, max, Bool, true, false, not, List, [], ◌∷◌, map, length, get_or, replicate, refl, ap, sym, ◌∙◌, div-add-mod'}
use Rattle.std.proofs.Common.{div-one, le-mul_of_pos_right, arith}
use Rattle.std.proofs.Math.Nat.{pow-succ'}
use Rattle.std.proofs.Math.Pow.{pow_mono}
use Rattle.std.proofs.lemmas.List.{length-map, length-replicate, get_or-replicate}
use Rattle.semantics.specs.declared.metric.Metric.{Metric}
use Rattle.semantics.specs.declared.metric.Kind.{Kind}
use Rattle.semantics.specs.declared.metric.Kind.TheVariants.{Abs, Rel, Ham, Sabs}
use Rattle.semantics.specs.declared.limits.TheConstants.{MOST_OUTPUTS, LARGEST_ERROR}
use Rattle.semantics.specs.Net.{NetValue, input_count, signal_names, name_of}
use Rattle.semantics.specs.Value.{value_of, outputs_of}
use Rattle.semantics.specs.Laws.{zeros, ones}
use Rattle.semantics.specs.Error.{bit_number, number_of, distance, rounded_up, differing, sign_of, sign_weight, sign_flipped, word_error, word_width, word_at}
use Rattle.semantics.specs.Error.{error_of, greatest_error, errors_below, net_error, IsCandidate}
use Rattle.semantics.proofs.Vectors.{number_of-lt_width}
use Rattle.semantics.proofs.Words.{word_length-le, same_lengths, error_of-most}
use Rattle.semantics.proofs.Signed.{power_twice, length-flipped, sign_of-flipped, number_of-flipped, flipped_error, signed_error-naturals}

distance-le : (width : ℕ) (e a : List Bool) → length e ≡ width → length a ≡ width → distance (number_of e) (number_of a) ≤ 2 ^ width - 1
distance-le width e a exact approx = omega (arith, number_of-lt_width width e exact, number_of-lt_width width a approx)

-- a quotient is no larger than what is divided, also when it is rounded up
rounded_up-le : (d k : ℕ) → 0 < k → rounded_up d k ≤ d
rounded_up-le d k some = omega (arith, div-add-mod' d k, le-mul_of_pos_right (d / k) some)

bits_apart : (a b : Bool) → distance (bit_number a) (bit_number b) ≤ 1
bits_apart false false = omega arith
bits_apart false true = omega arith
bits_apart true false = omega arith
bits_apart true true = omega arith

differing-le : (e a : List Bool) → differing e a ≤ length e
differing-le [] a = omega arith
differing-le (x ∷ e) [] = omega arith
differing-le (x ∷ e) (y ∷ a) = omega (arith, bits_apart x y, differing-le e a)

pub word_error-le : (kind : Kind) (width : ℕ) (e a : List Bool) → length e ≡ width → length a ≡ width → word_error kind e a ≤ greatest_error kind width
word_error-le Abs width e a exact approx = distance-le width e a exact approx
word_error-le Rel width e a exact approx =
    omega (arith, distance-le width e a exact approx, rounded_up-le (distance (number_of e) (number_of a) * 1000000) (max 1 (number_of e)) (omega arith))
word_error-le Ham width e a exact approx = omega (arith, differing-le e a, exact)
word_error-le Sabs width e a exact approx =
    let same : length e ≡ length a = exact ∙ sym approx in
    let distance_of_flipped = distance-le width (sign_flipped e) (sign_flipped a) (length-flipped e ∙ exact) (length-flipped a ∙ approx) in
    omega (arith, flipped_error e a same, distance_of_flipped)

-- ---- the greatest errors: zeros against ones

number_of-zeros : (width : ℕ) → number_of (replicate width false) ≡ 0
number_of-zeros zero = refl
number_of-zeros (suc width) = omega (arith, number_of-zeros width)

number_of-ones : (width : ℕ) → number_of (replicate width true) + 1 ≡ 2 ^ width
number_of-ones zero = refl
number_of-ones (suc width) = omega (arith, number_of-ones width, pow-succ' 2 width)

differing-opposite : (width : ℕ) → differing (replicate width false) (replicate width true) ≡ width
differing-opposite zero = refl
differing-opposite (suc width) = omega (arith, differing-opposite width)

pub attained_abs : (width : ℕ) → word_error Abs (zeros width) (ones width) ≡ greatest_error Abs width
attained_abs width = omega (arith, number_of-zeros width, number_of-ones width)

pub attained_rel : (width : ℕ) → word_error Rel (zeros width) (ones width) ≡ greatest_error Rel width
attained_rel width =
    let d : ℕ = distance (number_of (replicate width false)) (number_of (replicate width true)) * 1000000 in
    let one : max 1 (number_of (replicate width false)) ≡ 1 = omega (arith, number_of-zeros width) in
    let whole : d ≡ (2 ^ width - 1) * 1000000 = omega (arith, number_of-zeros width, number_of-ones width) in
    rw one (omega (arith, whole, div-one d, div-add-mod' d 1))

pub attained_ham : (width : ℕ) → word_error Ham (zeros width) (ones width) ≡ greatest_error Ham width
attained_ham width = differing-opposite width

sign_of-replicate : (width : ℕ) (b : Bool) → 0 < width → sign_of (replicate width b) ≡ b
sign_of-replicate width b some =
    ap (λ n. get_or (replicate width b) (n - 1) false) (length-replicate width b) ∙ get_or-replicate width (width - 1) b false (omega (arith, some))

-- words of one bit repeated, with the sign turned over
sign_weight-flipped : (width : ℕ) (b : Bool) → 0 < width → sign_weight (sign_flipped (replicate width b)) ≡ bit_number (not b) * 2 ^ width
sign_weight-flipped width b some =
    let bits : List Bool = replicate width b in
    let count : length bits ≡ width = length-replicate width b in
    let sign : sign_of (sign_flipped bits) ≡ not b = sign_of-flipped bits (omega (arith, count, some)) ∙ ap not (sign_of-replicate width b some) in
    let size : length (sign_flipped bits) ≡ width = length-flipped bits ∙ count in
    cc (sign, size)

number_of-flipped_ends : (width : ℕ) (b : Bool) → 0 < width
    → number_of (sign_flipped (replicate width b)) + bit_number b * 2 ^ width ≡ number_of (replicate width b) + 2 ^ (width - 1)
number_of-flipped_ends width b some =
    let bits : List Bool = replicate width b in
    let count : length bits ≡ width = length-replicate width b in
    let weight : sign_weight bits ≡ bit_number b * 2 ^ width = let sign = sign_of-replicate width b some in cc (sign, count) in
    let half : 2 ^ (length bits - 1) ≡ 2 ^ (width - 1) = ap (λ n. 2 ^ (n - 1)) count in
    omega (arith, number_of-flipped bits (omega (arith, count, some)), weight, half)

pub attained_sabs : (width : ℕ) → word_error Sabs (sign_flipped (zeros width)) (sign_flipped (ones width)) ≡ greatest_error Sabs width
attained_sabs zero = refl
attained_sabs (suc w) =
    let width : ℕ = suc w in
    let some : 0 < width = omega arith in
    omega (
      arith,
      signed_error-naturals (sign_flipped (zeros width)) (sign_flipped (ones width)),
      sign_weight-flipped width false some,
      sign_weight-flipped width true some,
      number_of-flipped_ends width false some,
      number_of-flipped_ends width true some,
      number_of-zeros width,
      number_of-ones width,
      power_twice width some,
    )

-- ---- 64 bits

word_error-lt : (kind : Kind) (e a : List Bool) → length e ≡ length a → length e ≤ MOST_OUTPUTS → word_error kind e a < errors_below kind
word_error-lt Abs e a same few = omega (arith, word_error-le Abs (length e) e a refl (sym same), pow_mono few)
word_error-lt Rel e a same few = omega (arith, word_error-le Rel (length e) e a refl (sym same), pow_mono few)
word_error-lt Ham e a same few = omega (arith, word_error-le Ham (length e) e a refl (sym same))
word_error-lt Sabs e a same few = omega (arith, word_error-le Sabs (length e) e a refl (sym same), pow_mono few)

errors_below-some : (kind : Kind) → 0 < errors_below kind
errors_below-some Abs = omega arith
errors_below-some Rel = omega arith
errors_below-some Ham = omega arith
errors_below-some Sabs = omega arith

pub error_of-lt : (metric : Metric) (e a : List Bool) → length e ≡ length a → length e ≤ MOST_OUTPUTS → error_of metric e a < errors_below metric.kind
error_of-lt metric e a same few =
    let w : ℕ = word_width metric (length e) in
    let most = error_of-most metric e a (errors_below metric.kind - 1)
    (λ j low.
    let fits : length (word_at w j e) ≤ MOST_OUTPUTS = omega (arith, word_length-le w j e, few) in
    omega (arith, word_error-lt metric.kind (word_at w j e) (word_at w j a) (same_lengths w j e a same) fits)) in
    omega (arith, most, errors_below-some metric.kind)

errors_below-le : (kind : Kind) → errors_below kind ≤ 2 ^ 84
errors_below-le Abs = omega arith
errors_below-le Rel = omega arith
errors_below-le Ham = omega arith
errors_below-le Sabs = omega arith

pub largest : (metric : Metric) (exact approx : NetValue) → IsCandidate exact approx → (x : List Bool) → net_error metric exact approx x ≤ LARGEST_ERROR
unfolding net_error outputs_of
largest metric exact approx h x =
    let e : ℕ = length (outputs_of exact x) in
    let exact_count : length (outputs_of exact x) ≡ length exact.outputs = length-map exact.outputs (value_of (input_count exact) exact.tables x) in
    let approximate_count : length (outputs_of approx x) ≡ length approx.outputs = length-map approx.outputs (value_of (input_count approx) approx.tables x) in
    let names : length (map (name_of (signal_names exact)) exact.outputs) ≡ length (map (name_of (signal_names approx)) approx.outputs) = ap length h.ports.outputs in
    let same : length exact.outputs ≡ length approx.outputs = sym (length-map exact.outputs (name_of (signal_names exact))) ∙ names ∙ length-map approx.outputs (name_of (signal_names approx)) in
    let few : length (outputs_of exact x) ≤ MOST_OUTPUTS = omega (arith, exact_count, h.few_outputs) in
    omega (arith, error_of-lt metric (outputs_of exact x) (outputs_of approx x) (exact_count ∙ same ∙ sym approximate_count) few, errors_below-le metric.kind)
