-- Words in two's complement, and the signed error.
use Rattle.std.proofs.Common.{◌≡◌, ℕ, zero, suc, ◌+◌, ◌-◌, ◌*◌, ◌^◌, ◌<◌, Bool, true, false, not, List, [], ◌∷◌, length, get_or, set, refl, ap, ◌∙◌, arith}
use Rattle.std.specs.Prelude.{ℤ, pos, negsuc, neg_ℤ, ◌+ℤ◌, ◌-ℤ◌, ◌≤ℤ◌, ◌<ℤ◌, unsigned_abs}
use Rattle.std.proofs.Math.Nat.{pow-succ'}
use Rattle.std.proofs.lemmas.Int.{ints}
use Rattle.std.proofs.lemmas.List.{length-set, get_or-set_same}
use Rattle.semantics.specs.declared.metric.Kind.TheVariants.{Abs, Sabs}
use Rattle.semantics.specs.Error.{bit_number, number_of, sign_of, sign_weight, signed_number_of, sign_flipped, distance, word_error}
use Rattle.semantics.proofs.Vectors.{number_of-lt}

-- how far two differences are apart
apart : (z : ℤ) (a b c d : ℕ) → z ≡ (pos a -ℤ pos b) -ℤ (pos c -ℤ pos d) → unsigned_abs z ≡ distance (a + d) (c + b)
apart (pos n) a b c d is = omega (arith, ints, is)
apart (negsuc n) a b c d is = omega (arith, ints, is)

pub signed_error-naturals : (e a : List Bool) → word_error Sabs e a ≡ distance (number_of e + sign_weight a) (number_of a + sign_weight e)
signed_error-naturals e a = apart (signed_number_of e -ℤ signed_number_of a) (number_of e) (sign_weight e) (number_of a) (sign_weight a) refl

twice : (b : Bool) (k m : ℕ) → m ≡ 2 * k → bit_number b * m ≡ 2 * (bit_number b * k)
twice false k m is = omega arith
twice true k m is = omega (arith, is)

one_of_both : (b : Bool) (k : ℕ) → bit_number (not b) * k + bit_number b * k ≡ k
one_of_both false k = omega arith
one_of_both true k = omega arith

pub power_twice : (w : ℕ) → 0 < w → 2 ^ w ≡ 2 * 2 ^ (w - 1)
power_twice zero some = absurd (omega arith)
power_twice (suc w) some = let one_less : suc w - 1 ≡ w = omega arith in rw one_less (pow-succ' 2 w)

-- another bit at one place
number_of-set : (bits : List Bool) (i : ℕ) (b : Bool) → i < length bits
    → number_of (set bits i b) + bit_number (get_or bits i false) * 2 ^ i ≡ number_of bits + bit_number b * 2 ^ i
number_of-set [] i b within = absurd (omega arith)
number_of-set (c ∷ bits) zero b within = omega arith
number_of-set (c ∷ bits) (suc i) b within =
    let old = twice (get_or bits i false) (2 ^ i) (2 ^ suc i) (pow-succ' 2 i) in
    let new = twice b (2 ^ i) (2 ^ suc i) (pow-succ' 2 i) in
    omega (arith, number_of-set bits i b (omega (arith, within)), old, new)

-- to turn the sign over adds half of 2 to the width to the number in two's complement
pub number_of-flipped : (bits : List Bool) → 0 < length bits → number_of (sign_flipped bits) + sign_weight bits ≡ number_of bits + 2 ^ (length bits - 1)
number_of-flipped bits some =
    let top : ℕ = length bits - 1 in
    let sign : Bool = sign_of bits in
    omega (
      arith,
      number_of-set bits top (not sign) (omega (arith, some)),
      one_of_both sign (2 ^ top),
      twice sign (2 ^ top) (2 ^ length bits) (power_twice (length bits) some),
    )

pub length-flipped : (bits : List Bool) → length (sign_flipped bits) ≡ length bits
length-flipped bits = length-set bits (length bits - 1) (not (sign_of bits))

pub sign_of-flipped : (bits : List Bool) → 0 < length bits → sign_of (sign_flipped bits) ≡ not (sign_of bits)
sign_of-flipped bits some =
    ap (λ n. get_or (sign_flipped bits) (n - 1) false) (length-flipped bits)
    ∙ get_or-set_same bits (length bits - 1) (not (sign_of bits)) false (omega (arith, some))

pub flipped : (bits : List Bool) → 0 < length bits → pos (number_of (sign_flipped bits)) ≡ signed_number_of bits +ℤ pos (2 ^ (length bits - 1))
flipped bits some = omega (arith, ints, number_of-flipped bits some)

pub least : (bits : List Bool) → 0 < length bits → neg_ℤ (pos (2 ^ (length bits - 1))) ≤ℤ signed_number_of bits
least bits some = omega (arith, ints, number_of-flipped bits some)

flipped-lt : (bits : List Bool) → 0 < length bits → number_of (sign_flipped bits) < 2 * 2 ^ (length bits - 1)
flipped-lt bits some = omega (arith, number_of-lt (sign_flipped bits), ap (λ w. 2 ^ w) (length-flipped bits), power_twice (length bits) some)

pub greatest : (bits : List Bool) → 0 < length bits → signed_number_of bits <ℤ pos (2 ^ (length bits - 1))
greatest bits some = omega (arith, ints, number_of-flipped bits some, flipped-lt bits some)

pub flipped_error : (e a : List Bool) → length e ≡ length a → word_error Sabs e a ≡ word_error Abs (sign_flipped e) (sign_flipped a)
flipped_error [] [] same = refl
flipped_error [] (b ∷ a) same = absurd (omega (arith, same))
flipped_error (b ∷ e) [] same = absurd (omega (arith, same))
flipped_error (b ∷ e) (c ∷ a) same =
    let half : 2 ^ (length (b ∷ e) - 1) ≡ 2 ^ (length (c ∷ a) - 1) = ap (λ w. 2 ^ (w - 1)) same in
    omega (
      arith,
      signed_error-naturals (b ∷ e) (c ∷ a),
      number_of-flipped (b ∷ e) (omega arith),
      number_of-flipped (c ∷ a) (omega arith),
      half,
    )
