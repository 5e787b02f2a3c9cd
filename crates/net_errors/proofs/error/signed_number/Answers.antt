use Rattle.std.proofs.Common.{◌≡◌, ◌≤◌, ◌<◌, ◌*◌, ◌^◌, ◌%◌, length, ℕ, Bool, true, false, List, ℤ, pos, sym, ◌∙◌, arith, to_z, of_z, lit<}
use Rattle.std.specs.Prelude.{◌-ℤ◌}
use mir.Syntax.{w128}
use Rattle.std.proofs.Math.Nat.{pow-le-pow_right}
use Rattle.std.proofs.lemmas.Int.{ints}
use Rattle.std.proofs.lemmas.Option.{get_or_from_slice_get}
use Rattle.semantics.specs.Error.{number_of, sign_of, signed_number_of}
use Rattle.semantics.proofs.Vectors.{number_of-lt}
use Rattle.net_errors.proofs.error.signed_number.Goals as goal

taken_off : (n p : ℕ) (z : ℤ) → z ≡ pos n → n < 2 ^ 64 → p ≤ 2 ^ 64 → to_z w128 (of_z w128 (to_z w128 (of_z w128 z) -ℤ to_z w128 (1 * p % 2 ^ 128))) ≡ pos n -ℤ pos p
taken_off n p z is few low = omega (arith, ints, is)

-- a list whose last bit is 1
signed_read : (bits : List Bool) (n : ℕ) (z : ℤ) → length bits ≤ 64 → z ≡ pos n → n ≡ number_of bits → sign_of bits ≡ true
    → to_z w128 (of_z w128 (to_z w128 (of_z w128 z) -ℤ to_z w128 (1 * 2 ^ length bits % 2 ^ 128))) ≡ signed_number_of bits
signed_read bits n z few is number sign =
    let low : 2 ^ length bits ≤ 2 ^ 64 = pow-le-pow_right {n = 2} (lit< tt) few in
    rw sign (omega (arith, ints, taken_off n (2 ^ length bits) z is (omega (arith, number, number_of-lt bits, low)) low, number))

pub returns-in-Some-true : goal.returns-in-Some-true
returns-in-Some-true c =
    signed_read c.args.bits.now _ _ c.requires c.from-number.ensures c.number.ensures
    (get_or_from_slice_get c.args.bits.now _ c.in-Some-true.field-0.now false (sym c.in-Some-true.ensures.value) ∙ c.in-Some-true.field-0-test)
