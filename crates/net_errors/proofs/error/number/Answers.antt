use Rattle.std.proofs.Common.{◌≡◌, ℕ, ◌-◌, ◌^◌, ◌<◌, ◌≤◌, Bool, true, false, List, length, drop, get_or, arith, length-drop, lit<, lit≤}
use Rattle.std.specs.Int.{from_bool}
use Rattle.std.proofs.Math.Nat.{pow-le-pow_right}
use Rattle.semantics.specs.Error.{number_of}
use Rattle.semantics.proofs.Vectors.{number_of-lt}
use Rattle.net_errors.proofs.error.number.Goals as goal

-- at most 63 bits have a number below 2 ^ 63
number_of-lt_63 : (bits : List Bool) → length bits ≤ 63 → number_of bits < 2 ^ 63
number_of-lt_63 bits few = omega (arith, number_of-lt bits, pow-le-pow_right {n = 2} (lit< tt) few)

one_at_most : (b : Bool) → from_bool b ≤ 1
one_at_most true = lit≤ tt
one_at_most false = lit≤ tt

-- what was read so far
so_far : (bits : List Bool) (i number : ℕ) → length bits ≤ 64 → i < length bits → number ≡ number_of (drop (length bits - i) bits) → number < 2 ^ 63
so_far bits i number few below is =
    let short : length (drop (length bits - i) bits) ≤ 63 = omega (arith, length-drop (length bits - i) bits) in
    omega (arith, number_of-lt_63 (drop (length bits - i) bits) short)

pub overflow_mul-number : goal.overflow_mul-number
overflow_mul-number c =
    let below = so_far c.args.bits.now c.loop-i.i c.loop-i.number c.requires c.loop-i-test.true c.loop-i.invariant in
    omega arith

pub overflow_add-number : goal.overflow_add-number
overflow_add-number c =
    let below = so_far c.args.bits.now c.loop-i.i c.loop-i.number c.requires c.loop-i-test.true c.loop-i.invariant in
    let bit = one_at_most (get_or c.args.bits.now (length c.args.bits.now - 1 - c.loop-i.i) false) in
    omega (arith, c.from.ensures)
