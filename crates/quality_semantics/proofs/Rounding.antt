-- Quotients rounded up.
use Rattle.std.proofs.Common.{◌≡◌, ℕ, ◌+◌, ◌*◌, ◌<◌, ◌≤◌, ltb, inl, inr, sym, ◌∙◌, arith}
use Rattle.std.proofs.Math.Nat.{mul-le-mul}
use Rattle.std.proofs.lemmas.Grind.{div_ceil_times}
use Rattle.std.proofs.lemmas.Bool.{cases_lt, lt-ltb, le-ltb}
use Rattle.semantics.specs.Error.{rounded_up}

above : (d m k : ℕ) → 1 ≤ m → k < rounded_up d m → k * m < d
above d m k some h =
    let near = (div_ceil_times d m some).1 in
    let more : (k + 1) * m ≤ rounded_up d m * m = mul-le-mul (omega arith) (omega arith) in
    omega (arith, near, more)

below : (d m k : ℕ) → 1 ≤ m → rounded_up d m ≤ k → d ≤ k * m
below d m k some h =
    let near = (div_ceil_times d m some).0 in
    let less : rounded_up d m * m ≤ k * m = mul-le-mul h (omega arith) in
    omega (arith, near, less)

pub rounded_up_exceeds : (d m k : ℕ) → 1 ≤ m → ltb k (rounded_up d m) ≡ ltb (k * m) d
rounded_up_exceeds d m k some =
    elim (cases_lt k (rounded_up d m)) [
      | inl h ↦ lt-ltb k (rounded_up d m) h ∙ sym (lt-ltb (k * m) d (above d m k some h))
      | inr h ↦ le-ltb k (rounded_up d m) h ∙ sym (le-ltb (k * m) d (below d m k some h))
    ]
