-- Names that are a byte and a number.
use Rattle.std.proofs.Common.{◌≡◌, ℕ, suc, ◌+◌, ◌-◌, ◌^◌, ◌<◌, ◌≤◌, List, [], ◌∷◌, length, get_or, All, decimal, arith}
use Rattle.std.proofs.lemmas.Fmt.{decimal_by_steps, decimal_nonempty, length-decimal-le}
use Rattle.std.proofs.lemmas.List.Elements.{All-nil, All-cons, All-push}
use Rattle.semantics.specs.Net.{IsNameByte, IsName}

AreDigits : List ℕ → Type 0
AreDigits ds = All (λ b. (48 ≤ b) × (b ≤ 57)) ds

digits_decimal : (n : ℕ) → n < 2 ^ 64 → AreDigits (decimal n)
unfolding AreDigits
digits_decimal = decimal_by_steps (λ n ds. All (λ b. (48 ≤ b) × (b ≤ 57)) ds)
    (λ n small. All-cons (λ b. (48 ≤ b) × (b ≤ 57)) (48 + n) [] (omega arith, omega arith) (All-nil _))
    (λ n ds large before. All-push (λ b. (48 ≤ b) × (b ≤ 57)) ds _ before (omega arith, omega arith))

-- a byte and a number are a name
pub IsName-numbered : (p n : ℕ) → IsNameByte p → n < 2 ^ 64 → IsName (p ∷ decimal n)
unfolding AreDigits
IsName-numbered p n byte small =
    let digits : All (λ b. (48 ≤ b) × (b ≤ 57)) (decimal n) = digits_decimal n (omega arith) in
    let some : 0 < length (decimal n) = decimal_nonempty n (omega arith) in
    record {
      not_empty = omega arith;
      short = omega (arith, length-decimal-le 20 n (omega arith) (omega arith) (omega arith));
      printable = All-cons IsNameByte p (decimal n) byte (λ k d within. let h = digits k d within in (omega (arith, h), omega (arith, h), omega (arith, h)));
      ending = λ e.
          let place : suc (length (decimal n)) - 1 ≡ suc (length (decimal n) - 1) = omega arith in
          let last : get_or (decimal n) (length (decimal n) - 1) 0 ≡ 92 = rw place at e in
          let digit = digits (length (decimal n) - 1) 0 (omega arith) in
          omega (arith, last, digit);
    }
