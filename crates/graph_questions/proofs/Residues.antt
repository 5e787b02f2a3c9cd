-- Numbers that are close, and their residues modulo a power of 2.
use Rattle.std.proofs.Common.{◌≡◌, ℕ, zero, suc, ◌+◌, ◌*◌, ◌^◌, ◌<◌, ◌≤◌, Bool, List, [], ◌∷◌, take, drop, inl, inr, ap, ◌∙◌, arith}
use Rattle.std.proofs.Math.Nat.{pow-succ', mul-suc, mul_assoc}
use Rattle.std.proofs.lemmas.Bool.{cases_lt}
use Rattle.std.proofs.lemmas.Nat.{mul-le}
use Rattle.semantics.specs.Error.{number_of, distance}

-- the low places, and the high ones
pub number_of-split : (p : ℕ) (bits : List Bool) → number_of bits ≡ number_of (take p bits) + 2 ^ p * number_of (drop p bits)
number_of-split zero bits = omega arith
number_of-split (suc p) [] = omega arith
number_of-split (suc p) (b ∷ bits) =
    let high : ℕ = number_of (drop p bits) in
    let twice : 2 ^ suc p * high ≡ 2 * (2 ^ p * high) = ap (λ n. n * high) (pow-succ' 2 p) ∙ mul_assoc 2 (2 ^ p) high in
    omega (arith, number_of-split p bits, twice)

pub distance-le : (e m a : ℕ) → distance e a ≤ distance e m + distance m a
distance-le e m a = omega arith

-- two numbers by their residues and the multiples of P behind them
record AreSplit (P e a re ra pe pa : ℕ) : Type 0 where
  pub e_is : e ≡ re + pe
  pub a_is : a ≡ ra + pa
  pub e_low : re < P
  pub a_low : ra < P

pub record AreFar (P k re ra : ℕ) : Type 0 where
  pub beyond : k < distance re ra
  pub around : distance re ra + k < P

same_multiple : (P e a re ra pe pa k : ℕ) → AreSplit P e a re ra pe pa → k < distance e a → distance e a + k < P → pe ≡ pa → AreFar P k re ra
same_multiple P e a re ra pe pa k are over near same = record {
  beyond = omega (arith, are.e_is, are.a_is, over, same);
  around = omega (arith, are.e_is, are.a_is, near, same);
}

next_multiple : (P e a re ra pe pa k : ℕ) → AreSplit P e a re ra pe pa → k < distance e a → distance e a + k < P → pa ≡ pe + P → AreFar P k re ra
next_multiple P e a re ra pe pa k are over near next = record {
  beyond = omega (arith, are.e_is, are.a_is, are.e_low, are.a_low, near, next);
  around = omega (arith, are.e_is, are.a_is, are.e_low, are.a_low, over, near, next);
}

former_multiple : (P e a re ra pe pa k : ℕ) → AreSplit P e a re ra pe pa → k < distance e a → distance e a + k < P → pe ≡ pa + P → AreFar P k re ra
former_multiple P e a re ra pe pa k are over near former = record {
  beyond = omega (arith, are.e_is, are.a_is, are.e_low, are.a_low, near, former);
  around = omega (arith, are.e_is, are.a_is, are.e_low, are.a_low, over, near, former);
}

far_multiples : (P e a re ra pe pa k : ℕ) → AreSplit P e a re ra pe pa → distance e a + k < P → pe + P + P ≤ pa → ⊥
far_multiples P e a re ra pe pa k are near far = omega (arith, are.e_is, are.a_is, are.e_low, are.a_low, near, far)

far_back : (P e a re ra pe pa k : ℕ) → AreSplit P e a re ra pe pa → distance e a + k < P → pa + P + P ≤ pe → ⊥
far_back P e a re ra pe pa k are near far = omega (arith, are.e_is, are.a_is, are.e_low, are.a_low, near, far)

two_more : (P a b : ℕ) → suc a < b → P * a + P + P ≤ P * b
two_more P a b less = omega (arith, mul-le P (suc (suc a)) P b (omega arith) (omega (arith, less)), mul-suc P (suc a), mul-suc P a)

one_more : (P a b : ℕ) → a < b → b ≤ suc a → P * b ≡ P * a + P
one_more P a b less most = let is : b ≡ suc a = omega (arith, less, most) in ap (λ n. P * n) is ∙ mul-suc P a

-- two numbers that are more than k apart, and less than P less k: so are their residues, also where one of them has passed P
pub residues_apart : (P e a re ra qe qa k : ℕ) → e ≡ re + P * qe → a ≡ ra + P * qa → re < P → ra < P → k < distance e a → distance e a + k < P → AreFar P k re ra
residues_apart P e a re ra qe qa k e_is a_is e_low a_low over near = elim (cases_lt qe qa) [ inl up ↦ ahead up | inr down ↦ behind down ] where
  are : AreSplit P e a re ra (P * qe) (P * qa)
  are = record { e_is = e_is; a_is = a_is; e_low = e_low; a_low = a_low }

  ahead : qe < qa → AreFar P k re ra
  ahead up = elim (cases_lt (suc qe) qa) [
    | inl far ↦ absurd (far_multiples P e a re ra (P * qe) (P * qa) k are near (two_more P qe qa far))
    | inr next ↦ next_multiple P e a re ra (P * qe) (P * qa) k are over near (one_more P qe qa up next)
  ]

  behind : qa ≤ qe → AreFar P k re ra
  behind down = elim (cases_lt qa qe) [
    | inl back ↦ elim (cases_lt (suc qa) qe) [
      | inl far ↦ absurd (far_back P e a re ra (P * qe) (P * qa) k are near (two_more P qa qe far))
      | inr former ↦ former_multiple P e a re ra (P * qe) (P * qa) k are over near (one_more P qa qe back former)
    ]
    | inr up ↦ same_multiple P e a re ra (P * qe) (P * qa) k are over near (let same : qe ≡ qa = omega (arith, down, up) in ap (λ n. P * n) same)
  ]
