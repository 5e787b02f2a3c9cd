use Rattle.std.proofs.Common.{◌+◌, ◌^◌, ◌≤◌, inl, inr, arith}
use Rattle.std.proofs.Math.Nat.{pow-le-pow_right}
use Rattle.proof_semantics.proofs.conflict_laws.enough.Goals as goal

pub returns : goal.returns
returns c limit more inputs fewer higher lower h = elim h [
  | inl few ↦ inl (omega (arith, few, lower))
  | inr both ↦
      let power : 2 ^ (fewer + 1) ≤ 2 ^ (inputs + 1) = pow-le-pow_right (omega arith) (omega (arith, lower)) in
      inr (omega (arith, both.0, lower), omega (arith, both.1, power, higher))
]
