use Rattle.std.proofs.Common.{inl, inr, arith}
use Rattle.proof_semantics.proofs.conflict_examples.enough.Goals as goal

pub returns : goal.returns
returns c = record {
  few_inputs = inl (omega arith);
  nine_inputs = (inr (omega arith, omega arith), λ h. elim h [ inl few ↦ omega (arith, few) | inr both ↦ omega (arith, both.1) ]);
  ten_inputs = (inr (omega arith, omega arith), λ h. elim h [ inl few ↦ omega (arith, few) | inr both ↦ omega (arith, both.1) ]);
  fifteen_inputs = (inr (omega arith, omega arith), λ h. elim h [ inl few ↦ omega (arith, few) | inr both ↦ omega (arith, both.1) ]);
  many_inputs = λ h. elim h [ inl few ↦ omega (arith, few) | inr both ↦ omega (arith, both.0) ];
}
