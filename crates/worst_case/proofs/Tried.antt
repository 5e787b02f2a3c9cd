-- The known vectors, with the right outputs.
use Rattle.std.proofs.Common.{◌≡◌, ℕ, ap, subst, sym}
use Rattle.semantics.specs.Net.{NetValue, input_count}
use Rattle.lane_bits.specs.Patterns.{PatternSet}
use Rattle.lane_nets.specs.Lanes.{ReferenceValue}
use Rattle.worst_case.specs.VectorsTried.{IsTrial, IsHeldFor}

-- the right outputs at the vectors that are tried
pub held_for : (N : NetValue) (n : ℕ) (s : PatternSet) (r : ReferenceValue) → n ≡ input_count N → IsTrial n s → r ≡ record { exact = N; patterns = s } → IsHeldFor N r
held_for N n s r count trial is = record {
  exact = ap (λ (t : ReferenceValue). t.exact) is;
  trial = subst (IsTrial (input_count N)) (sym (ap (λ (t : ReferenceValue). t.patterns) is)) (subst (λ m. IsTrial m s) count trial);
}
