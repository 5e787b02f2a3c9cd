-- The range of levels with which the search for the greatest error begins.
use Rattle.std.proofs.Common.{◌≡◌, ◌⊎◌, ◌<◌, ◌≤◌, ℕ, min, Bool, List, length, None, inl, inr, arith}
use Rattle.std.proofs.lemmas.Bool.{cases_lt}
use Rattle.semantics.specs.declared.limits.TheConstants.{LARGEST_ERROR}
use Rattle.semantics.specs.Net.{NetValue, input_count}
use Rattle.semantics.specs.Error.{net_error, IsWithin, IsCandidate}
use Rattle.semantics.proofs.Sizes.{largest}
use Rattle.semantics.specs.Vectors.{IsFirstGreatestAt}
use Rattle.proof_semantics.specs.declared.constraint.Constraint.{Constraint}
use Rattle.lane_bits.specs.Patterns.{PatternSet}
use Rattle.worst_case.specs.declared.range.Range.{Range}
use Rattle.worst_case.specs.declared.options.TheConstants.{LANE_INPUTS}
use Rattle.worst_case.specs.VectorsTried.{IsTrial}
use Rattle.every_vector.specs.Vectors.{IsFirstGreatestIn}
use Rattle.worst_case.specs.Maximum.{IsRange}
use Rattle.every_vector.proofs.FirstGreatest.{IsFirstGreatestAt-all}

-- the smaller of the bound and the largest error
pub smaller : (bound high : ℕ) → high ≡ min bound LARGEST_ERROR → (high ≤ bound) × (high ≤ LARGEST_ERROR) × ((high ≡ bound) ⊎ (high ≡ LARGEST_ERROR))
smaller bound high is =
    elim (cases_lt LARGEST_ERROR bound) [
      | inl less ↦ let low : high ≡ LARGEST_ERROR = omega (arith, is, less) in (omega (arith, low, less), omega (arith, low), inr low)
      | inr most ↦ let same : high ≡ bound = omega (arith, is, most) in (omega (arith, same), omega (arith, same, most), inl same)
    ]

-- what the trial vectors and the bound make of it
pub IsRange-first : (aim : Constraint) (N M : NetValue) (high most : ℕ) (x : List Bool) (s : PatternSet) → IsCandidate N M → IsWithin aim.metric N aim.bound M
    → IsTrial (input_count N) s → IsFirstGreatestIn (net_error aim.metric N M) s.vectors most x → length x ≡ input_count N
    → ((input_count N ≤ LANE_INPUTS) × (high ≡ most))
    ⊎ ((LANE_INPUTS < input_count N) × (high ≤ aim.bound) × (high ≤ LARGEST_ERROR) × ((high ≡ aim.bound) ⊎ (high ≡ LARGEST_ERROR)))
    → IsRange aim N M (record { low = most; witness = x; high = high; log = None; reach = 0 })
IsRange-first aim N M high most x s nets within trial best width (inl small) =
    let first = IsFirstGreatestAt-all (input_count N) (net_error aim.metric N M) s.vectors most x (trial.all small.0) best in
    record {
      width = width;
      attained = best.attained;
      within = λ y wide. omega (arith, first.greatest y wide, small.1);
      bounded = omega (arith, small.1, best.attained, within x width);
      small = omega (arith, small.1, best.attained, largest aim.metric N M nets x);
      refuted = tt;
      first = λ few_inputs. first;
    }
IsRange-first aim N M high most x s nets within trial best width (inr large) = record {
  width = width;
  attained = best.attained;
  within = λ y wide. elim large.3 [ inl is ↦ omega (arith, is, within y wide) | inr is ↦ omega (arith, is, largest aim.metric N M nets y) ];
  bounded = large.1;
  small = large.2;
  refuted = tt;
  first = λ few_inputs. absurd (omega (arith, few_inputs, large.0));
}

-- where the greatest error of all vectors is known
pub IsRange-closed : (aim : Constraint) (N M : NetValue) (most : ℕ) (x : List Bool) (r : Range) → IsRange aim N M r
    → IsFirstGreatestAt (input_count N) (net_error aim.metric N M) most x → IsRange aim N M (record { low = most; witness = x; high = most; log = None; reach = 0 })
IsRange-closed aim N M most x r range best =
    let below : net_error aim.metric N M x ≤ r.high = range.within x best.width in
    record {
      width = best.width;
      attained = best.attained;
      within = best.greatest;
      bounded = omega (arith, best.attained, below, range.bounded);
      small = omega (arith, best.attained, below, range.small);
      refuted = tt;
      first = λ few_inputs. best;
    }

-- where a vector with a larger error is known
pub IsRange-climbed : (aim : Constraint) (N M : NetValue) (r : Range) (most : ℕ) (x : List Bool) → IsRange aim N M r → length x ≡ input_count N
    → net_error aim.metric N M x ≡ most → r.low < most → IsRange aim N M (record r { low = most; witness = x })
IsRange-climbed aim N M r most x range width is more = record {
  width = width;
  attained = is;
  within = range.within;
  bounded = range.bounded;
  small = range.small;
  refuted = range.refuted;
  first = λ few_inputs. absurd (omega (arith, is, more, (range.first few_inputs).greatest x width));
}
