-- The greatest value of a function and the first place that has it, from the places one after another.
use Rattle.std.proofs.Common.{◌≡◌, ℕ, ◌+◌, ◌<◌, ◌≤◌, sym, inl, inr, arith}
use Rattle.std.proofs.lemmas.Bool.{cases_eq, cases_lt}
use Rattle.lane_nets.specs.Errors.{IsFirstGreatestOf, IsGreatestSoFar}

at_most_more : (f : ℕ → ℕ) (bound most next : ℕ) → next ≡ f bound → next ≤ most → ((k : ℕ) → k < bound → f k ≤ most) → (k : ℕ) → k < bound + 1 → f k ≤ most
at_most_more f bound most next is low before k below =
    elim (cases_eq k bound) [
      | inl here ↦ rw here (omega (arith, is, low))
      | inr other ↦ before k (omega arith)
    ]

-- one more place: where its value is greater it is taken
pub greatest_taken : (f : ℕ → ℕ) (bound at most next : ℕ) → IsGreatestSoFar f bound at most → next ≡ f bound → most < next → IsGreatestSoFar f (bound + 1) bound next
greatest_taken f bound at most next h is high = record {
  within = λ some. omega arith;
  attained = λ some. sym is;
  greatest = at_most_more f bound next next is (omega arith) (λ k below. omega (arith, h.greatest k below));
  first = λ k below. omega (arith, h.greatest k below);
}

pub greatest_kept : (f : ℕ → ℕ) (bound at most next : ℕ) → IsGreatestSoFar f bound at most → next ≡ f bound → next ≤ most → IsGreatestSoFar f (bound + 1) at most
greatest_kept f bound at most next h is low = record {
  within = λ some. omega (arith, h.within some);
  attained = h.attained;
  greatest = at_most_more f bound most next is low h.greatest;
  first = h.first;
}

pub greatest_all : (f : ℕ → ℕ) (bound count at most : ℕ) → 0 < count → bound ≡ count → IsGreatestSoFar f bound at most → IsFirstGreatestOf f count most at
greatest_all f bound count at most some all h =
    let within : at < bound = elim (cases_lt 0 at) [
      | inl later ↦ h.within later
      | inr start ↦ omega (arith, all, some, start)
    ] in
    record {
      within = omega (arith, within, all);
      attained = elim (cases_lt 0 most) [
        | inl more ↦ h.attained more
        | inr nothing ↦ omega (arith, h.greatest at within, nothing)
      ];
      greatest = λ k below. h.greatest k (omega (arith, below, all));
      first = h.first;
    }
