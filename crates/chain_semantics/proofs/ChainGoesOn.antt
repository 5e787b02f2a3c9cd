-- Each member of a chain of simplifications from a beginning is an end or has a next one, and so the chain ends.
use Rattle.std.proofs.Common.{◌≡◌, ◌⊎◌, ℕ, zero, suc, ◌+◌, ◌^◌, ◌<◌, ◌≤◌, Bool, List, [], ◌∷◌, refl, ap, subst, inl, inr, arith}
use Rattle.std.specs.List.{AllByRecursion}
use Rattle.std.proofs.lemmas.Bool.{cases_lt}
use Rattle.semantics.specs.Net.{NetValue, input_count, literal_count}
use Rattle.semantics.specs.Error.{net_error, IsWithin}
use Rattle.semantics.specs.declared.metric.Metric.{Metric}
use Rattle.semantics.specs.Vectors.{bits_of}
use Rattle.semantics.proofs.Vectors.{length-bits_of, each_vector}
use Rattle.chain_semantics.specs.Chain.{IsFirstAllowed, IsInChain, step_count}
use Rattle.chain_semantics.specs.Chain.IsInChain.{first, next}
use Rattle.chain_semantics.specs.Moves.{moves_of, moved}
use Rattle.chain_semantics.specs.Simplification.{IsAllowedMove, IsTidiedMove, IsBeginning, IsInSimplificationFrom, IsSimplificationEndFrom}
use Rattle.chain_semantics.specs.SimplificationLaws.{IsSimplifiedNetFrom, HasNext}
use Rattle.chain_semantics.proofs.TidyReached.{reached-no_growth, tidied-exists}
use Rattle.chain_semantics.proofs.Simplifications.{first_move, simplified_from, simplified_from-falls}

-- a number is kept at each of the first vectors, or exceeded at one
within_or_over : (f : List Bool → ℕ) (bound n count : ℕ) → ((j : ℕ) → j < count → f (bits_of n j) ≤ bound) ⊎ ((j : ℕ) × (bound < f (bits_of n j)))
within_or_over f bound n zero = inl (λ j low. absurd (omega arith))
within_or_over f bound n (suc count) =
    elim (cases_lt bound (f (bits_of n count))) [
      | inl over ↦ inr (count, over)
      | inr fits ↦ elim (within_or_over f bound n count) [
        | inr over ↦ inr over
        | inl all ↦ inl (λ j low. elim (cases_lt j count) [
          | inl before ↦ all j before
          | inr last ↦ let at : count ≡ j = omega (arith, low, last) in subst (λ k. f (bits_of n k) ≤ bound) at fits
        ])
      ]
    ]

within_or_not : (metric : Metric) (exact : NetValue) (bound : ℕ) (N : NetValue) → IsWithin metric exact bound N ⊎ (¬ IsWithin metric exact bound N)
within_or_not metric exact bound N =
    let n : ℕ = input_count exact in
    elim (within_or_over (net_error metric exact N) bound n (2 ^ n)) [
      | inl all ↦ inl (each_vector n (λ x. net_error metric exact N x ≤ bound) all)
      | inr over ↦ inr (λ within. omega (arith, over.1, within (bits_of n over.0) (length-bits_of n over.0)))
    ]

first_or_none : {M : Type 0} (Allowed : M → Type 0) → ((m : M) → Allowed m ⊎ (¬ Allowed m)) → (moves : List M)
    → ((m : M) × IsFirstAllowed Allowed moves m) ⊎ AllByRecursion (λ m. ¬ Allowed m) moves
first_or_none Allowed decide [] = inr tt
first_or_none Allowed decide (m ∷ moves) =
    elim (decide m) [
      | inl allowed ↦ inl (m, record { before = []; after = moves; stands = refl; none_before = tt; allowed = allowed })
      | inr refused ↦ elim (first_or_none Allowed decide moves) [
        | inl (k, f) ↦ inl (k, record { before = m ∷ f.before; after = f.after; stands = ap (λ l. m ∷ l) f.stands; none_before = (refused, f.none_before); allowed = f.allowed })
        | inr none ↦ inr (refused, none)
      ]
    ]

module _ (metric : Metric) (exact : NetValue) (bound : ℕ) (begin : NetValue) (is_begin : IsBeginning metric exact bound begin) where
  pub goes_on : (N : NetValue) → IsInSimplificationFrom metric exact bound begin N → IsSimplificationEndFrom metric exact bound begin N ⊎ HasNext metric exact bound N
  goes_on N h =
      let is : IsSimplifiedNetFrom metric exact bound begin N = simplified_from metric exact bound begin is_begin N h in
      elim (first_or_none (IsAllowedMove metric exact bound N) (λ move. within_or_not metric exact bound (moved N move)) (moves_of N)) [
        | inr none ↦ inl (record { start = h.start; tidied = h.tidied; end = record { member = h.member; none_allowed = none } })
        | inl (move, f) ↦
            let made = first_move metric exact bound N move is.sound is.tidy f in
            let after = tidied-exists (moved N move) made.moved.sound in
            inr (record { move = move; is_first = f; after = after.0; tidied = after.1 })
      ]

  abbrev after_next : (N : NetValue) (h : IsInSimplificationFrom metric exact bound begin N) (next : HasNext metric exact bound N) → IsInSimplificationFrom metric exact bound begin next.after
  after_next N h n = record { start = h.start; tidied = h.tidied; member = next N n.after n.move h.member n.is_first n.tidied }

  end_from : (fuel : ℕ) (N : NetValue) → literal_count N < fuel → IsInSimplificationFrom metric exact bound begin N → (E : NetValue) × IsSimplificationEndFrom metric exact bound begin E
  end_from zero N low h = absurd (omega arith)
  end_from (suc fuel) N low h =
      elim (goes_on N h) [
        | inl end ↦ (N, end)
        | inr n ↦
            let fewer = simplified_from-falls metric exact bound begin is_begin N n.after n.move h n.is_first n.tidied in
            end_from fuel n.after (omega (arith, low, fewer)) (after_next N h n)
      ]

  pub ends : (N : NetValue) × IsSimplificationEndFrom metric exact bound begin N
  ends =
      let start = tidied-exists begin is_begin.sound in
      end_from (suc (literal_count start.0)) start.0 (omega arith) (record { start = start.0; tidied = start.1; member = first })

  steps_from : (start N : NetValue) (h : IsInChain moves_of (IsAllowedMove metric exact bound) IsTidiedMove start N)
      → ((s : NetValue) → IsInChain moves_of (IsAllowedMove metric exact bound) IsTidiedMove start s → IsInSimplificationFrom metric exact bound begin s)
      → step_count N h + literal_count N ≤ literal_count start
  steps_from start N first member = omega arith
  steps_from start N (next s t move h f tidied) member =
      omega (arith, steps_from start s h member, simplified_from-falls metric exact bound begin is_begin s t move (member s h) f tidied)

  pub steps : (N : NetValue) (h : IsInSimplificationFrom metric exact bound begin N) → step_count N h.member + literal_count N ≤ literal_count begin
  steps N h =
      omega (
        arith,
        steps_from h.start N h.member (λ s member. record { start = h.start; tidied = h.tidied; member = member }),
        (reached-no_growth begin h.start is_begin.sound h.tidied.reached).literals,
      )
