use Rattle.std.proofs.Common.{◌≡◌, ℕ, zero, suc, ◌<◌, true, false, [], ◌∷◌, get_or, refl, ap, arith}
use Rattle.lane_bits.specs.Examples.{of_one_input}
use Rattle.lane_bits.specs.InputOrder.{HasEveryVector}
use Rattle.lane_bits.proofs.examples.every_vector.Goals as goal

pub returns : goal.returns
returns c = record { both = both; turned = turned; one = one; twice = twice; without_inputs = without_inputs }
  where
    both : HasEveryVector (of_one_input ((false ∷ []) ∷ (true ∷ []) ∷ []))
    both [] long = absurd (omega (arith, long))
    both (false ∷ []) long = (0, omega arith, refl)
    both (true ∷ []) long = (1, omega arith, refl)
    both (b ∷ c ∷ x) long = absurd (omega (arith, long))

    turned : HasEveryVector (of_one_input ((true ∷ []) ∷ (false ∷ []) ∷ []))
    turned [] long = absurd (omega (arith, long))
    turned (false ∷ []) long = (1, omega arith, refl)
    turned (true ∷ []) long = (0, omega arith, refl)
    turned (b ∷ c ∷ x) long = absurd (omega (arith, long))

    apart : (p : ℕ) → p < 1 → get_or ((false ∷ []) ∷ []) p [] ≡ true ∷ [] → ⊥
    apart zero low is = (let bit : false ≡ true = ap (λ x. get_or x 0 false) is in absurd cc)
    apart (suc p) low is = absurd (omega (arith, low))

    one : HasEveryVector (of_one_input ((false ∷ []) ∷ [])) → ⊥
    one h = (let found = h (true ∷ []) refl in apart found.0 found.1 found.2)

    apart_twice : (p : ℕ) → p < 2 → get_or ((true ∷ []) ∷ (true ∷ []) ∷ []) p [] ≡ false ∷ [] → ⊥
    apart_twice zero low is = (let bit : true ≡ false = ap (λ x. get_or x 0 true) is in absurd cc)
    apart_twice (suc zero) low is = (let bit : true ≡ false = ap (λ x. get_or x 0 true) is in absurd cc)
    apart_twice (suc (suc p)) low is = absurd (omega (arith, low))

    twice : HasEveryVector (of_one_input ((true ∷ []) ∷ (true ∷ []) ∷ [])) → ⊥
    twice h = (let found = h (false ∷ []) refl in apart_twice found.0 found.1 found.2)

    without_inputs : HasEveryVector (record { inputs = 0; vectors = [] ∷ [] })
    without_inputs [] long = (0, omega arith, refl)
    without_inputs (b ∷ x) long = absurd (omega (arith, long))
