use Rattle.std.proofs.Common.{◌≡◌, ◌<◌, ◌≤◌, Bool, true, false, List, [], ◌∷◌, length, refl, inl, arith}
use Rattle.semantics.specs.Value.{after_rounds, value_of, outputs_of}
use Rattle.semantics.specs.declared.metric.Kind.TheVariants.{Abs}
use Rattle.semantics.specs.Error.{one_word}
use Rattle.semantics.specs.Error.{number_of, error_of, net_error}
use Rattle.semantics.specs.Examples.{half_adder, constant_sum}
use Rattle.proof_semantics.proofs.query_examples.queries.Goals as goal

-- by computation
right_at_0 : net_error (one_word Abs) half_adder constant_sum (false ∷ false ∷ []) ≡ 0
unfolding after_rounds value_of outputs_of error_of net_error
right_at_0 = refl

wrong_at_1 : net_error (one_word Abs) half_adder constant_sum (true ∷ false ∷ []) ≡ 1
unfolding after_rounds value_of outputs_of error_of net_error
wrong_at_1 = refl

right_before : (y : List Bool) → length y ≡ 2 → number_of y < 1 → net_error (one_word Abs) half_adder constant_sum y ≤ 0
right_before [] width low = absurd (omega (arith, width))
right_before (a ∷ []) width low = absurd (omega (arith, width))
right_before (false ∷ false ∷ []) width low = omega (arith, right_at_0)
right_before (false ∷ true ∷ []) width low = absurd (omega (arith, low))
right_before (true ∷ b ∷ []) width low = absurd (omega (arith, low))
right_before (a ∷ b ∷ d ∷ bits) width low = absurd (omega (arith, width))

wrong_at_2 : net_error (one_word Abs) half_adder constant_sum (false ∷ true ∷ []) ≡ 1
unfolding after_rounds value_of outputs_of error_of net_error
wrong_at_2 = refl

right_at_3 : net_error (one_word Abs) half_adder constant_sum (true ∷ true ∷ []) ≡ 0
unfolding after_rounds value_of outputs_of error_of net_error
right_at_3 = refl

at_most_1 : (y : List Bool) → length y ≡ 2 → net_error (one_word Abs) half_adder constant_sum y ≤ 1
at_most_1 [] width = absurd (omega (arith, width))
at_most_1 (a ∷ []) width = absurd (omega (arith, width))
at_most_1 (false ∷ false ∷ []) width = omega (arith, right_at_0)
at_most_1 (true ∷ false ∷ []) width = omega (arith, wrong_at_1)
at_most_1 (false ∷ true ∷ []) width = omega (arith, wrong_at_2)
at_most_1 (true ∷ true ∷ []) width = omega (arith, right_at_3)
at_most_1 (a ∷ b ∷ d ∷ bits) width = absurd (omega (arith, width))

pub returns : goal.returns
returns c = record {
  first = record { width = refl; exceeds = omega (arith, wrong_at_1); first = λ few y width before. right_before y width before };
  not_the_first = λ h. omega (arith, h.first (omega arith) (true ∷ false ∷ []) refl (omega arith), wrong_at_1);
  not_above = λ h. omega (arith, h.exceeds, wrong_at_1);
  too_short = λ h. omega (arith, h.width);
  few_inputs = λ s h. h.not_enough (inl (omega arith));
  greatest = record {
    width = refl;
    attained = wrong_at_1;
    greatest = at_most_1;
    first = λ y width before. let low = right_before y width before in omega (arith, low);
  };
  not_the_first_greatest = λ log h. let earlier = (h.first (omega arith)).first (true ∷ false ∷ []) refl (omega arith) in omega (arith, earlier, wrong_at_1);
  maximum_too_low = λ log h. let within = h.never.within (true ∷ false ∷ []) refl in omega (arith, within, wrong_at_1);
  maximum_too_high = λ log h. omega (arith, h.attained, wrong_at_1);
}
