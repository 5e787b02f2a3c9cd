-- by computation, and by cases on the places
use Rattle.std.proofs.Common.{◌≡◌, ℕ, zero, suc, ◌+◌, ◌-◌, ◌<◌, [], ◌∷◌, refl, arith}
use Rattle.std.specs.List.{Contains}
use Rattle.semantics.specs.Net.{table_at}
use Rattle.semantics.specs.Value.{after_rounds, value_of}
use Rattle.semantics.specs.Vectors.{all_vectors}
use Rattle.semantics.specs.Embedding.{StandsAt, IsEmbedded}
use Rattle.semantics.specs.Copies.{IsCopiedBehind}
use Rattle.semantics.specs.Dependence.{DependsOn}
use Rattle.semantics.specs.Dependence.DependsOn.{itself, by_pin}
use Rattle.semantics.specs.Examples.{half_adder, out_of_order, half_adder_within, place_within, half_adder_behind, name_behind}
use Rattle.semantics.proofs.examples.changes.Goals as goal

-- what holds of 0 and 1 holds of each number below 2
below_two : (P : ℕ → Type 0) → P 0 → P 1 → (i : ℕ) → i < 2 → P i
below_two P a b zero h = a
below_two P a b (suc zero) h = b
below_two P a b (suc (suc i)) h = absurd (omega arith)

embedded : IsEmbedded 2 half_adder.tables 3 half_adder_within place_within
embedded = record {
  input = below_two (λ s. place_within s < 6) (omega arith) (omega arith);
  table =
      below_two (λ i. StandsAt place_within (table_at half_adder.tables i) 3 half_adder_within (place_within (2 + i)))
      (record { place = 2; is = refl; within = omega arith; pins = refl; rows = refl; plane = refl })
      (record { place = 0; is = refl; within = omega arith; pins = refl; rows = refl; plane = refl });
}

copied : IsCopiedBehind 3 half_adder.tables 2 half_adder.tables half_adder_behind name_behind
copied = record {
  count = refl;
  input = below_two (λ s. name_behind s < 5) (omega arith) (omega arith);
  table = below_two (λ i. name_behind (2 + i) ≡ 3 + (2 + i)) refl refl;
  pins = below_two _ refl refl;
  rows = below_two _ refl refl;
  plane = below_two _ refl refl;
}

-- input 0, the only pin of table 1, depends on no table
input_depends : (p : ℕ) → Contains (0 ∷ []) p → ¬ DependsOn 1 out_of_order.tables 0 p
input_depends p (zero, within, is) (itself e) = omega (arith, is, e)
input_depends p (zero, within, is) (by_pin past below c d) = omega (arith, is, past)
input_depends p (suc k, within, is) d = omega (arith, within)

not_back : (s : ℕ) → s ≡ 2 → ¬ DependsOn 1 out_of_order.tables 0 s
not_back s two (itself e) = omega (arith, two, e)
not_back s two (by_pin {p = p} past within c d) =
    let place : s - 1 ≡ 1 = omega (arith, two) in
    input_depends p (rw place at c) d

pub returns : goal.returns
unfolding after_rounds value_of all_vectors
returns c = record {
  embedded = embedded;
  embedded_sum = (refl, refl);
  embedded_carry = (refl, refl);
  copied = copied;
  copied_values = (refl, refl);
  reader_before = (refl, refl);
  past_the_end = refl;
  depends = (by_pin {p = 2} (omega arith) (omega arith) (0, omega arith, refl) (itself refl), not_back 2 refl);
  redirected = refl;
  redirected_values = (refl, refl);
  left_out = (refl, refl);
  left_out_values = (refl, refl);
}
