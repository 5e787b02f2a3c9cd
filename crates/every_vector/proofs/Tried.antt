-- What the vectors in counting order tell, where all of them were tried.
use Rattle.std.proofs.Common.{◌≡◌, ℕ, ◌^◌, ◌<◌, ◌≤◌, Bool, Option, None, List, [], length, slice_index_or, ap, subst, sym, ◌∙◌, arith}
use Rattle.std.proofs.lemmas.Option.{get_or_from_slice_get}
use Rattle.semantics.specs.Net.{NetValue, input_count}
use Rattle.semantics.specs.declared.metric.Metric.{Metric}
use Rattle.semantics.specs.Error.{number_of, net_error, IsWithin}
use Rattle.semantics.specs.Vectors.{bits_of, all_vectors}
use Rattle.semantics.proofs.Vectors.{each_vector, number_of-bits_of, bits_of-number_of, length-all_vectors, slice_get-all_vectors}
use Rattle.proof_semantics.specs.declared.constraint.Constraint.{Constraint}
use Rattle.proof_semantics.specs.Queries.{IsOver}
use Rattle.lane_bits.specs.InputOrder.{HasEveryVector}
use Rattle.lane_bits.specs.Patterns.{PatternSet}
use Rattle.lane_nets.specs.Lanes.{ReferenceValue}
use Rattle.lane_nets.specs.Errors.{IsFirstOver, FindsFirstOver}
use Rattle.every_vector.specs.Vectors.{IsEveryVectorHeld, IsEachVectorHeld, IsFirstExceeded, IsNoneExceeded}

-- vector j stands at place j
place : (n : ℕ) (vectors : List (List Bool)) → vectors ≡ all_vectors n → (j : ℕ) → j < 2 ^ n → slice_index_or vectors j [] ≡ bits_of n j
place n vectors all j below = ap (λ v. slice_index_or v j []) all ∙ get_or_from_slice_get (all_vectors n) j (bits_of n j) [] (slice_get-all_vectors n j below)

module _ (aim : Constraint) (N M : NetValue) (vectors : List (List Bool)) where
  pub IsFirstExceeded-at : (at : ℕ) (x : List Bool) → IsFirstOver (net_error aim.metric N M) aim.bound vectors at → x ≡ slice_index_or vectors at [] → length x ≡ input_count N
      → IsFirstExceeded aim N M vectors x
  IsFirstExceeded-at at x h is wide =
      let n : ℕ = input_count N in
      record {
        exceeded = record { width = wide; exceeds = subst (λ y. aim.bound < net_error aim.metric N M y) (sym is) h.over };
        first = λ all y width before.
            let within : at < 2 ^ n = omega (arith, h.within, ap length all ∙ length-all_vectors n) in
            let x_is : x ≡ bits_of n at = is ∙ place n vectors all at within in
            let y_is : bits_of n (number_of y) ≡ y = ap (λ m. bits_of m (number_of y)) (sym width) ∙ bits_of-number_of y in
            let earlier : number_of y < at = omega (arith, number_of-bits_of n at within, ap number_of x_is, before) in
            let there : slice_index_or vectors (number_of y) [] ≡ y = place n vectors all (number_of y) (omega (arith, earlier, within)) ∙ y_is in
            subst (λ z. net_error aim.metric N M z ≤ aim.bound) there (h.first (number_of y) earlier);
      }

  pub IsWithin-all : vectors ≡ all_vectors (input_count N) → ((p : ℕ) → p < length vectors → net_error aim.metric N M (slice_index_or vectors p []) ≤ aim.bound) → IsWithin aim.metric N aim.bound M
  IsWithin-all all h =
      let n : ℕ = input_count N in
      let count : length vectors ≡ 2 ^ n = ap length all ∙ length-all_vectors n in
      each_vector n (λ x. net_error aim.metric N M x ≤ aim.bound)
      (λ j below. subst (λ x. net_error aim.metric N M x ≤ aim.bound) (place n vectors all j below) (h j (omega (arith, below, count))))

-- what was found of the vectors that are held
pub found_held : (metric : Metric) (N M A : NetValue) (k : ℕ) (r : ReferenceValue) (found : Option ℕ) → r.exact ≡ N → A ≡ M
    → FindsFirstOver (net_error metric r.exact A) k r.patterns.vectors found → FindsFirstOver (net_error metric N M) k r.patterns.vectors found
found_held metric N M A k r found exact same h =
    subst (λ (B : NetValue). FindsFirstOver (net_error metric N B) k r.patterns.vectors found) same
    (subst (λ (E : NetValue). FindsFirstOver (net_error metric E A) k r.patterns.vectors found) exact h)

-- the right outputs at every vector
pub every_held : (N : NetValue) (n : ℕ) (s : PatternSet) (r : ReferenceValue) → n ≡ input_count N → s ≡ record { inputs = n; vectors = all_vectors n } → r ≡ record { exact = N; patterns = s }
    → IsEveryVectorHeld N r
every_held N n s r count all is = record {
  exact = ap (λ (t : ReferenceValue). t.exact) is;
  all = ap (λ (t : ReferenceValue). t.patterns) is ∙ all ∙ ap (λ m. record { inputs = m; vectors = all_vectors m }) count;
}

-- where every vector was tried, the one that was found is the first
pub over_first : (aim : Constraint) (N M : NetValue) (r : ReferenceValue) (x : List Bool) → IsEveryVectorHeld N r → IsFirstExceeded aim N M r.patterns.vectors x → IsOver aim.metric N M aim.bound x
over_first aim N M r x held found =
    record { width = found.exceeded.width; exceeds = found.exceeded.exceeds; first = λ _. found.first (ap (λ (s : PatternSet). s.vectors) held.all) }

-- the right outputs at every vector, in some order
pub each_held : (N : NetValue) (order : List ℕ) (s : PatternSet) (r : ReferenceValue) → length order ≡ input_count N → s.inputs ≡ length order → HasEveryVector s
    → r ≡ record { exact = N; patterns = s } → IsEachVectorHeld N r
each_held N order s r count inputs every is = record {
  exact = ap (λ (t : ReferenceValue). t.exact) is;
  inputs = ap (λ (t : ReferenceValue). t.patterns.inputs) is ∙ inputs ∙ count;
  each = subst HasEveryVector (sym (ap (λ (t : ReferenceValue). t.patterns) is)) every;
}

-- where the error of none of the vectors that are held exceeds the level, and these are all, no error does
pub within_each : (aim : Constraint) (N M : NetValue) (r : ReferenceValue) → IsEachVectorHeld N r → IsNoneExceeded aim N M r.patterns.vectors None → IsWithin aim.metric N aim.bound M
within_each aim N M r held none x width =
    let at = held.each x (width ∙ sym held.inputs) in
    subst (λ y. net_error aim.metric N M y ≤ aim.bound) at.2 (none at.0 at.1)
