-- The first vector of a list at which the error is greatest.
use Rattle.std.proofs.Common.{◌≡◌, ℕ, ◌^◌, ◌<◌, ◌≤◌, Bool, List, [], length, slice_index_or, subst, ap, sym, ◌∙◌, arith}
use Rattle.std.proofs.lemmas.Nat.{pow_pos}
use Rattle.std.proofs.lemmas.Option.{get_or_from_slice_get}
use Rattle.semantics.specs.Net.{NetValue, input_count}
use Rattle.semantics.specs.declared.metric.Metric.{Metric}
use Rattle.semantics.specs.Error.{number_of, net_error}
use Rattle.semantics.specs.Vectors.{bits_of, all_vectors, IsFirstGreatestAt}
use Rattle.semantics.proofs.Vectors.{length-bits_of, number_of-bits_of, each_vector, bits_of-number_of, length-all_vectors, slice_get-all_vectors}
use Rattle.lane_bits.specs.Patterns.{PatternSet}
use Rattle.lane_nets.specs.Errors.{IsFirstGreatest}
use Rattle.lane_nets.specs.Lanes.{ReferenceValue}
use Rattle.every_vector.specs.Vectors.{IsFirstGreatestIn, IsEveryVectorHeld}

-- the vector at the place that was found
pub IsFirstGreatestIn-at : (metric : Metric) (N M : NetValue) (vectors : List (List Bool)) (most at : ℕ) (x : List Bool) → IsFirstGreatest (net_error metric N M) vectors most at
    → x ≡ slice_index_or vectors at [] → IsFirstGreatestIn (net_error metric N M) vectors most x
IsFirstGreatestIn-at metric N M vectors most at x h is = record {
  at = at;
  within = h.within;
  is = is;
  attained = ap (net_error metric N M) is ∙ h.attained;
  greatest = h.greatest;
  first = h.first;
}

-- where the list has all vectors in counting order
pub IsFirstGreatestAt-all : (n : ℕ) (f : List Bool → ℕ) (vectors : List (List Bool)) (most : ℕ) (x : List Bool) → vectors ≡ all_vectors n → IsFirstGreatestIn f vectors most x
    → IsFirstGreatestAt n f most x
IsFirstGreatestAt-all n f vectors most x all h =
    let count : length vectors ≡ 2 ^ n = ap length all ∙ length-all_vectors n in
    let place : (k : ℕ) → k < 2 ^ n → slice_index_or vectors k [] ≡ bits_of n k =
    λ k below. ap (λ v. slice_index_or v k []) all ∙ get_or_from_slice_get (all_vectors n) k (bits_of n k) [] (slice_get-all_vectors n k below) in
    let within : h.at < 2 ^ n = omega (arith, h.within, count) in
    let x_is : x ≡ bits_of n h.at = h.is ∙ place h.at within in
    let at_is : number_of (bits_of n h.at) ≡ h.at = number_of-bits_of n h.at within in
    record {
      width = ap length x_is ∙ length-bits_of n h.at;
      attained = h.attained;
      greatest = each_vector n (λ y. f y ≤ most) (λ k below. subst (λ y. f y ≤ most) (place k below) (h.greatest k (omega (arith, below, count))));
      first = λ y width before.
          let y_is : bits_of n (number_of y) ≡ y = ap (λ k. bits_of k (number_of y)) (sym width) ∙ bits_of-number_of y in
          let earlier : number_of y < h.at = omega (arith, at_is, ap number_of x_is, before) in
          subst (λ z. f z < most) (place (number_of y) (omega (arith, earlier, within)) ∙ y_is) (h.first (number_of y) earlier);
    }

-- where the right outputs at every vector are held
pub every_some : (N : NetValue) (r : ReferenceValue) → IsEveryVectorHeld N r → 0 < length r.patterns.vectors
every_some N r held =
    let count : length r.patterns.vectors ≡ 2 ^ input_count N = ap (λ (s : PatternSet). length s.vectors) held.all ∙ length-all_vectors (input_count N) in
    omega (arith, count, pow_pos (input_count N))

pub every_greatest : (metric : Metric) (N M : NetValue) (r : ReferenceValue) (most : ℕ) (x : List Bool) → IsEveryVectorHeld N r
    → IsFirstGreatestIn (net_error metric N M) r.patterns.vectors most x → IsFirstGreatestAt (input_count N) (net_error metric N M) most x
every_greatest metric N M r most x held best =
    IsFirstGreatestAt-all (input_count N) (net_error metric N M) r.patterns.vectors most x (ap (λ (s : PatternSet). s.vectors) held.all) best
