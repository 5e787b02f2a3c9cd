-- The pool at the start, and as it grows by vectors that are new to it.
use Rattle.std.proofs.Common.{◌≡◌, ℕ, ◌^◌, ◌<◌, Bool, List, [], ◌∷◌, ◌++◌, length, get_or, sym, ap, ◌∙◌, subst, inl, inr, arith}
use Rattle.std.specs.List.{AllByRecursion, Contains}
use Rattle.std.proofs.lemmas.Bool.{cases_lt}
use Rattle.std.proofs.lemmas.List.{get_or_append_left, length_push}
use Rattle.std.proofs.Math.Seq.{get_or-append_seam}
use Rattle.std.proofs.lemmas.Option.{get_or_from_slice_get}
use Rattle.std.proofs.lemmas.List.Elements.{All-from_get_or, recursion_from_All, Contains-get_or}
use Rattle.semantics.specs.Net.{NetValue, input_count}
use Rattle.semantics.specs.Error.{number_of}
use Rattle.semantics.specs.Vectors.{bits_of, all_vectors}
use Rattle.semantics.proofs.Vectors.{length-all_vectors, length-bits_of, number_of-bits_of, slice_get-all_vectors}
use Rattle.job_semantics.specs.Shrinking.{AreApart}
use Rattle.lane_bits.specs.Patterns.{PatternSet}
use Rattle.synth_core.specs.AllowedMoves.{IsPool}

-- vector j stands at place j
pub vector_at : (n j : ℕ) → j < 2 ^ n → get_or (all_vectors n) j [] ≡ bits_of n j
vector_at n j low = get_or_from_slice_get (all_vectors n) j (bits_of n j) [] (slice_get-all_vectors n j low)

all_vectors-wide : (n : ℕ) → AllByRecursion (λ x. length x ≡ n) (all_vectors n)
all_vectors-wide n =
    recursion_from_All (λ x. length x ≡ n) (all_vectors n)
    (All-from_get_or (λ x. length x ≡ n) (all_vectors n) [] (λ j low. ap length (vector_at n j (omega (arith, low, length-all_vectors n))) ∙ length-bits_of n j))

-- each vector has a number of its own
all_vectors-apart : (n : ℕ) → AreApart (all_vectors n)
all_vectors-apart n i j before within same =
    let low_i : i < 2 ^ n = omega (arith, length-all_vectors n) in
    let low_j : j < 2 ^ n = omega (arith, length-all_vectors n) in
    let bits : bits_of n i ≡ bits_of n j = sym (vector_at n i low_i) ∙ same ∙ vector_at n j low_j in
    omega (arith, ap number_of bits, number_of-bits_of n i low_i, number_of-bits_of n j low_j)

apart_more : (xs : List (List Bool)) (x : List Bool) → AreApart xs → ¬ Contains xs x → AreApart (xs ++ x ∷ [])
apart_more xs x apart new i j before within same =
    elim (cases_lt j (length xs)) [
      | inl low ↦
          let low_i : i < length xs = omega arith in
          apart i j before low (sym (get_or_append_left xs (x ∷ []) [] i low_i) ∙ same ∙ get_or_append_left xs (x ∷ []) [] j low)
      | inr high ↦
          let last : length xs ≡ j = omega (arith, length_push xs x) in
          let low_i : i < length xs = omega arith in
          let at_j : get_or (xs ++ x ∷ []) j [] ≡ x = subst (λ k. get_or (xs ++ x ∷ []) k [] ≡ x) last (get_or-append_seam xs x [] []) in
          let is : get_or xs i [] ≡ x = sym (get_or_append_left xs (x ∷ []) [] i low_i) ∙ same ∙ at_j in
          new (subst (Contains xs) is (Contains-get_or xs i [] low_i))
    ]

pub each_more : {X : Type 0} (P : X → Type 0) (xs : List X) (y : X) → AllByRecursion P xs → P y → AllByRecursion P (xs ++ y ∷ [])
each_more P [] y h p = (p, tt)
each_more P (x ∷ xs) y h p = (h.0, each_more P xs y h.1 p)

pub IsPool-all : (exact : NetValue) (s : PatternSet) (n : ℕ) → s ≡ record { inputs = n; vectors = all_vectors n } → n ≡ input_count exact → IsPool exact s
IsPool-all exact s n is count =
    let vectors : s.vectors ≡ all_vectors (input_count exact) = ap (λ t. t.vectors) is ∙ ap all_vectors count in
    record {
      inputs = ap (λ t. t.inputs) is ∙ count;
      widths = subst (AllByRecursion (λ x. length x ≡ input_count exact)) (sym vectors) (all_vectors-wide (input_count exact));
      apart = subst AreApart (sym vectors) (all_vectors-apart (input_count exact));
      counting = λ few. vectors;
    }

pub IsPool-more : (exact : NetValue) (s t : PatternSet) (x : List Bool) → IsPool exact s → t ≡ record s { vectors = s.vectors ++ x ∷ [] } → 8 < input_count exact
    → length x ≡ input_count exact → ¬ Contains s.vectors x → IsPool exact t
IsPool-more exact s t x pool is many width new =
    let vectors : t.vectors ≡ s.vectors ++ x ∷ [] = ap (λ u. u.vectors) is in
    record {
      inputs = ap (λ u. u.inputs) is ∙ pool.inputs;
      widths =
          subst (AllByRecursion (λ y. length y ≡ input_count exact)) (sym vectors)
          (each_more (λ y. length y ≡ input_count exact) s.vectors x pool.widths width);
      apart = subst AreApart (sym vectors) (apart_more s.vectors x pool.apart new);
      counting = λ few. absurd (omega (arith, many, few));
    }
