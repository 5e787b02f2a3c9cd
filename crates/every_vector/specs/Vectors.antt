-- What input vectors tell that are held with the right outputs: the first whose error exceeds a level, and
-- the first of those with the greatest error.
use Rattle.std.specs.Prelude.{◌≡◌, ℕ, ◌<◌, ◌≤◌, Bool, Option, MatchOption, List, [], length, slice_index_or}
use Rattle.semantics.specs.Net.{NetValue, input_count}
use Rattle.semantics.specs.Error.{number_of, net_error, IsWithin}
use Rattle.semantics.specs.Vectors.{all_vectors}
use Rattle.proof_semantics.specs.declared.constraint.Constraint.{Constraint}
use Rattle.lane_bits.specs.InputOrder.{HasEveryVector}
use Rattle.lane_nets.specs.Lanes.{ReferenceValue}
use Rattle.level_answers.specs.Levels.{IsExceededAt}

-- x is the first vector of the list at which f is greatest, and `most` is the value of f at x
pub record IsFirstGreatestIn (f : List Bool → ℕ) (vectors : List (List Bool)) (most : ℕ)
    (x : List Bool) : Type 0 where
  pub at : ℕ
  pub within : at < length vectors
  pub is : x ≡ slice_index_or vectors at []
  pub attained : f x ≡ most
  pub greatest : (k : ℕ) → k < length vectors → f (slice_index_or vectors k []) ≤ most
  pub first : (k : ℕ) → k < at → f (slice_index_or vectors k []) < most

-- x is an input vector whose error exceeds the level; where the vectors that were tried are all in counting
-- order, it is the first
pub record IsFirstExceeded (aim : Constraint) (exact approx : NetValue) (vectors : List (List Bool))
    (x : List Bool) : Type 0 where
  pub exceeded : IsExceededAt aim exact approx x
  pub first : vectors ≡ all_vectors (input_count exact) → (y : List Bool) → length y ≡ input_count exact
      → number_of y < number_of x → net_error aim.metric exact approx y ≤ aim.bound

-- these vectors were tried; where they are all vectors in counting order and none exceeds the level, no
-- error does
abbrev pub IsTried : Constraint → NetValue → NetValue → List (List Bool) → Option (List Bool) → Type 0
IsTried aim exact approx vectors found = MatchOption found
    (vectors ≡ all_vectors (input_count exact) → IsWithin aim.metric exact aim.bound approx)
    (IsFirstExceeded aim exact approx vectors)

-- where no vector was found, the error of none of these vectors exceeds the level
abbrev pub IsNoneExceeded : Constraint → NetValue → NetValue → List (List Bool) → Option (List Bool) → Type 0
IsNoneExceeded aim exact approx vectors found = MatchOption found ((p : ℕ) → p < length vectors
    → net_error aim.metric exact approx (slice_index_or vectors p []) ≤ aim.bound)
    (λ x. Unit {0})

-- a net and all its input vectors in counting order
pub record IsEveryVectorHeld (N : NetValue) (held : ReferenceValue) : Type 0 where
  pub exact : held.exact ≡ N
  pub all : held.patterns ≡ record { inputs = input_count N; vectors = all_vectors (input_count N) }

-- every vector is held, or there are more than `most` inputs
abbrev pub IsEveryVectorHeldUpTo : ℕ → NetValue → Option ReferenceValue → Type 0
IsEveryVectorHeldUpTo most N held = MatchOption held (most < input_count N) (IsEveryVectorHeld N)

-- a net and all its input vectors, in some order
pub record IsEachVectorHeld (N : NetValue) (held : ReferenceValue) : Type 0 where
  pub exact : held.exact ≡ N
  pub inputs : held.patterns.inputs ≡ input_count N
  pub each : HasEveryVector held.patterns

-- each vector is held, or there are more than `most` inputs
abbrev pub IsEachVectorHeldUpTo : ℕ → NetValue → Option ReferenceValue → Type 0
IsEachVectorHeldUpTo most N held = MatchOption held (most < input_count N) (IsEachVectorHeld N)
