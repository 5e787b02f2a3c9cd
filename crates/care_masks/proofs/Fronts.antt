-- Lists of patterns that begin with others.
use Rattle.std.proofs.Common.{Bool, List, [], ◌∷◌, ◌++◌, arith}
use Rattle.std.proofs.lemmas.List.{get_or_append_left, length_push}
use Rattle.care_masks.specs.Growing.{IsFrontOf}

-- one more pattern
pub front_pushed : (vectors : List (List Bool)) (x : List Bool) → IsFrontOf vectors (vectors ++ x ∷ [])
front_pushed vectors x = record {
  shorter = omega (arith, length_push vectors x);
  same = λ p low. get_or_append_left vectors (x ∷ []) [] p low;
}

-- no pattern before
pub front_none : (vectors : List (List Bool)) → IsFrontOf [] vectors
front_none vectors = record {
  shorter = omega arith;
  same = λ p low. absurd (omega arith);
}
