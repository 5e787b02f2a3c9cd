-- The places of keys that differ, and of one key more.
use Rattle.std.proofs.Common.{◌≡◌, ℕ, ◌+◌, Bool, true, false, ◌||◌, cond, List, [], ◌∷◌, ◌++◌, length, Option, Some, None, position, refl, ap, sym, ◌∙◌, arith}
use Rattle.std.specs.Cmp.{IsEquivalence}
use Rattle.std.specs.List.{list_any, position_from}
use Rattle.std.specs.Option.{is_some}
use Rattle.std.proofs.lemmas.Bool.{false≢true}
use Rattle.std.proofs.lemmas.Iterator.Adapters.{position_from-zero}
use Rattle.std.proofs.lemmas.Map.Steps.{list_any_congr}

placed-from : {K : Type 0} (test : K → Bool) (i : ℕ) (keys : List K) → is_some (position_from test i keys) ≡ list_any test keys
placed-from test i [] = refl
placed-from {K} test i (key ∷ keys) = at_test (test key) (placed-from test (i + 1) keys)
  where
    at_test : (b : Bool) → is_some (position_from test (i + 1) keys) ≡ list_any test keys
        → is_some (cond b (Some i) (position_from test (i + 1) keys)) ≡ b || list_any test keys
    at_test true rest = refl
    at_test false rest = rest

-- a key has a place where it was added
pub placed : {K : Type 0} (test : K → Bool) (keys : List K) → is_some (position test keys) ≡ list_any test keys
placed test keys = ap is_some (position_from-zero test keys) ∙ placed-from test 0 keys

new-from : {K : Type 0} (test : K → Bool) (i : ℕ) (keys : List K) (key : K) → list_any test keys ≡ false → test key ≡ true → position_from test i (keys ++ key ∷ []) ≡ Some (i + length keys)
new-from test i [] key none passes = ap (λ b. cond b (Some i) None) passes ∙ ap Some (omega arith)
new-from {K} test i (x ∷ xs) key none passes = at_test (test x) none (new-from test (i + 1) xs key)
  where
    at_test : (b : Bool) → b || list_any test xs ≡ false
        → (list_any test xs ≡ false → test key ≡ true → position_from test (i + 1) (xs ++ key ∷ []) ≡ Some (i + 1 + length xs))
        → cond b (Some i) (position_from test (i + 1) (xs ++ key ∷ [])) ≡ Some (i + length (x ∷ xs))
    at_test true none rest = absurd (false≢true (sym none))
    at_test false none rest = rest none passes ∙ ap Some (omega arith)

-- a key that passes alone stands at the end
new-place : {K : Type 0} (test : K → Bool) (keys : List K) (key : K) → list_any test keys ≡ false → test key ≡ true → position test (keys ++ key ∷ []) ≡ Some (length keys)
new-place test keys key none passes = position_from-zero test (keys ++ key ∷ []) ∙ new-from test 0 keys key none passes ∙ ap Some (omega arith)

other-from : {K : Type 0} (test : K → Bool) (i : ℕ) (keys : List K) (key : K) → test key ≡ false → position_from test i (keys ++ key ∷ []) ≡ position_from test i keys
other-from test i [] key fails = ap (λ b. cond b (Some i) None) fails
other-from test i (x ∷ xs) key fails = ap (λ o. cond (test x) (Some i) o) (other-from test (i + 1) xs key fails)

-- the others stay where they are
other-place : {K : Type 0} (test : K → Bool) (keys : List K) (key : K) → test key ≡ false → position test (keys ++ key ∷ []) ≡ position test keys
other-place test keys key fails = position_from-zero test (keys ++ key ∷ []) ∙ other-from test 0 keys key fails ∙ sym (position_from-zero test keys)

-- the places after a new key was put at the end
pub places-next : {K : Type 0} {equal : K → K → Bool} → IsEquivalence equal → (keys : List K) (key : K) (same : K → Bool) (before after : K → Option ℕ)
    → ((q : K) → equal key q ≡ same q) → list_any (equal key) keys ≡ false
    → ((q : K) → before q ≡ position (equal q) keys) → ((q : K) → after q ≡ cond (same q) (Some (length keys)) (before q))
    → (q : K) → after q ≡ position (equal q) (keys ++ key ∷ [])
places-next {K} {equal} laws keys key same before after agree none placed updated q = updated q ∙ at_test (same q) (laws.symm q key ∙ agree q)
  where
    at_test : (b : Bool) → equal q key ≡ b → cond b (Some (length keys)) (before q) ≡ position (equal q) (keys ++ key ∷ [])
    at_test true is = sym (new-place (equal q) keys key (list_any_congr laws q key keys is ∙ none) is)
    at_test false is = placed q ∙ sym (other-place (equal q) keys key is)
