-- The ids that are named, while one more is named.
use Rattle.std.proofs.Common.{◌≡◌, ℕ, suc, ◌<◌, Bool, true, false, cond, ◌||◌, ◌==◌, List, ◌∷◌, length, get_or, drop, drop-cons, refl, sym, ap, ◌∙◌, arith}
use Rattle.std.specs.Prelude.{nat_lt}
use Rattle.std.specs.Ordering.{nat_cmp, is_eq}
use Rattle.std.specs.declared.cmp.Ordering.TheVariants.{Less, Equal, Greater}
use Rattle.std.proofs.lemmas.Bool.{ltb-true, eqb-true}
use Rattle.std.proofs.lemmas.Cmp.{nat_eq_equiv}
use Rattle.trim_semantics.specs.Trimming.{has_id}

-- a comparison finds just the id that is equal
is_same : (a b : ℕ) → is_eq (nat_cmp a b) ≡ (b == a)
is_same a b = at_tests (nat_lt a b) (a == b) refl refl where
  at_tests : (less same : Bool) → nat_lt a b ≡ less → (a == b) ≡ same → is_eq (cond less Less (cond same Equal Greater)) ≡ (b == a)
  at_tests true true low is = let below = ltb-true a b low in let equal = eqb-true a b is in absurd (omega (arith, below, equal))
  at_tests true false low is = sym is ∙ nat_eq_equiv.symm a b
  at_tests false true low is = sym is ∙ nat_eq_equiv.symm a b
  at_tests false false low is = sym is ∙ nat_eq_equiv.symm a b

-- an id is named where it is found at the front of the hints, in the rest of them, or was named before
found_or_rest : (found rest old : Bool) → (rest || cond found true old) ≡ ((found || rest) || old)
found_or_rest true true old = refl
found_or_rest true false old = refl
found_or_rest false rest old = refl

-- one hint more is named, and one fewer is left
pub named_next : (hints : List ℕ) (place next : ℕ) (old new : ℕ → Bool) → next ≡ suc place → place < length hints
    → ((id : ℕ) → new id ≡ cond (is_eq (nat_cmp (get_or hints place 0) id)) true (old id))
    → (id : ℕ) → (has_id (drop next hints) id || new id) ≡ (has_id (drop place hints) id || old id)
named_next hints place next old new at within updated id =
    let hint = get_or hints place 0 in
    ap (λ n. has_id (drop n hints) id || new id) at
    ∙ ap (λ b. has_id (drop (suc place) hints) id || b) (updated id ∙ ap (λ b. cond b true (old id)) (is_same hint id))
    ∙ found_or_rest (id == hint) (has_id (drop (suc place) hints) id) (old id)
    ∙ ap (λ rest. has_id rest id || old id) (sym (drop-cons hints place 0 within))
