-- One step of the loops that push clauses and literals.
use Rattle.std.proofs.Common.{◌≡◌, ℕ, cond, List, [], ◌∷◌, ◌++◌, refl, ap, arith, ℤ, zero, suc, ◌+◌, ◌∙◌, sym, true, add-one, add-zero, append_assoc}
use Rattle.proof_semantics.specs.Clauses.{Clause, has_literal, with_literals}
use Rattle.proof_semantics.specs.NetClauses.{literal_at, implication, implications, variables_from}

pub with_literals_append : (clause : Clause) (xs ys : List ℤ) → with_literals (with_literals clause xs) ys ≡ with_literals clause (xs ++ ys)
with_literals_append clause [] ys = refl
with_literals_append clause (x ∷ xs) ys = with_literals_append (cond (has_literal clause x) clause (clause ++ x ∷ [])) xs ys

-- one more row's variable
pub variables_from_push : (first count : ℕ) → variables_from first (count + 1) ≡ variables_from first count ++ literal_at (first + count) true ∷ []
variables_from_push first count = rw add-one (one_more first count) where
  one_more : (from n : ℕ) → variables_from from (suc n) ≡ variables_from from n ++ literal_at (from + n) true ∷ []
  one_more from zero = ap (λ p. literal_at p true ∷ []) (sym (add-zero from))
  one_more from (suc n) = let place : suc from + n ≡ from + suc n = omega arith in
      ap (λ rest. literal_at from true ∷ rest) (one_more (suc from) n ∙ ap (λ p. variables_from (suc from) n ++ literal_at p true ∷ []) place)

implications_push : (first count : ℕ) (l : ℤ) → implications first (count + 1) l ≡ implications first count l ++ implication (first + count) l ∷ []
implications_push first count l = rw add-one (one_more first count) where
  one_more : (from n : ℕ) → implications from (suc n) l ≡ implications from n l ++ implication (from + n) l ∷ []
  one_more from zero = ap (λ p. implication p l ∷ []) (sym (add-zero from))
  one_more from (suc n) = let place : suc from + n ≡ from + suc n = omega arith in
      ap (λ rest. implication from l ∷ rest) (one_more (suc from) n ∙ ap (λ p. implications (suc from) n l ++ implication p l ∷ []) place)

-- a step of the loop that pushes them
pub implications_step : (start before after : List Clause) (item : Clause) (l : ℤ) (first j : ℕ) → before ≡ start ++ implications first j l
    → item ≡ implication (first + j) l → after ≡ before ++ item ∷ [] → after ≡ start ++ implications first (j + 1) l
implications_step start before after item l first j h k e =
    let more = implications_push first j l in
    let grouped = append_assoc start (implications first j l) (item ∷ []) in
    cc (more, grouped)
