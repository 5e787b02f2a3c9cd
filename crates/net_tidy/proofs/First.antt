-- The first number that passes, once one more number did not.
use Rattle.std.proofs.Common.{◌≡◌, ℕ, suc, ◌+◌, ◌-◌, ◌<◌, Bool, false, cond, eqb, Some, List, [], ◌∷◌, length, refl, ap, sym, ◌∙◌, arith}
use Rattle.std.proofs.lemmas.Bool.{ne_eqb}
use Rattle.chain_semantics.specs.TidyRules.{is_empty, first_from}

pub first_from_next : (test : ℕ → Bool) (q n : ℕ) → q < n → test q ≡ false → first_from test (q + 1) (n - (q + 1)) ≡ first_from test q (n - q)
first_from_next test q n h off =
    let e : n - q ≡ suc (n - (q + 1)) = omega arith in
    sym (ap (first_from test q) e ∙ ap (λ b. cond b (Some q) (first_from test (q + 1) (n - (q + 1)))) off)

pub is_empty_length : {X : Type 0} (xs : List X) → is_empty xs ≡ eqb (length xs) 0
is_empty_length [] = refl
is_empty_length (x ∷ xs) = sym (ne_eqb (length (x ∷ xs)) 0 (λ e. omega (arith, e)))
