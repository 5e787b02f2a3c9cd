-- When the triple falls.
use Rattle.std.proofs.Common.{◌≡◌, ℕ, ◌<◌, ◌≤◌, Bool, true, false, eqb, not, List, [], ◌∷◌, map, length, refl, ap, sym, ◌∙◌, inl, inr, arith}
use Rattle.std.specs.Prelude.{◌&&◌}
use Rattle.std.specs.List.{sum_by}
use Rattle.std.proofs.lemmas.Bool.{cases_lt, and_parts, or_cases, eqb-true, false≢true}
use Rattle.std.proofs.lemmas.List.Sums.{sum_by-cons}
use Rattle.semantics.specs.Net.{TableValue}
use Rattle.chain_semantics.specs.TidyRules.{is_empty, has, is_canonical, is_canonical_rows}
use Rattle.chain_semantics.proofs.TidyMeasure.{unless, one_if}
use Rattle.chain_semantics.specs.TidyLevels.{greatest, pin_levels, is_bare, Triple, IsBelow}

pub below-levels : (a b : Triple) → a.size ≤ b.size → a.levels < b.levels → IsBelow a b
below-levels a b size levels =
    elim (cases_lt a.size b.size) [
      | inl less ↦ inl less
      | inr same ↦ inr (omega arith, inl levels)
    ]

pub below-bare : (a b : Triple) → a.size ≤ b.size → a.levels ≤ b.levels → a.bare < b.bare → IsBelow a b
below-bare a b size levels bare =
    elim (cases_lt a.size b.size) [
      | inl less ↦ inl less
      | inr same ↦ elim (cases_lt a.levels b.levels) [
        | inl less ↦ inr (omega arith, inl less)
        | inr equal ↦ inr (omega arith, inr (omega arith, bare))
      ]
    ]

pub cost_cases : (b c : Bool) → unless b < unless c → (b ≡ true) × (c ≡ false)
cost_cases true true h = absurd (omega arith)
cost_cases true false h = (refl, refl)
cost_cases false true h = absurd (omega arith)
cost_cases false false h = absurd (omega arith)

pub no_elements : {X : Type 0} (xs : List X) → is_empty xs ≡ true → xs ≡ []
no_elements [] e = refl
no_elements (x ∷ xs) e = absurd (false≢true e)

pub no_length : {X : Type 0} (xs : List X) → length xs ≡ 0 → xs ≡ []
no_length [] e = refl
no_length (x ∷ xs) e = absurd (omega arith)

pub canonical-pins : (t : TableValue) → is_canonical t ≡ true → t.pins ≡ []
canonical-pins t e = no_elements t.pins (and_parts (is_empty t.pins) t.plane (and_parts (is_empty t.pins && t.plane) (is_canonical_rows t.rows) e).0).0

pub bare-canonical : (t : TableValue) → is_canonical t ≡ true → one_if (is_bare t) ≡ 0
bare-canonical t e = ap (λ b. one_if (b && not (is_canonical t))) (ap is_empty (canonical-pins t e)) ∙ ap (λ b. one_if (not b)) e

pub bare-other : (t : TableValue) → t.pins ≡ [] → is_canonical t ≡ false → one_if (is_bare t) ≡ 1
bare-other t pins e = ap (λ b. one_if (b && not (is_canonical t))) (ap is_empty pins) ∙ ap (λ b. one_if (not b)) e

levels_of_pins : (level : ℕ → ℕ) (tables : List TableValue) → pin_levels level tables ≡ sum_by (sum_by level) (map (λ t. t.pins) tables)
levels_of_pins level [] = refl
levels_of_pins level (t ∷ tables) =
    omega (arith, sum_by-cons (λ u. sum_by level u.pins) t tables, sum_by-cons (sum_by level) t.pins (map (λ u. u.pins) tables), levels_of_pins level tables)

pub levels-by_pins : (level : ℕ → ℕ) (a b : List TableValue) → map (λ t. t.pins) a ≡ map (λ t. t.pins) b → pin_levels level a ≡ pin_levels level b
levels-by_pins level a b e = levels_of_pins level a ∙ ap (sum_by (sum_by level)) e ∙ sym (levels_of_pins level b)

pub has-greatest : (f : ℕ → ℕ) (pins : List ℕ) (s : ℕ) → has pins s ≡ true → f s ≤ greatest f pins
has-greatest f [] s e = absurd (false≢true e)
has-greatest f (p ∷ pins) s e =
    elim (or_cases (eqb s p) (has pins s) e) [
      | inl here ↦ let same : f s ≡ f p = ap f (eqb-true s p here) in omega arith
      | inr later ↦ omega (arith, has-greatest f pins s later)
    ]
