-- The values of literals.
use Rattle.std.proofs.Common.{◌≡◌, ℕ, ◌+◌, ◌-◌, ◌*◌, ◌/◌, ◌%◌, Bool, true, false, not, refl, sym, ap, ◌∙◌, inl, inr, arith}
use Rattle.std.proofs.lemmas.Bool.{eq-eqb, ne_eqb, cases_eq}
use Rattle.semantics.specs.Value.{Assignment}
use Rattle.aiger_semantics.specs.Circuit.{literal_of_variable, negated, literal_value}

pub not_not : (b : Bool) → not (not b) ≡ b
not_not true = refl
not_not false = refl

even_value : (v : Assignment) (literal k : ℕ) → literal % 2 ≡ 0 → literal / 2 ≡ k → literal_value v literal ≡ v k
even_value v literal k even half = rw (eq-eqb (literal % 2) 0 even) (ap v half)

odd_value : (v : Assignment) (literal k : ℕ) → literal % 2 ≡ 1 → literal / 2 ≡ k → literal_value v literal ≡ not (v k)
odd_value v literal k odd half = rw (ne_eqb (literal % 2) 0 (omega arith)) (ap (λ j. not (v j)) half)

pub value-variable : (v : Assignment) (k : ℕ) → literal_value v (literal_of_variable k) ≡ v k
value-variable v k = even_value v (2 * k) k (omega arith) (omega arith)

negated_even : (literal : ℕ) → literal % 2 ≡ 0 → negated literal ≡ literal + 1
negated_even literal even = rw (eq-eqb (literal % 2) 0 even) refl

negated_odd : (literal : ℕ) → literal % 2 ≡ 1 → negated literal ≡ literal - 1
negated_odd literal odd = rw (ne_eqb (literal % 2) 0 (omega arith)) refl

pub value-negated : (v : Assignment) (literal : ℕ) → literal_value v (negated literal) ≡ not (literal_value v literal)
value-negated v literal =
    elim (cases_eq (literal % 2) 0) [
      | inl even ↦
          ap (literal_value v) (negated_even literal even)
          ∙ odd_value v (literal + 1) (literal / 2) (omega arith) (omega arith)
          ∙ ap not (sym (even_value v literal (literal / 2) even refl))
      | inr ne ↦
          let odd : literal % 2 ≡ 1 = omega arith in
          ap (literal_value v) (negated_odd literal odd)
          ∙ even_value v (literal - 1) (literal / 2) (omega arith) (omega arith)
          ∙ sym (ap not (odd_value v literal (literal / 2) odd refl) ∙ not_not (v (literal / 2)))
    ]
