-- A learned clause is new.
use Rattle.std.specs.Prelude.{ℤ, neg_ℤ, ◌⊎◌}
use Rattle.std.proofs.Common.{◌≡◌, ℕ, List, length, ap, sym, ◌∙◌, inl, inr, arith}
use Rattle.std.specs.List.{Contains}
use Rattle.std.proofs.lemmas.List.Elements.{All-contains, All-weaker}
use Rattle.proof_semantics.specs.Clauses.{Clause}
use Rattle.proof_semantics.specs.Conflicts.{IsPartOf, IsNew}
use Rattle.cdcl_core.specs.Settled.{IsSettled, IsSettledAt, IsOpen}
use Rattle.cdcl_core.specs.Trail.{IsTrueBelow, IsConsistent, IsLearned}

-- no literal is true with its negation
pub not_both : (trail : List ℤ) (s t : ℕ) (l : ℤ) → IsConsistent trail → IsTrueBelow trail s l → IsTrueBelow trail t (neg_ℤ l) → ⊥
not_both trail s t l c this that = c.consistent that.place this.place that.within this.within (that.is ∙ ap neg_ℤ (sym this.is))

-- each literal of a learned clause is false
pub learned-false : (trail : List ℤ) (s : ℕ) (C : Clause) (u : ℤ) (at : ℕ) (a : ℤ) → IsLearned trail s C u at → Contains C a → IsTrueBelow trail (length trail) (neg_ℤ a)
learned-false trail s C u at a h in_C =
    elim (All-contains (λ b. (b ≡ u) ⊎ IsTrueBelow trail s (neg_ℤ b)) C a h.others in_C) [
      | inl e ↦ record { place = at; below = h.within; within = h.within; is = h.is ∙ ap neg_ℤ (sym e) }
      | inr low ↦ record { place = low.place; below = low.within; within = low.within; is = low.is }
    ]

-- a literal of the learned clause that is open below the conflict's level is the one of that level
open-is : (trail : List ℤ) (s : ℕ) (C : Clause) (u : ℤ) (at : ℕ) (a : ℤ) → IsLearned trail s C u at → Contains C a → IsOpen (IsTrueBelow trail s) a → a ≡ u
open-is trail s C u at a h in_C o =
    elim (All-contains (λ b. (b ≡ u) ⊎ IsTrueBelow trail s (neg_ℤ b)) C a h.others in_C) [
      | inl e ↦ e
      | inr low ↦ absurd (o.not_false low)
    ]

settled-apart : (trail : List ℤ) (s : ℕ) (C : Clause) (u : ℤ) (at : ℕ) (D : Clause) → IsConsistent trail → IsLearned trail s C u at
    → IsSettledAt (IsTrueBelow trail s) D → IsPartOf D C → ⊥
settled-apart trail s C u at D c h (inl t) part =
    not_both trail s (length trail) t.literal c t.holds (learned-false trail s C u at t.literal h (All-contains (Contains C) D t.literal part t.inside))
settled-apart trail s C u at D c h (inr t) part =
    let one : t.one ≡ u = open-is trail s C u at t.one h (All-contains (Contains C) D t.one part t.one_inside) t.one_open in
    let other : t.other ≡ u = open-is trail s C u at t.other h (All-contains (Contains C) D t.other part t.other_inside) t.other_open in
    t.differ (one ∙ sym other)

pub learned-new : (clauses : List Clause) (trail : List ℤ) (s : ℕ) (C : Clause) (u : ℤ) (at : ℕ) → IsConsistent trail
    → IsSettled (IsTrueBelow trail s) clauses → IsLearned trail s C u at → IsNew clauses C
learned-new clauses trail s C u at c settled h = record {
  some = let inside = h.inside in omega arith;
  plain = λ a this that. not_both trail (length trail) (length trail) (neg_ℤ a) c (learned-false trail s C u at a h this) (learned-false trail s C u at (neg_ℤ a) h that);
  apart = All-weaker (IsSettledAt (IsTrueBelow trail s)) (λ D. IsPartOf D C → ⊥) (λ D. settled-apart trail s C u at D c h) clauses settled;
}
