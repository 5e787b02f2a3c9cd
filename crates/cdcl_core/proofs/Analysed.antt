-- From marks to the learned clause.
use Rattle.std.specs.Prelude.{ℤ, neg_ℤ, ◌⊎◌}
use Rattle.std.proofs.Math.IntN.{neg_ℤ-neg_ℤ}
use Rattle.std.proofs.Common.{◌≡◌, ℕ, Bool, List, length, ap, sym, ◌∙◌, inl, inr}
use Rattle.std.proofs.lemmas.Bool.{cases_lt}
use Rattle.std.proofs.lemmas.List.Elements.{All-weaker, All-contains}
use Rattle.proof_semantics.specs.Clauses.{Clause}
use Rattle.cdcl_core.specs.Settled.{IsSettledAt, IsFalse}
use Rattle.cdcl_core.specs.Trail.{literal_at, IsTrueBelow, IsConsistent, IsLearned}
use Rattle.cdcl_core.specs.Explained.{Holds, IsMarked}
use Rattle.cdcl_core.specs.Analysis.{IsOneFrom, IsClauseOf}
use Rattle.cdcl_core.proofs.Loops.{HasEntryFrom}
use Rattle.cdcl_core.proofs.NewClauses.{not_both}

pub conflict_reaches : (trail : List ℤ) (s : ℕ) (D : Clause) → IsConsistent trail → IsSettledAt (IsTrueBelow trail s) D → IsFalse (Holds trail) D → HasEntryFrom trail s D
conflict_reaches trail s D c (inl h) f = absurd (not_both trail s (length trail) h.literal c h.holds (All-contains (λ a. Holds trail (neg_ℤ a)) D h.literal f h.inside))
conflict_reaches trail s D c (inr h) f =
    let t : Holds trail (neg_ℤ h.one) = All-contains (λ a. Holds trail (neg_ℤ a)) D h.one f h.one_inside in
    elim (cases_lt t.place s) [
      | inl low ↦ absurd (h.one_open.not_false (record { place = t.place; below = low; within = t.within; is = t.is }))
      | inr high ↦ record { literal = h.one; inside = h.one_inside; place = t.place; from = high; within = t.within; is = t.is }
    ]

pub clause_false : (trail : List ℤ) (marks : List Bool) (C : Clause) → IsClauseOf trail marks C → IsFalse (Holds trail) C
clause_false trail marks C h = All-weaker (λ a. IsMarked trail marks (neg_ℤ a)) (λ a. Holds trail (neg_ℤ a))
    (λ a m. record { place = m.place; below = m.within; within = m.within; is = m.is }) C h.all

pub clause_learned : (trail : List ℤ) (marks : List Bool) (s at : ℕ) (C : Clause) → IsOneFrom trail marks s at → IsClauseOf trail marks C
    → IsLearned trail s C (neg_ℤ (literal_at trail at)) at
clause_learned trail marks s at C one h = record {
  inside = h.each at one.within one.marked;
  after = one.from;
  within = one.within;
  is = sym (neg_ℤ-neg_ℤ (literal_at trail at));
  others = All-weaker (λ a. IsMarked trail marks (neg_ℤ a)) (λ a. (a ≡ neg_ℤ (literal_at trail at)) ⊎ IsTrueBelow trail s (neg_ℤ a))
      (λ a m. elim (cases_lt m.place s) [
        | inl low ↦ inr (record { place = m.place; below = low; within = m.within; is = m.is })
        | inr high ↦
            let here : m.place ≡ at = one.only m.place high m.within m.marked in
            inl (sym (neg_ℤ-neg_ℤ a) ∙ ap neg_ℤ (sym m.is) ∙ ap (λ p. neg_ℤ (literal_at trail p)) here)
      ]) C h.all;
}
