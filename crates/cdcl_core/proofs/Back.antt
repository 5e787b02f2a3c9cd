-- Going back keeps what is settled.
use Rattle.std.specs.Prelude.{ℤ, neg_ℤ, pos, All}
use Rattle.std.proofs.Common.{◌≡◌, ℕ, zero, ◌<◌, ◌≤◌, List, [], ◌∷◌, ◌++◌, take, length, get_or, ap, sym, ◌∙◌, inl, inr, arith}
use Rattle.std.specs.List.{Contains}
use Rattle.std.proofs.lemmas.List.{get_or-take}
use Rattle.std.proofs.lemmas.List.Elements.{All-push, All-weaker}
use Rattle.proof_semantics.specs.Clauses.{Clause}
use Rattle.cdcl_core.specs.Settled.{IsSettledAt, IsOpen}
use Rattle.cdcl_core.specs.Trail.{literal_at, IsTrueBelow, IsConsistent, IsLearned, IsSettledBelow}
use Rattle.cdcl_core.proofs.NewClauses.{not_both}

-- a literal whose negation is true by an entry from t on is open below t
pub open-below : (trail : List ℤ) (t p : ℕ) (l : ℤ) → IsConsistent trail → t ≤ p → p < length trail → literal_at trail p ≡ neg_ℤ l → IsOpen (IsTrueBelow trail t) l
open-below trail t p l c past within is = record {
  not_true = λ this. not_both trail t (length trail) l c this (record { place = p; below = within; within = within; is = is });
  not_false = λ that.
      let same : that.place ≡ p = c.distinct that.place p that.within within (that.is ∙ sym is) in
      let below = that.below in
      omega arith;
}

learned-settled : (trail : List ℤ) (s : ℕ) (C : Clause) (u : ℤ) (at : ℕ) (w : ℤ) (place t : ℕ) → IsConsistent trail → IsLearned trail s C u at
    → Contains C w → place < s → literal_at trail place ≡ neg_ℤ w → t ≤ place → IsSettledAt (IsTrueBelow trail t) C
learned-settled trail s C u at w place t c h in_C low is past =
    let after = h.after in
    let within = h.within in
    inr (record {
      one = u;
      other = w;
      one_inside = h.inside;
      other_inside = in_C;
      one_open = open-below trail t at u c (omega arith) h.within h.is;
      other_open = open-below trail t place w c past (omega arith) is;
      differ = λ e.
          let same : at ≡ place = c.distinct at place h.within (omega arith) (h.is ∙ ap neg_ℤ e ∙ sym is) in
          omega arith;
    })

pub back-learned : (clauses : List Clause) (trail : List ℤ) (starts : List ℕ) (s : ℕ) (C : Clause) (u : ℤ) (at : ℕ) (w : ℤ) (place : ℕ) → IsConsistent trail
    → IsSettledBelow clauses trail starts → IsLearned trail s C u at
    → Contains C w → place < s → literal_at trail place ≡ neg_ℤ w → All (λ t. t ≤ place) starts
    → IsSettledBelow (clauses ++ C ∷ []) trail starts
back-learned clauses trail starts s C u at w place c settled h in_C low is past k d within =
    All-push (IsSettledAt (IsTrueBelow trail (get_or starts k d))) clauses C (settled k d within)
    (learned-settled trail s C u at w place (get_or starts k d) c h in_C low is (past k d within))

-- what is true below t stands in the part that both have
pub true-same : (before after : List ℤ) (q t : ℕ) (l : ℤ) → t ≤ q → q ≤ length after → take q before ≡ take q after → IsTrueBelow before t l → IsTrueBelow after t l
true-same before after q t l low within same h =
    let below = h.below in
    record {
      place = h.place;
      below = h.below;
      within = omega arith;
      is = sym (get_or-take q after h.place (pos zero) (omega arith)) ∙ ap (λ xs. get_or xs h.place (pos zero)) (sym same)
          ∙ get_or-take q before h.place (pos zero) (omega arith) ∙ h.is;
    }

-- settled is a matter of what is true
pub settled-same : (T U : ℤ → Type 0) (C : Clause) → ((l : ℤ) → T l → U l) → ((l : ℤ) → U l → T l) → IsSettledAt T C → IsSettledAt U C
settled-same T U C to from (inl h) = inl (record { literal = h.literal; inside = h.inside; holds = to h.literal h.holds })
settled-same T U C to from (inr h) = inr (record {
  one = h.one;
  other = h.other;
  one_inside = h.one_inside;
  other_inside = h.other_inside;
  one_open = record { not_true = λ y. h.one_open.not_true (from h.one y); not_false = λ y. h.one_open.not_false (from (neg_ℤ h.one) y) };
  other_open = record { not_true = λ y. h.other_open.not_true (from h.other y); not_false = λ y. h.other_open.not_false (from (neg_ℤ h.other) y) };
  differ = h.differ;
})

pub back-cut : (clauses : List Clause) (before after : List ℤ) (starts : List ℕ) (q : ℕ) → All (λ t. t ≤ q) starts → q ≤ length before → q ≤ length after
    → take q before ≡ take q after → IsSettledBelow clauses before starts → IsSettledBelow clauses after starts
back-cut clauses before after starts q low in_before in_after same settled k d within =
    let t : ℕ = get_or starts k d in
    All-weaker (IsSettledAt (IsTrueBelow before t)) (IsSettledAt (IsTrueBelow after t))
    (λ C. settled-same (IsTrueBelow before t) (IsTrueBelow after t) C
    (λ l. true-same before after q t l (low k d within) in_after same)
    (λ l. true-same after before q t l (low k d within) in_before (sym same)))
    clauses (settled k d within)
