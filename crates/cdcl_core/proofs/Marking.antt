-- The steps of analysis over marks.
use Rattle.std.specs.Prelude.{ℤ, neg_ℤ, ◌⊎◌, All}
use Rattle.std.proofs.Math.IntN.{neg_ℤ-neg_ℤ}
use Rattle.std.proofs.Common.{◌≡◌, ℕ, Bool, true, false, IsTrue, ◌↔◌, ◌+◌, ◌<◌, ◌≤◌, List, [], ◌∷◌, ◌++◌, take, length, get_or, ap, subst, sym, ◌∙◌, inl, inr, arith}
use Rattle.std.specs.List.{Contains}
use Rattle.std.proofs.lemmas.Bool.{cases_lt, cases_eq}
use Rattle.std.proofs.lemmas.List.{take_more, take_all, get_or-set_same, get_or-set_other}
use Rattle.std.proofs.Math.ListN.{set, length-set}
use Rattle.std.proofs.lemmas.List.Elements.{All-weaker, All-push, Contains-append_left, Contains-push}
use Rattle.proof_semantics.specs.Clauses.{Clause}
use Rattle.cdcl_core.specs.Trail.{literal_at, IsTrueBelow, IsConsistent}
use Rattle.cdcl_core.specs.Explained.{IsMarked}
use Rattle.cdcl_core.specs.Analysis.{mark_at, IsClauseOf}
use Rattle.cdcl_core.specs.Touched.{IsListed, AreTouched}
use Rattle.cdcl_core.proofs.Loops.{IsMarking, IsClauseSoFar}

-- one literal more
marking_more : (trail : List ℤ) (old new : List Bool) (C : Clause) (own : ℤ) (bound n : ℕ) (x : ℤ) → IsMarking trail old new C own bound n → n < length C → x ≡ get_or C n x
    → (x ≡ own) ⊎ IsMarked trail new (neg_ℤ x) → IsMarking trail old new C own bound (n + 1)
marking_more trail old new C own bound n x h within is here = record {
  same_length = h.same_length;
  kept = h.kept;
  below = h.below;
  marked =
      let P : ℤ → Type 0 = λ a. (a ≡ own) ⊎ IsMarked trail new (neg_ℤ a) in
      rw (take_more C n x within) (All-push P (take n C) (get_or C n x) h.marked (subst P is here));
}

pub marking_own : (trail : List ℤ) (old new : List Bool) (C : Clause) (own : ℤ) (bound n : ℕ) (x : ℤ) (t : Bool) → IsMarking trail old new C own bound n → n < length C → x ≡ get_or C n x
    → (IsTrue t ↔ (x ≡ own)) → t ≡ true → IsMarking trail old new C own bound (n + 1)
marking_own trail old new C own bound n x t h within is says e = marking_more trail old new C own bound n x h within is (inl (says.0 e))

mark_kept : (marks : List Bool) (p q : ℕ) → p < length marks → mark_at marks q ≡ true → mark_at (set marks p true) q ≡ true
mark_kept marks p q within m = elim (cases_eq q p) [
  | inl e ↦ subst (λ k. get_or (set marks p true) k false ≡ true) (sym e) (get_or-set_same marks p true false within)
  | inr other ↦ get_or-set_other marks p q true false other ∙ m
]

-- a mark more
marked_set : (trail : List ℤ) (marks : List Bool) (p : ℕ) (l : ℤ) → p < length marks → IsMarked trail marks l → IsMarked trail (set marks p true) l
marked_set trail marks p l within m = record { place = m.place; within = m.within; marked = mark_kept marks p m.place within m.marked; is = m.is }

pub marking_set : (trail : List ℤ) (old marks : List Bool) (C : Clause) (own : ℤ) (bound n : ℕ) (x : ℤ) (t : Bool) (p : ℕ) → IsConsistent trail → length trail ≤ length old
    → IsMarking trail old marks C own bound n → n < length C → x ≡ get_or C n x → All (λ a. (a ≡ own) ⊎ IsTrueBelow trail bound (neg_ℤ a)) C
    → (IsTrue t ↔ (x ≡ own)) → t ≡ false → p < length trail → literal_at trail p ≡ neg_ℤ x → IsMarking trail old (set marks p true) C own bound (n + 1)
marking_set trail old marks C own bound n x t p c len h within is others says e p_within p_is =
    let same = h.same_length in
    let inside : p < length marks = omega arith in
    let here : (x ≡ own) ⊎ IsTrueBelow trail bound (neg_ℤ x) = subst (λ a. (a ≡ own) ⊎ IsTrueBelow trail bound (neg_ℤ a)) (sym is) (others n x within) in
    let low : p < bound = elim here [
      | inl own_x ↦ let this : t ≡ true = says.1 own_x in absurd (cc)
      | inr b ↦ let place : b.place ≡ p = c.distinct b.place p b.within p_within (b.is ∙ sym p_is) in let below = b.below in omega arith
    ] in
    let set_here : get_or (set marks p true) p false ≡ true = get_or-set_same marks p true false inside in
    marking_more trail old (set marks p true) C own bound n x (record {
      same_length = omega (arith, length-set marks p true);
      kept = λ q m. mark_kept marks p q inside (h.kept q m);
      below = λ q high m. h.below q high (sym (get_or-set_other marks p q true false (λ e2. omega arith)) ∙ m);
      marked = All-weaker (λ a. (a ≡ own) ⊎ IsMarked trail marks (neg_ℤ a)) (λ a. (a ≡ own) ⊎ IsMarked trail (set marks p true) (neg_ℤ a))
          (λ a o. elim o [
            | inl e1 ↦ inl e1
            | inr m ↦ inr (marked_set trail marks p (neg_ℤ a) inside m)
          ]) (take n C) h.marked;
    }) within is (inr (record { place = p; within = p_within; marked = set_here; is = p_is }))

pub marking_done : (trail : List ℤ) (old marks : List Bool) (C : Clause) (own : ℤ) (bound n : ℕ) → IsMarking trail old marks C own bound n → length C ≤ n
    → All (λ a. (a ≡ own) ⊎ IsMarked trail marks (neg_ℤ a)) C
marking_done trail old marks C own bound n h past = subst (All (λ a. (a ≡ own) ⊎ IsMarked trail marks (neg_ℤ a))) (take_all n C past) h.marked

-- a place that is not marked or that no entry has
pub clause_skipped : (trail : List ℤ) (marks : List Bool) (touched : List ℕ) (C : Clause) (i : ℕ) → IsClauseSoFar trail marks touched C i
    → (get_or touched i 0 < length trail → mark_at marks (get_or touched i 0) ≡ true → ⊥) → IsClauseSoFar trail marks touched C (i + 1)
clause_skipped trail marks touched C i h never = record {
  each = λ k low within m. elim (cases_lt k i) [
    | inl before ↦ h.each k before within m
    | inr high ↦
        let here : k ≡ i = omega arith in
        absurd (never (subst (λ j. get_or touched j 0 < length trail) here within) (subst (λ j. mark_at marks (get_or touched j 0) ≡ true) here m))
  ];
  all = h.all;
}

pub clause_marked : (trail : List ℤ) (marks : List Bool) (touched : List ℕ) (C D : Clause) (i p : ℕ) (l n : ℤ) → IsClauseSoFar trail marks touched C i → p ≡ get_or touched i 0
    → mark_at marks p ≡ true → p < length trail
    → l ≡ literal_at trail p → n ≡ neg_ℤ l → D ≡ C ++ n ∷ [] → IsClauseSoFar trail marks touched D (i + 1)
clause_marked trail marks touched C D i p l n h place marked within is negated e =
    let x : ℤ = neg_ℤ (literal_at trail p) in
    let same : n ≡ x = negated ∙ ap neg_ℤ is in
    rw (e, same) (record {
      each = λ k low in_trail m. elim (cases_lt k i) [
        | inl before ↦ Contains-append_left C (x ∷ []) (neg_ℤ (literal_at trail (get_or touched k 0))) (h.each k before in_trail m)
        | inr high ↦
            let here : k ≡ i = omega arith in
            let same_place : p ≡ get_or touched k 0 = place ∙ ap (λ j. get_or touched j 0) (sym here) in
            subst (λ q. Contains (C ++ x ∷ []) (neg_ℤ (literal_at trail q))) same_place (Contains-push C x)
      ];
      all = All-push (λ a. IsMarked trail marks (neg_ℤ a)) C x h.all (record { place = p; within = within; marked = marked; is = sym (neg_ℤ-neg_ℤ (literal_at trail p)) });
    })

-- each marked place is listed
pub clause_whole : (trail : List ℤ) (marks : List Bool) (touched : List ℕ) (C : Clause) (i : ℕ) → IsClauseSoFar trail marks touched C i → AreTouched marks touched → length touched ≤ i
    → IsClauseOf trail marks C
clause_whole trail marks touched C i h t past = record {
  each = λ p within m.
      let l : IsListed touched 0 p = t.listed p m in
      let inside = l.within in
      subst (λ q. Contains C (neg_ℤ (literal_at trail q))) l.is
      (h.each l.at (omega arith) (subst (λ q. q < length trail) (sym l.is) within) (subst (λ q. mark_at marks q ≡ true) (sym l.is) m));
  all = h.all;
}
