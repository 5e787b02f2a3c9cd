-- The last of the other literals.
use Rattle.std.specs.Prelude.{ℤ, neg_ℤ, ◌⊎◌, All, AllPairs}
use Rattle.std.proofs.Common.{◌≡◌, ℕ, Bool, true, false, IsTrue, ◌↔◌, ◌+◌, ◌<◌, ◌≤◌, max, Option, Some, None, List, [], ◌∷◌, ◌++◌, take, length, get_or, ap, subst, sym, ◌∙◌, inl, inr, arith}
use Rattle.std.specs.List.{Contains}
use Rattle.std.proofs.lemmas.Bool.{cases_lt}
use Rattle.std.proofs.lemmas.List.{take_more, get_or_read}
use Rattle.std.proofs.lemmas.List.Elements.{All-weaker, All-push, Contains-get_or}
use Rattle.proof_semantics.specs.Clauses.{Clause}
use Rattle.cdcl_core.specs.Trail.{literal_at, IsTrueBelow, IsConsistent}
use Rattle.cdcl_core.specs.Jump.{IsOther, IsLastOther, later_of}

pub after_level : (starts now : List ℕ) (level k place x : ℕ) → starts ≡ now → AllPairs (λ s t. s < t) now → level ≤ k → k < length now → x ≡ get_or starts level x → place < x → place < get_or now k 0
after_level starts now level k place x same rising low within is more =
    let here : x ≡ get_or now level 0 = get_or_read now level x (omega arith) (is ∙ ap (λ xs. get_or xs level x) same) 0 in
    elim (cases_lt level k) [
      | inl below ↦ let rise = rising level k 0 below within in omega arith
      | inr high ↦ let e : k ≡ level = omega arith in rw e (omega arith)
    ]

other_push : (trail : List ℤ) (start : ℕ) (own : ℤ) (C D : Clause) (o : Option ℕ) (x : ℤ) → x ≡ own → IsLastOther trail start own C D o → IsLastOther trail start own C (D ++ x ∷ []) o
other_push trail start own C D None x e h = All-push (λ a. a ≡ own) D x h e
other_push trail start own C D (Some p) x e h = record {
  literal = h.literal;
  inside = h.inside;
  below = h.below;
  within = h.within;
  is = h.is;
  others = All-push (λ a. (a ≡ own) ⊎ IsTrueBelow trail (p + 1) (neg_ℤ a)) D x h.others (inl e);
}

below_later : (trail : List ℤ) (q r : ℕ) (l : ℤ) → q ≤ r → IsTrueBelow trail (q + 1) l → IsTrueBelow trail (r + 1) l
below_later trail q r l low b = let below = b.below in record { place = b.place; below = omega arith; within = b.within; is = b.is }

other_later : (trail : List ℤ) (start : ℕ) (own : ℤ) (C D : Clause) (o : Option ℕ) (x : ℤ) (p : ℕ) → Contains C x → p < start → p < length trail → literal_at trail p ≡ neg_ℤ x
    → IsLastOther trail start own C D o → IsLastOther trail start own C (D ++ x ∷ []) (Some (later_of o p))
other_later trail start own C D None x p in_C low within is h = record {
  literal = x;
  inside = in_C;
  below = low;
  within = within;
  is = is;
  others = All-push (λ a. (a ≡ own) ⊎ IsTrueBelow trail (p + 1) (neg_ℤ a)) D x (All-weaker (λ a. a ≡ own) (λ a. (a ≡ own) ⊎ IsTrueBelow trail (p + 1) (neg_ℤ a)) (λ a e. inl e) D h)
      (inr (record { place = p; below = omega arith; within = within; is = is }));
}
other_later trail start own C D (Some q) x p in_C low within is h =
    let r : ℕ = max q p in
    let all : All (λ a. (a ≡ own) ⊎ IsTrueBelow trail (r + 1) (neg_ℤ a)) (D ++ x ∷ []) =
    All-push (λ a. (a ≡ own) ⊎ IsTrueBelow trail (r + 1) (neg_ℤ a)) D x
    (All-weaker (λ a. (a ≡ own) ⊎ IsTrueBelow trail (q + 1) (neg_ℤ a)) (λ a. (a ≡ own) ⊎ IsTrueBelow trail (r + 1) (neg_ℤ a))
    (λ a o. elim o [ inl e ↦ inl e | inr b ↦ inr (below_later trail q r (neg_ℤ a) (omega arith) b) ]) D h.others)
    (inr (record { place = p; below = omega arith; within = within; is = is })) in
    elim (cases_lt q p) [
      | inl up ↦ let e : r ≡ p = omega arith in subst (λ n. IsOther trail start own C (D ++ x ∷ []) n) (sym e)
          (record { literal = x; inside = in_C; below = low; within = within; is = is; others = subst (λ n. All (λ a. (a ≡ own) ⊎ IsTrueBelow trail (n + 1) (neg_ℤ a)) (D ++ x ∷ [])) e all })
      | inr down ↦ let e : r ≡ q = omega arith in subst (λ n. IsOther trail start own C (D ++ x ∷ []) n) (sym e)
          (record {
            literal = h.literal;
            inside = h.inside;
            below = h.below;
            within = h.within;
            is = h.is;
            others = subst (λ n. All (λ a. (a ≡ own) ⊎ IsTrueBelow trail (n + 1) (neg_ℤ a)) (D ++ x ∷ [])) e all;
          })
    ]

pub step_own : (trail : List ℤ) (start : ℕ) (own : ℤ) (C : Clause) (n : ℕ) (o p : Option ℕ) (x : ℤ) (t : Bool) → n < length C → x ≡ get_or C n x → (IsTrue t ↔ (x ≡ own)) → t ≡ true → p ≡ o
    → IsLastOther trail start own C (take n C) o → IsLastOther trail start own C (take (n + 1) C) p
step_own trail start own C n o p x t within is says e same h =
    rw (same, take_more C n x within) (subst (λ y. IsLastOther trail start own C (take n C ++ y ∷ []) o) is (other_push trail start own C (take n C) o x (says.0 e) h))

pub step_other : (trail : List ℤ) (start : ℕ) (own : ℤ) (C : Clause) (n : ℕ) (o p : Option ℕ) (x : ℤ) (t : Bool) (at r : ℕ) → IsConsistent trail
    → All (λ a. (a ≡ own) ⊎ IsTrueBelow trail start (neg_ℤ a)) C
    → n < length C → x ≡ get_or C n x → (IsTrue t ↔ (x ≡ own)) → t ≡ false → at < length trail → literal_at trail at ≡ neg_ℤ x → r ≡ later_of o at → p ≡ Some r
    → IsLastOther trail start own C (take n C) o → IsLastOther trail start own C (take (n + 1) C) p
step_other trail start own C n o p x t at r c others within is says e at_within at_is later same h =
    let here : (x ≡ own) ⊎ IsTrueBelow trail start (neg_ℤ x) = subst (λ a. (a ≡ own) ⊎ IsTrueBelow trail start (neg_ℤ a)) (sym is) (others n x within) in
    let low : at < start = elim here [
      | inl own_x ↦ let this : t ≡ true = says.1 own_x in absurd (cc)
      | inr b ↦ let place : b.place ≡ at = c.distinct b.place at b.within at_within (b.is ∙ sym at_is) in let below = b.below in omega arith
    ] in
    let in_C : Contains C x = subst (Contains C) (sym is) (Contains-get_or C n x within) in
    rw (same, later, take_more C n x within) (subst (λ y. IsLastOther trail start own C (take n C ++ y ∷ []) (Some (later_of o at))) is
    (other_later trail start own C (take n C) o x at in_C low at_within at_is h))
