-- The steps of the trail keep its invariants.
use Rattle.std.specs.Prelude.{ℤ, neg_ℤ, pos, ◌⊎◌, All, AllPairs}
use Rattle.std.proofs.Common.{◌≡◌, ℕ, zero, ◌<◌, ◌≤◌, Option, Some, None, List, [], ◌∷◌, ◌++◌, take, length, get_or, ap, subst, sym, ◌∙◌, inl, inr, length-append, arith}
use Rattle.std.specs.List.{Contains}
use Rattle.std.proofs.lemmas.Bool.{cases_lt}
use Rattle.std.proofs.lemmas.List.{get_or-take, take-append-le, length-take}
use Rattle.std.proofs.Math.ListN.{get_or-append}
use Rattle.std.proofs.Math.Seq.{take-length, get_or-append_seam}
use Rattle.std.proofs.lemmas.List.Elements.{All-weaker, All-push, Contains-append_left, Contains-push}
use Rattle.std.proofs.lemmas.List.Quantifiers.{all_pairs_push}
use Rattle.std.proofs.lemmas.Grind.{get_or_default_zero}
use Rattle.proof_semantics.specs.Clauses.{Clause}
use Rattle.proof_semantics.specs.Conflicts.{clause_at}
use Rattle.cdcl_core.specs.Trail.{literal_at, reason_at, IsTrueBelow, IsReason, IsTrail, AreLevels}
use Rattle.cdcl_core.specs.Explained.{Holds}
use Rattle.cdcl_core.proofs.Back.{true-same}

-- places below q where both lists begin with the same
at-same : (before after : List ℤ) (q k : ℕ) → k < q → take q before ≡ take q after → literal_at before k ≡ literal_at after k
at-same before after q k low same =
    sym (get_or-take q before k (pos zero) low) ∙ ap (λ xs. get_or xs k (pos zero)) same ∙ get_or-take q after k (pos zero) low

-- a reason stands as far as the lists are the same
reason-same : (clauses : List Clause) (before after : List ℤ) (q i j : ℕ) → i < q → q ≤ length after → take q before ≡ take q after → IsReason clauses before i j → IsReason clauses after i j
reason-same clauses before after q i j low within same h =
    let e : literal_at before i ≡ literal_at after i = at-same before after q i low same in
    record {
      held = h.held;
      inside = subst (Contains (clause_at clauses j)) e h.inside;
      others = All-weaker (λ a. (a ≡ literal_at before i) ⊎ IsTrueBelow before i (neg_ℤ a)) (λ a. (a ≡ literal_at after i) ⊎ IsTrueBelow after i (neg_ℤ a))
          (λ a o. elim o [
            | inl this ↦ inl (this ∙ e)
            | inr t ↦ inr (true-same before after q i (neg_ℤ a) (omega arith) within same t)
          ]) (clause_at clauses j) h.others;
    }

-- one entry more, with a reason or as the start of a level
trail-push : (clauses : List Clause) (trail : List ℤ) (reasons : List (Option ℕ)) (starts after : List ℕ) (l : ℤ) (r : Option ℕ) → IsTrail clauses trail reasons starts
    → ((s : ℕ) → Contains starts s → Contains after s) → ((j : ℕ) → r ≡ Some j → IsReason clauses (trail ++ l ∷ []) (length trail) j) → (r ≡ None → Contains after (length trail))
    → IsTrail clauses (trail ++ l ∷ []) (reasons ++ r ∷ []) after
trail-push clauses trail reasons starts after l r h more reason decision = record {
  same_length = let e = h.same_length in omega (arith, length-append reasons (r ∷ []), length-append trail (l ∷ []));
  reason = λ i j within is. elim (cases_lt i (length trail)) [
    | inl low ↦
        let e = h.same_length in
        reason-same clauses trail (trail ++ l ∷ []) (length trail) i j low (omega (arith, length-append trail (l ∷ [])))
        (sym (take-append-le (length trail) trail (l ∷ []) (omega arith)))
        (h.reason i j low (sym (get_or-append reasons (r ∷ []) None i (omega arith)) ∙ is))
    | inr high ↦
        let e = h.same_length in
        let last : i ≡ length trail = omega (arith, length-append trail (l ∷ [])) in
        let here : i ≡ length reasons = omega arith in
        let this : r ≡ Some j = sym (get_or-append_seam reasons r [] None) ∙ ap (reason_at (reasons ++ r ∷ [])) (sym here) ∙ is in
        rw last (reason j this)
  ];
  decision = λ i within is. elim (cases_lt i (length trail)) [
    | inl low ↦
        let e = h.same_length in
        more i (h.decision i low (sym (get_or-append reasons (r ∷ []) None i (omega arith)) ∙ is))
    | inr high ↦
        let e = h.same_length in
        let last : i ≡ length trail = omega (arith, length-append trail (l ∷ [])) in
        let here : i ≡ length reasons = omega arith in
        let this : r ≡ None = sym (get_or-append_seam reasons r [] None) ∙ ap (reason_at (reasons ++ r ∷ [])) (sym here) ∙ is in
        rw last (decision this)
  ];
}

pub trail-implied : (clauses : List Clause) (trail : List ℤ) (reasons : List (Option ℕ)) (starts : List ℕ) (l : ℤ) (j : ℕ) → IsTrail clauses trail reasons starts
    → j < length clauses → Contains (clause_at clauses j) l → All (λ a. (a ≡ l) ⊎ Holds trail (neg_ℤ a)) (clause_at clauses j)
    → IsTrail clauses (trail ++ l ∷ []) (reasons ++ Some j ∷ []) starts
trail-implied clauses trail reasons starts l j h held inside others =
    trail-push clauses trail reasons starts starts l (Some j) h (λ s in_starts. in_starts)
    (λ k is.
    let same : j ≡ k = cc in
    let e : literal_at (trail ++ l ∷ []) (length trail) ≡ l = get_or-append_seam trail l [] (pos zero) in
    subst (IsReason clauses (trail ++ l ∷ []) (length trail)) same (record {
      held = held;
      inside = subst (Contains (clause_at clauses j)) (sym e) inside;
      others = All-weaker (λ a. (a ≡ l) ⊎ Holds trail (neg_ℤ a)) (λ a. (a ≡ literal_at (trail ++ l ∷ []) (length trail)) ⊎ IsTrueBelow (trail ++ l ∷ []) (length trail) (neg_ℤ a))
          (λ a o. elim o [
            | inl this ↦ inl (this ∙ sym e)
            | inr t ↦ inr (true-same trail (trail ++ l ∷ []) (length trail) (length trail) (neg_ℤ a) (omega arith) (omega (arith, length-append trail (l ∷ [])))
                (sym (take-append-le (length trail) trail (l ∷ []) (omega arith))) t)
          ]) (clause_at clauses j) others;
    }))
    (λ is. cc)

pub trail-decided : (clauses : List Clause) (trail : List ℤ) (reasons : List (Option ℕ)) (starts : List ℕ) (l : ℤ) → IsTrail clauses trail reasons starts
    → IsTrail clauses (trail ++ l ∷ []) (reasons ++ None ∷ []) (starts ++ length trail ∷ [])
trail-decided clauses trail reasons starts l h =
    trail-push clauses trail reasons starts (starts ++ length trail ∷ []) l None h (λ s. Contains-append_left starts (length trail ∷ []) s)
    (λ j is. cc) (λ is. Contains-push starts (length trail))

pub levels-decided : (trail : List ℤ) (starts : List ℕ) (l : ℤ) → AreLevels trail starts → AreLevels (trail ++ l ∷ []) (starts ++ length trail ∷ [])
levels-decided trail starts l h = record {
  rising = all_pairs_push (λ s t. s < t) starts (length trail) h.rising (λ k d within. h.within k d within);
  within = All-push (λ s. s < length (trail ++ l ∷ [])) starts (length trail)
      (All-weaker (λ s. s < length trail) (λ s. s < length (trail ++ l ∷ [])) (λ s low. omega (arith, length-append trail (l ∷ []))) starts h.within)
      (omega (arith, length-append trail (l ∷ [])));
}

-- a start below that of level m is one of those before
kept-start : (starts : List ℕ) (m i : ℕ) → AllPairs (λ s t. s < t) starts → m < length starts → i < get_or starts m 0 → Contains starts i → Contains (take m starts) i
kept-start starts m i rising within low (k, k_within, is) =
    let e : get_or starts m i ≡ get_or starts m 0 = get_or_default_zero starts m i within in
    elim (cases_lt k m) [
      | inl before ↦
          let inside : k < length (take m starts) = omega (arith, length-take m starts) in
          (k, inside, get_or-take m starts k i before ∙ is)
      | inr high ↦ absurd (elim (cases_lt m k) [
        | inl above ↦ let more = rising m k i above k_within in omega arith
        | inr equal ↦ let same : k ≡ m = omega arith in let this = ap (λ n. get_or starts n i) same in omega arith
      ])
    ]

pub kept-below : (starts : List ℕ) (m k d : ℕ) → AllPairs (λ s t. s < t) starts → m < length starts → k < m → get_or starts k d < get_or starts m 0
kept-below starts m k d rising within low =
    let e : get_or starts m d ≡ get_or starts m 0 = get_or_default_zero starts m d within in
    let more = rising k m d low within in
    omega arith

pub trail-closed : (clauses : List Clause) (trail : List ℤ) (reasons : List (Option ℕ)) (starts : List ℕ) (m : ℕ) → IsTrail clauses trail reasons starts → AreLevels trail starts
    → m < length starts → IsTrail clauses (take (get_or starts m 0) trail) (take (get_or starts m 0) reasons) (take m starts) × AreLevels (take (get_or starts m 0) trail) (take m starts)
trail-closed clauses trail reasons starts m h levels within =
    let q : ℕ = get_or starts m 0 in
    let e = h.same_length in
    let q_within : q < length trail = levels.within m 0 within in
    let cut : length (take q trail) ≡ q = omega (arith, length-take q trail) in
    let starts_cut : length (take m starts) ≡ m = omega (arith, length-take m starts) in (
      record {
        same_length = omega (arith, length-take q reasons);
        reason = λ i j low is.
            reason-same clauses trail (take q trail) q i j (omega arith) (omega arith) (sym (ap (λ n. take n (take q trail)) (sym cut) ∙ take-length (take q trail)))
            (h.reason i j (omega arith) (sym (get_or-take q reasons i None (omega arith)) ∙ is));
        decision = λ i low is.
            kept-start starts m i levels.rising within (omega arith) (h.decision i (omega arith) (sym (get_or-take q reasons i None (omega arith)) ∙ is));
      },
      record {
        rising = λ i j d low high.
            let e1 : get_or (take m starts) i d ≡ get_or starts i d = get_or-take m starts i d (omega arith) in
            let e2 : get_or (take m starts) j d ≡ get_or starts j d = get_or-take m starts j d (omega arith) in
            rw (e1, e2) (levels.rising i j d low (omega arith));
        within = λ k d low.
            let e1 : get_or (take m starts) k d ≡ get_or starts k d = get_or-take m starts k d (omega arith) in
            let below : get_or starts k d < q = kept-below starts m k d levels.rising within (omega arith) in
            rw e1 (omega arith);
      },
    )

pub trail-added : (clauses : List Clause) (C : Clause) (trail : List ℤ) (reasons : List (Option ℕ)) (starts : List ℕ) → IsTrail clauses trail reasons starts
    → IsTrail (clauses ++ C ∷ []) trail reasons starts
trail-added clauses C trail reasons starts h = record {
  same_length = h.same_length;
  reason = λ i j within is.
      let r : IsReason clauses trail i j = h.reason i j within is in
      let held = r.held in
      let e : clause_at (clauses ++ C ∷ []) j ≡ clause_at clauses j = get_or-append clauses (C ∷ []) [] j held in
      record {
        held = omega (arith, length-append clauses (C ∷ []));
        inside = rw e r.inside;
        others = rw e r.others;
      };
  decision = h.decision;
}
