-- What is found for one table after another, in an order of the tables.
use Rattle.std.proofs.Common.{ℕ, zero, suc, ◌+◌, ◌-◌, ◌≡◌, ◌<◌, ◌≤◌, List, [], ◌∷◌, ◌++◌, length, get_or, set, take, Contains, inl, inr, sym, ap, subst, ◌∙◌, append_assoc, arith, get_or-set_same}
use Rattle.std.proofs.Common.{get_or-set_other}
use Rattle.std.proofs.lemmas.Bool.{cases_eq, cases_lt}
use Rattle.std.proofs.lemmas.List.{append-nil, take_all, take_more}
use Rattle.std.proofs.lemmas.List.Elements.{Contains-push_cases}
use Rattle.semantics.specs.Net.{TableValue}
use Rattle.semantics.specs.Order.{IsKnown, IsNext, IsOrderAfter, IsOrderOf}

-- each member of an order stands next after those before it
pub member-next : (n : ℕ) (tables : List TableValue) (before order : List ℕ) (k d : ℕ) → IsOrderAfter n tables before order → k < length order
    → IsNext n tables (before ++ take k order) (get_or order k d)
member-next n tables before [] k d h low = absurd (omega arith)
member-next n tables before (i ∷ order) zero d h low = rw append-nil h.0
member-next n tables before (i ∷ order) (suc k) d h low =
    subst (λ l. IsNext n tables l (get_or order k d)) (append_assoc before (i ∷ []) (take k order)) (member-next n tables (before ++ i ∷ []) order k d h.1 (omega arith))

-- P holds of what is found for the inputs and for the first k tables of the order
abbrev pub HoldsBefore : {X : Type 0} → (ℕ → X → Type 0) → X → ℕ → List ℕ → ℕ → List X → Type 0
HoldsBefore P d n order k found = (s : ℕ) → IsKnown n (take k order) s → P s (get_or found s d)

module _ (n : ℕ) (tables : List TableValue) (order : List ℕ) (is : IsOrderOf n tables order) where
  pub next_at : (k i : ℕ) → k < length order → i ≡ get_or order k 0 → IsNext n tables (take k order) i
  next_at k i low at = subst (IsNext n tables (take k order)) (sym at) (member-next n tables [] order k 0 is.in_turn low)

  -- before the first table, only the inputs are asked for
  pub holds_none : {X : Type 0} (P : ℕ → X → Type 0) (d : X) (found : List X) → ((s : ℕ) → s < n → P s (get_or found s d)) → HoldsBefore P d n order 0 found
  holds_none P d found inputs s (inl low) = inputs s low
  holds_none P d found inputs s (inr c) = absurd (omega (arith, c.1))

  -- one more table
  pub holds_more : {X : Type 0} (P : ℕ → X → Type 0) (d : X) (found : List X) (k i : ℕ) (new : X) → k < length order → i ≡ get_or order k 0 → n + length tables ≤ length found
      → P (n + i) new → HoldsBefore P d n order k found → HoldsBefore P d n order (k + 1) (set found (n + i) new)
  holds_more P d found k i new low at room here before s known =
      let next : IsNext n tables (take k order) i = next_at k i low at in
      let grown : take (k + 1) order ≡ take k order ++ i ∷ [] = take_more order k 0 low ∙ ap (λ j. take k order ++ j ∷ []) (sym at) in
      elim (cases_eq s (n + i)) [
        | inl e ↦ rw (e, get_or-set_same found (n + i) new d (omega (arith, next.table, room))) here
        | inr other ↦ rw (get_or-set_other found (n + i) s new d other) (before s (elim known [
          | inl input ↦ inl input
          | inr c ↦ elim (cases_lt s n) [
            | inl input ↦ inl input
            | inr high ↦ elim (Contains-push_cases (take k order) i (s - n) (subst (λ l. Contains l (s - n)) grown c)) [
              | inl old ↦ inr old
              | inr e ↦ absurd (other (omega (arith, e, high)))
            ]
          ]
        ]))
      ]

  -- after the last, all signals
  pub holds_all : {X : Type 0} (P : ℕ → X → Type 0) (d : X) (found : List X) (k : ℕ) → length order ≤ k → HoldsBefore P d n order k found → (s : ℕ) → s < n + length tables → P s (get_or found s d)
  holds_all P d found k past holds s within =
      let whole : take k order ≡ order = take_all k order past in
      elim (cases_lt s n) [
        | inl low ↦ holds s (inl low)
        | inr high ↦ holds s (inr (subst (λ l. Contains l (s - n)) (sym whole) (is.all (s - n) (omega arith))))
      ]
