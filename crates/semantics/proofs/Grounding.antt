-- Which changes of acyclic tables make no cycle.
use Rattle.std.proofs.Common.{◌≡◌, ℕ, zero, suc, ◌+◌, ◌-◌, ◌<◌, Bool, List, [], ◌∷◌, map, length, ap, sym, subst, ◌∙◌, inl, inr, arith}
use Rattle.std.specs.List.{AllByRecursion, Contains}
use Rattle.std.proofs.lemmas.Bool.{cases_eq, cases_lt}
use Rattle.std.proofs.lemmas.List.{length-set, get_or-set_same}
use Rattle.semantics.specs.Net.{TableValue, no_table, table_at, IsGroundedIn, IsAcyclic}
use Rattle.semantics.specs.Value.{Assignment, table_value, value_of}
use Rattle.semantics.proofs.Values.{IsGroundedIn-input, IsGroundedIn-signal, table_value-same, value_law}
use Rattle.semantics.specs.Embedding.{StandsAt, IsEmbedded}
use Rattle.semantics.specs.Replaced.{replaced}
use Rattle.semantics.specs.Dependence.{DependsOn}
use Rattle.semantics.specs.Dependence.DependsOn.{itself, by_pin}
use Rattle.semantics.specs.Order.{IsKnown, IsNext}
use Rattle.semantics.proofs.Depends.{each_member, each_weaker, IsGroundedIn-more, IsGroundedIn-pin, pin_is_signal, no_cycle, table_at-other}
use Rattle.semantics.proofs.Replaced.{new-pins-apart}
use Rattle.semantics.proofs.Ordered.{acyclic_from_steps}

pub IsGroundedIn-later : (n : ℕ) (tables : List TableValue) (j k s : ℕ) → IsGroundedIn n tables k s → IsGroundedIn n tables (j + k) s
IsGroundedIn-later n tables zero k s h = let same : k ≡ 0 + k = omega arith in subst (λ m. IsGroundedIn n tables m s) same h
IsGroundedIn-later n tables (suc j) k s h =
    let same : suc (j + k) ≡ suc j + k = omega arith in
    subst (λ m. IsGroundedIn n tables m s) same (IsGroundedIn-more n tables (j + k) s (IsGroundedIn-later n tables j k s h))

-- a table whose pins are grounded
pub IsGroundedIn-table : (n : ℕ) (tables : List TableValue) (k i : ℕ) → i < length tables → AllByRecursion (IsGroundedIn n tables k) (table_at tables i).pins → IsGroundedIn n tables (suc k) (n + i)
IsGroundedIn-table n tables k i within h =
    let place : i ≡ (n + i) - n = omega arith in
    inr (omega arith, subst (λ j. AllByRecursion (IsGroundedIn n tables k) (table_at tables j).pins) place h)

-- what does not depend on t is grounded as before
apart-grounded : (n : ℕ) (tables : List TableValue) (t : ℕ) (new : TableValue) (k s : ℕ) → IsGroundedIn n tables k s → ¬ DependsOn n tables t s → IsGroundedIn n (replaced tables t new) k s
apart-grounded n tables t new zero s h apart = h
apart-grounded n tables t new (suc k) s (inl h) apart = inl h
apart-grounded n tables t new (suc k) s (inr h) apart =
    elim (cases_lt s n) [
      | inl low ↦ inl low
      | inr high ↦
          let ne : (s - n ≡ t → ⊥) = λ e. apart (itself (omega arith)) in
          let pins : AllByRecursion (IsGroundedIn n (replaced tables t new) k) (table_at tables (s - n)).pins =
          each_member (IsGroundedIn n (replaced tables t new) k) (table_at tables (s - n)).pins
          (λ p c. apart-grounded n tables t new k p (IsGroundedIn-pin n tables k s p high (inr h) c) (λ d. apart (by_pin high h.0 c d))) in
          inr (rw (length-set tables t new) h.0, subst (λ u. AllByRecursion (IsGroundedIn n (replaced tables t new) k) u.pins) (sym (table_at-other tables t (s - n) new ne)) pins)
    ]

-- once table t is grounded, so is every signal
replaced-grounded : (n : ℕ) (tables : List TableValue) (t : ℕ) (new : TableValue) (m : ℕ) → IsGroundedIn n (replaced tables t new) m (n + t) → (k s : ℕ) → IsGroundedIn n tables k s
    → IsGroundedIn n (replaced tables t new) (k + m) s
replaced-grounded n tables t new m g zero s h = IsGroundedIn-input n (replaced tables t new) (0 + m) s h
replaced-grounded n tables t new m g (suc k) s (inl h) = IsGroundedIn-input n (replaced tables t new) (suc k + m) s h
replaced-grounded n tables t new m g (suc k) s (inr h) =
    elim (cases_lt s n) [
      | inl low ↦ IsGroundedIn-input n (replaced tables t new) (suc k + m) s low
      | inr high ↦ elim (cases_eq (s - n) t) [
        | inl e ↦ let place : n + t ≡ s = omega arith in subst (IsGroundedIn n (replaced tables t new) (suc k + m)) place (IsGroundedIn-later n (replaced tables t new) (suc k) m (n + t) g)
        | inr ne ↦
            let sum : suc (k + m) ≡ suc k + m = omega arith in
            let place : n + (s - n) ≡ s = omega arith in
            let pins : AllByRecursion (IsGroundedIn n (replaced tables t new) (k + m)) (table_at tables (s - n)).pins =
            each_weaker (IsGroundedIn n tables k) (IsGroundedIn n (replaced tables t new) (k + m)) (table_at tables (s - n)).pins (replaced-grounded n tables t new m g k) h.1 in
            let moved : AllByRecursion (IsGroundedIn n (replaced tables t new) (k + m)) (table_at (replaced tables t new) (s - n)).pins =
            subst (λ u. AllByRecursion (IsGroundedIn n (replaced tables t new) (k + m)) u.pins) (sym (table_at-other tables t (s - n) new ne)) pins in
            let inside : s - n < length (replaced tables t new) = omega (arith, length-set tables t new) in
            let there : IsGroundedIn n (replaced tables t new) (suc (k + m)) (n + (s - n)) = IsGroundedIn-table n (replaced tables t new) (k + m) (s - n) inside moved in
            subst (λ j. IsGroundedIn n (replaced tables t new) j s) sum (subst (IsGroundedIn n (replaced tables t new) (suc (k + m))) place there)
      ]
    ]

pub replaced-acyclic : (n : ℕ) (tables : List TableValue) (t : ℕ) (new : TableValue) → IsAcyclic n tables → t < length tables
    → AllByRecursion (λ s. (s < n + length tables) × (¬ DependsOn n tables t s)) new.pins → IsAcyclic n (replaced tables t new)
replaced-acyclic n tables t new acyclic within reads =
    let inside : t < length (replaced tables t new) = omega (arith, length-set tables t new) in
    let pins : AllByRecursion (IsGroundedIn n (replaced tables t new) (length tables)) new.pins =
    each_weaker (λ s. (s < n + length tables) × (¬ DependsOn n tables t s)) (IsGroundedIn n (replaced tables t new) (length tables)) new.pins
    (λ s r. apart-grounded n tables t new (length tables) s (IsGroundedIn-signal n tables acyclic s r.0) r.1) reads in
    let here : IsGroundedIn n (replaced tables t new) (suc (length tables)) (n + t) =
    IsGroundedIn-table n (replaced tables t new) (length tables) t inside
    (subst (λ u. AllByRecursion (IsGroundedIn n (replaced tables t new) (length tables)) u.pins) (sym (get_or-set_same tables t new no_table within)) pins) in
    acyclic_from_steps n (replaced tables t new)
    (λ i below. (length tables + suc (length tables), replaced-grounded n tables t new (suc (length tables)) here (length tables) (n + i) (acyclic i (omega (arith, length-set tables t new)))))

pub narrower-acyclic : (n : ℕ) (tables : List TableValue) (t : ℕ) (new : TableValue) → IsAcyclic n tables → t < length tables → AllByRecursion (Contains (table_at tables t).pins) new.pins
    → IsAcyclic n (replaced tables t new)
narrower-acyclic n tables t new acyclic within narrow =
    replaced-acyclic n tables t new acyclic within
    (each_weaker (Contains (table_at tables t).pins) (λ s. (s < n + length tables) × (¬ DependsOn n tables t s)) new.pins
    (λ s c. (pin_is_signal n tables t s acyclic within c, no_cycle n tables t acyclic within s c)) narrow)

pub replaced-reads : (n : ℕ) (tables : List TableValue) (t : ℕ) (new : TableValue) → t < length tables → IsAcyclic n (replaced tables t new)
    → AllByRecursion (λ s. (s < n + length tables) × (¬ DependsOn n tables t s)) new.pins
replaced-reads n tables t new within acyclic' = each_member (λ s. (s < n + length tables) × (¬ DependsOn n tables t s)) new.pins (new-pins-apart n tables t new acyclic' within)

pub pins_of_map : (P : ℕ → Type 0) (f : ℕ → ℕ) (pins : List ℕ) → AllByRecursion (λ s. P (f s)) pins → AllByRecursion P (map f pins)
pins_of_map P f [] h = tt
pins_of_map P f (s ∷ pins) h = (h.0, pins_of_map P f pins h.1)

-- an embedded signal needs as many steps more as the inputs do
pub embedded-grounded : (n : ℕ) (tables : List TableValue) (m : ℕ) (larger : List TableValue) (f : ℕ → ℕ) → IsEmbedded n tables m larger f → (j : ℕ)
    → ((i : ℕ) → i < n → IsGroundedIn m larger j (f i)) → (k s : ℕ) → IsGroundedIn n tables k s → IsGroundedIn m larger (k + j) (f s)
embedded-grounded n tables m larger f e j g zero s h = IsGroundedIn-later m larger 0 j (f s) (g s h)
embedded-grounded n tables m larger f e j g (suc k) s (inl h) = IsGroundedIn-later m larger (suc k) j (f s) (g s h)
embedded-grounded n tables m larger f e j g (suc k) s (inr h) =
    elim (cases_lt s n) [
      | inl low ↦ IsGroundedIn-later m larger (suc k) j (f s) (g s low)
      | inr high ↦
          let sum : suc (k + j) ≡ suc k + j = omega arith in
          let own : n + (s - n) ≡ s = omega arith in
          let at : StandsAt f (table_at tables (s - n)) m larger (f (n + (s - n))) = e.table (s - n) (omega arith) in
          let pins : AllByRecursion (λ p. IsGroundedIn m larger (k + j) (f p)) (table_at tables (s - n)).pins =
          each_weaker (IsGroundedIn n tables k) (λ p. IsGroundedIn m larger (k + j) (f p)) (table_at tables (s - n)).pins (embedded-grounded n tables m larger f e j g k) h.1 in
          let moved : AllByRecursion (IsGroundedIn m larger (k + j)) (table_at larger at.place).pins =
          subst (AllByRecursion (IsGroundedIn m larger (k + j))) (sym at.pins) (pins_of_map (IsGroundedIn m larger (k + j)) f (table_at tables (s - n)).pins pins) in
          let there : IsGroundedIn m larger (suc (k + j)) (m + at.place) = IsGroundedIn-table m larger (k + j) at.place at.within moved in
          let place : m + at.place ≡ f s = sym at.is ∙ ap f own in
          subst (λ i. IsGroundedIn m larger i (f s)) sum (subst (IsGroundedIn m larger (suc (k + j))) place there)
    ]

pub next-value : (n : ℕ) (tables : List TableValue) (x : List Bool) (before : List ℕ) (i : ℕ) (v : Assignment) → IsAcyclic n tables → IsNext n tables before i
    → ((s : ℕ) → IsKnown n before s → v s ≡ value_of n tables x s) → table_value (table_at tables i) v ≡ value_of n tables x (n + i)
next-value n tables x before i v acyclic next known =
    table_value-same (table_at tables i) v (value_of n tables x)
    (each_weaker (IsKnown n before) (λ s. v s ≡ value_of n tables x s) (table_at tables i).pins known next.reads)
    ∙ sym ((value_law n tables x acyclic).consistent.table i next.table)
