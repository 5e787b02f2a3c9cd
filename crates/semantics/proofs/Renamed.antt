-- Pins that are renamed to signals of the same value change no value.
use Rattle.std.proofs.Common.{◌≡◌, ℕ, zero, suc, ◌+◌, ◌-◌, ◌<◌, Bool, List, map, length, refl, ap, sym, subst, ◌∙◌, inl, inr, arith}
use Rattle.std.specs.List.{AllByRecursion, Contains}
use Rattle.std.proofs.lemmas.Bool.{cases_eq, cases_lt, eq-eqb, ne_eqb}
use Rattle.std.proofs.lemmas.List.{get_or-map, length-map}
use Rattle.semantics.specs.Net.{TableValue, no_table, table_at, IsGroundedIn, IsAcyclic}
use Rattle.semantics.specs.Value.{Assignment, table_value, IsConsistent, value_of}
use Rattle.semantics.proofs.Values.{table_value-same, value_law}
use Rattle.semantics.specs.Renamed.{renamed, redirect}
use Rattle.semantics.proofs.Depends.{each_member, each_weaker, IsGroundedIn-more, IsGroundedIn-pin, own_pin, pin_is_signal}
use Rattle.semantics.proofs.Embedded.{table_value-renamed}
use Rattle.semantics.proofs.Grounding.{pins_of_map}

table_at-renamed : (f : ℕ → ℕ) (tables : List TableValue) (i : ℕ) → i < length tables → table_at (map (renamed f) tables) i ≡ renamed f (table_at tables i)
table_at-renamed f tables i within = get_or-map (renamed f) tables i no_table no_table within

pub renamed-values : (n : ℕ) (tables : List TableValue) (f : ℕ → ℕ) (x : List Bool) → IsAcyclic n tables → IsAcyclic n (map (renamed f) tables)
    → ((s : ℕ) → s < n + length tables → value_of n tables x (f s) ≡ value_of n tables x s) → (s : ℕ) → s < n + length tables → value_of n (map (renamed f) tables) x s ≡ value_of n tables x s
renamed-values n tables f x acyclic acyclic' same s within =
    let v : Assignment = value_of n tables x in
    let law : IsConsistent n tables x v = (value_law n tables x acyclic).consistent in
    sym ((value_law n (map (renamed f) tables) x acyclic').only v
    (record {
      input = law.input;
      table = λ i below.
          let inside : i < length tables = rw (length-map tables (renamed f)) at below in
          let t : TableValue = table_at tables i in
          law.table i inside
          ∙ table_value-same t v (λ p. v (f p)) (each_member (λ p. v p ≡ v (f p)) t.pins (λ p c. sym (same p (pin_is_signal n tables i p acyclic inside c))))
          ∙ sym (table_value-renamed f t (renamed f t) v refl refl refl)
          ∙ ap (λ u. table_value u v) (sym (table_at-renamed f tables i inside));
    }) s (rw (length-map tables (renamed f)) within))

-- what is renamed to signals that are grounded no later
renamed-grounded : (n : ℕ) (tables : List TableValue) (f : ℕ → ℕ) → ((k s : ℕ) → IsGroundedIn n tables k s → IsGroundedIn n tables k (f s)) → (k s : ℕ) → IsGroundedIn n tables k s
    → IsGroundedIn n (map (renamed f) tables) k s
renamed-grounded n tables f g zero s h = h
renamed-grounded n tables f g (suc k) s (inl h) = inl h
renamed-grounded n tables f g (suc k) s (inr h) =
    elim (cases_lt s n) [
      | inl low ↦ inl low
      | inr high ↦
          let R : List TableValue = map (renamed f) tables in
          let pins : AllByRecursion (λ p. IsGroundedIn n (map (renamed f) tables) k (f p)) (table_at tables (s - n)).pins =
          each_weaker (IsGroundedIn n tables k) (λ p. IsGroundedIn n (map (renamed f) tables) k (f p)) (table_at tables (s - n)).pins
          (λ p q. renamed-grounded n tables f g k (f p) (g k p q)) h.1 in
          inr (
            rw (length-map tables (renamed f)) h.0,
            subst (λ u. AllByRecursion (IsGroundedIn n (map (renamed f) tables) k) u.pins) (sym (table_at-renamed f tables (s - n) (omega arith)))
                (pins_of_map (IsGroundedIn n (map (renamed f) tables) k) f (table_at tables (s - n)).pins pins),
          )
    ]

redirect-same : (from to s : ℕ) → s ≡ from → redirect from to s ≡ to
redirect-same from to s e = rw (eq-eqb s from e) refl

redirect-other : (from to s : ℕ) → (s ≡ from → ⊥) → redirect from to s ≡ s
redirect-other from to s ne = rw (ne_eqb s from ne) refl

pin_no_later : (n : ℕ) (tables : List TableValue) (t p k : ℕ) → Contains (table_at tables t).pins p → IsGroundedIn n tables k (n + t) → IsGroundedIn n tables k p
pin_no_later n tables t p zero c h = absurd (omega arith)
pin_no_later n tables t p (suc k) c h = IsGroundedIn-more n tables k p (IsGroundedIn-pin n tables k (n + t) p (omega arith) h (own_pin n tables t p c))

redirect-no_later : (n : ℕ) (tables : List TableValue) (t p : ℕ) → Contains (table_at tables t).pins p → (k s : ℕ) → IsGroundedIn n tables k s → IsGroundedIn n tables k (redirect (n + t) p s)
redirect-no_later n tables t p c k s h =
    elim (cases_eq s (n + t)) [
      | inl e ↦ subst (IsGroundedIn n tables k) (sym (redirect-same (n + t) p s e)) (pin_no_later n tables t p k c (subst (IsGroundedIn n tables k) e h))
      | inr ne ↦ subst (IsGroundedIn n tables k) (sym (redirect-other (n + t) p s ne)) h
    ]

pub redirected-acyclic : (n : ℕ) (tables : List TableValue) (t p : ℕ) → IsAcyclic n tables → Contains (table_at tables t).pins p → IsAcyclic n (map (renamed (redirect (n + t) p)) tables)
redirected-acyclic n tables t p acyclic c i within =
    let count : length (map (renamed (redirect (n + t) p)) tables) ≡ length tables = length-map tables (renamed (redirect (n + t) p)) in
    subst (λ k. IsGroundedIn n (map (renamed (redirect (n + t) p)) tables) k (n + i)) (sym count)
    (renamed-grounded n tables (redirect (n + t) p) (redirect-no_later n tables t p c) (length tables) (n + i) (acyclic i (omega arith)))
