-- A table depends on what its pins depend on.
use Rattle.std.proofs.Common.{◌≡◌, ◌↔◌, ℕ, ◌+◌, ◌-◌, ◌<◌, ◌≤◌, Bool, true, false, ◌||◌, eqb, List, length, get_or, IsTrue, Contains, refl, ap, sym, subst, ◌∙◌, inl, inr, arith}
use Rattle.std.specs.List.{list_any}
use Rattle.std.proofs.lemmas.Bool.{or_cases, or_left, or_right, eqb-true, eq-eqb}
use Rattle.std.proofs.lemmas.List.Folds.{Any-from_list_any, list_any-from_Any}
use Rattle.semantics.specs.Net.{TableValue, table_at}
use Rattle.semantics.specs.Order.{IsKnown, IsNext}
use Rattle.semantics.specs.Dependence.{DependsOn}
use Rattle.semantics.specs.Dependence.DependsOn.{itself, by_pin}
use Rattle.semantics.proofs.Members.{member_holds}
use Rattle.semantics.proofs.Depends.{own_pin}

-- the mark of a signal says whether it depends on table t
abbrev pub IsMarkOf : ℕ → List TableValue → ℕ → ℕ → Bool → Type 0
IsMarkOf n tables t s mark = IsTrue mark ↔ DependsOn n tables t s

no_input : (n : ℕ) (tables : List TableValue) (t s : ℕ) → DependsOn n tables t s → n ≤ s
no_input n tables t s (itself e) = omega arith
no_input n tables t s (by_pin past within c d) = past

-- no input depends on a table
pub IsMarkOf-input : (n : ℕ) (tables : List TableValue) (t s : ℕ) (mark : Bool) → s < n → mark ≡ false → IsMarkOf n tables t s mark
IsMarkOf-input n tables t s mark low clear = (λ set. absurd (let is : mark ≡ false = clear in let other : mark ≡ true = set in cc), λ path. absurd (omega (arith, no_input n tables t s path)))

module _ (n : ℕ) (tables : List TableValue) (t : ℕ) (marks : List Bool) (before : List ℕ) (i : ℕ) where
  pins : List ℕ
  pins = (table_at tables i).pins

  mark_at : ℕ → Bool
  mark_at p = get_or marks p false

  read_by : (s : ℕ) → s ≡ n + i → i < length tables → ((p : ℕ) → Contains pins p → IsMarkOf n tables t p (mark_at p)) → DependsOn n tables t s → (eqb i t || list_any mark_at pins) ≡ true
  unfolding pins
  read_by s at within marked (itself e) = or_left (eqb i t) (list_any mark_at pins) (eq-eqb i t (omega arith))
  read_by s at within marked (by_pin {p = p} past low c d) =
      let place : s - n ≡ i = omega arith in
      let pin : Contains pins p = subst (λ j. Contains (table_at tables j).pins p) place c in
      or_right (eqb i t) (list_any mark_at pins) (list_any-from_Any mark_at pins (pin.0, p, pin.1, pin.2, (marked p pin).1 d))

  reads : i < length tables → ((p : ℕ) → Contains pins p → IsMarkOf n tables t p (mark_at p)) → (eqb i t || list_any mark_at pins) ≡ true → DependsOn n tables t (n + i)
  unfolding pins
  reads within marked some =
      elim (or_cases (eqb i t) (list_any mark_at pins) some) [
        | inl e ↦ itself (omega (arith, eqb-true i t e))
        | inr any ↦
            let found = Any-from_list_any mark_at pins any in
            let pin : Contains pins found.1 = (found.0, found.2, found.3) in
            by_pin (omega arith) (omega arith) (own_pin n tables i found.1 pin) ((marked found.1 pin).0 found.4)
      ]

  -- the mark of the next table, by the marks of what it reads
  pub IsMarkOf-next : (read : List ℕ) (mark : Bool) → read ≡ (table_at tables i).pins → mark ≡ (eqb i t || list_any (λ p. get_or marks p false) read) → IsNext n tables before i
      → ((s : ℕ) → IsKnown n before s → IsMarkOf n tables t s (get_or marks s false)) → IsMarkOf n tables t (n + i) mark
  unfolding pins mark_at
  IsMarkOf-next read mark is value next known =
      let marked : ((p : ℕ) → Contains pins p → IsMarkOf n tables t p (mark_at p)) = λ p c. known p (member_holds (IsKnown n before) pins p next.reads c) in
      let same : mark ≡ (eqb i t || list_any mark_at pins) = value ∙ ap (λ (l : List ℕ). eqb i t || list_any mark_at l) is in
      (λ set. reads next.table marked (sym same ∙ set), λ path. same ∙ read_by (n + i) refl next.table marked path)
