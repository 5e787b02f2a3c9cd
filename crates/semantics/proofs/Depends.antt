-- In acyclic tables no table depends on itself, and which signals depend on a table does not change with that table.
use Rattle.std.proofs.Common.{◌≡◌, ℕ, zero, suc, ◌+◌, ◌-◌, ◌<◌, ◌≤◌, List, length, subst, inl, inr, arith}
use Rattle.std.specs.List.{Contains}
use Rattle.std.proofs.lemmas.Bool.{cases_eq}
use Rattle.std.proofs.lemmas.List.{length-set, get_or-set_other}
use Rattle.semantics.specs.Net.{TableValue, no_table, table_at, IsGroundedIn, IsAcyclic}
use Rattle.semantics.proofs.Members.{member_holds}
use Rattle.semantics.proofs.Values.{grounded_within}
use Rattle.semantics.specs.Replaced.{replaced}
use Rattle.semantics.specs.Dependence.{DependsOn}
use Rattle.semantics.specs.Dependence.DependsOn.{itself, by_pin}
pub use Rattle.semantics.proofs.Members.{each_member, each_weaker}

pub IsGroundedIn-more : (n : ℕ) (tables : List TableValue) (k s : ℕ) → IsGroundedIn n tables k s → IsGroundedIn n tables (suc k) s
IsGroundedIn-more n tables zero s h = inl h
IsGroundedIn-more n tables (suc k) s (inl h) = inl h
IsGroundedIn-more n tables (suc k) s (inr h) =
    inr (h.0, each_weaker (IsGroundedIn n tables k) (IsGroundedIn n tables (suc k)) (table_at tables (s - n)).pins (IsGroundedIn-more n tables k) h.1)

-- the pins of a grounded table
pub IsGroundedIn-pin : (n : ℕ) (tables : List TableValue) (k s p : ℕ) → n ≤ s → IsGroundedIn n tables (suc k) s → Contains (table_at tables (s - n)).pins p → IsGroundedIn n tables k p
IsGroundedIn-pin n tables k s p past (inl h) c = absurd (omega arith)
IsGroundedIn-pin n tables k s p past (inr h) c = member_holds (IsGroundedIn n tables k) (table_at tables (s - n)).pins p h.1 c

pin_within : (n : ℕ) (tables : List TableValue) (k s p : ℕ) → n ≤ s → IsGroundedIn n tables k s → Contains (table_at tables (s - n)).pins p → p < n + length tables
pin_within n tables zero s p past h c = absurd (omega arith)
pin_within n tables (suc k) s p past h c = grounded_within n tables k p (IsGroundedIn-pin n tables k s p past h c)

pub own_pin : (n : ℕ) (tables : List TableValue) (i p : ℕ) → Contains (table_at tables i).pins p → Contains (table_at tables ((n + i) - n)).pins p
own_pin n tables i p c = let place : i ≡ (n + i) - n = omega arith in subst (λ j. Contains (table_at tables j).pins p) place c

-- in acyclic tables each pin is a signal
pub pin_is_signal : (n : ℕ) (tables : List TableValue) (i p : ℕ) → IsAcyclic n tables → i < length tables → Contains (table_at tables i).pins p → p < n + length tables
pin_is_signal n tables i p acyclic within c = pin_within n tables (length tables) (n + i) p (omega arith) (acyclic i within) (own_pin n tables i p c)

-- what a signal depends on is grounded in no more steps
IsGroundedIn-depended : (n : ℕ) (tables : List TableValue) (t s k : ℕ) → DependsOn n tables t s → IsGroundedIn n tables k s → IsGroundedIn n tables k (n + t)
IsGroundedIn-depended n tables t s k (itself e) h = subst (IsGroundedIn n tables k) e h
IsGroundedIn-depended n tables t s zero (by_pin {p = p} past within c d) h = absurd (omega arith)
IsGroundedIn-depended n tables t s (suc k) (by_pin {p = p} past within c d) h =
    IsGroundedIn-more n tables k (n + t) (IsGroundedIn-depended n tables t p k d (IsGroundedIn-pin n tables k s p past h c))

no_cycle_in : (n : ℕ) (tables : List TableValue) (t p : ℕ) → Contains (table_at tables ((n + t) - n)).pins p → DependsOn n tables t p → (k : ℕ) → IsGroundedIn n tables k (n + t) → ⊥
no_cycle_in n tables t p c d zero h = omega arith
no_cycle_in n tables t p c d (suc k) h =
    no_cycle_in n tables t p c d k (IsGroundedIn-depended n tables t p k d (IsGroundedIn-pin n tables k (n + t) p (omega arith) h c))

pub no_cycle : (n : ℕ) (tables : List TableValue) (t : ℕ) → IsAcyclic n tables → t < length tables → (p : ℕ) → Contains (table_at tables t).pins p → ¬ DependsOn n tables t p
no_cycle n tables t acyclic within p c d = no_cycle_in n tables t p (own_pin n tables t p c) d (length tables) (acyclic t within)

pub table_at-other : (tables : List TableValue) (t i : ℕ) (new : TableValue) → (i ≡ t → ⊥) → table_at (replaced tables t new) i ≡ table_at tables i
table_at-other tables t i new ne = get_or-set_other tables t i new no_table ne

pub to_replaced : (n : ℕ) (tables : List TableValue) (t : ℕ) (new : TableValue) (s : ℕ) → DependsOn n tables t s → DependsOn n (replaced tables t new) t s
to_replaced n tables t new s (itself e) = itself e
to_replaced n tables t new s (by_pin {p = p} past within c d) =
    elim (cases_eq (s - n) t) [
      | inl e ↦ itself (omega arith)
      | inr ne ↦ by_pin past (rw (length-set tables t new) within) (rw (table_at-other tables t (s - n) new ne) c) (to_replaced n tables t new p d)
    ]

pub from_replaced : (n : ℕ) (tables : List TableValue) (t : ℕ) (new : TableValue) (s : ℕ) → DependsOn n (replaced tables t new) t s → DependsOn n tables t s
from_replaced n tables t new s (itself e) = itself e
from_replaced n tables t new s (by_pin {p = p} past within c d) =
    elim (cases_eq (s - n) t) [
      | inl e ↦ itself (omega arith)
      | inr ne ↦ by_pin past (rw (length-set tables t new) at within) (rw (table_at-other tables t (s - n) new ne) at c) (from_replaced n tables t new p d)
    ]
