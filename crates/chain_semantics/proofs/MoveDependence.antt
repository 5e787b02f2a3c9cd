-- The computed dependence is that by paths.
use Rattle.std.proofs.Common.{◌≡◌, ◌↔◌, ℕ, zero, suc, ◌+◌, ◌-◌, ◌<◌, ◌≤◌, true, ◌&&◌, eqb, leb, List, length, IsTrue, ap, inl, inr, arith}
use Rattle.std.specs.List.{Contains, list_any}
use Rattle.std.proofs.lemmas.Bool.{cases_lt, or_cases, or_left, or_right, and_parts, and_from, eqb-true, eq-eqb, leb-true, le-leb}
use Rattle.std.proofs.lemmas.List.{get_or_past}
use Rattle.std.proofs.lemmas.List.Folds.{Any-from_list_any, list_any-from_Any}
use Rattle.semantics.specs.Net.{TableValue, no_table, table_at, IsGroundedIn, IsAcyclic}
use Rattle.semantics.specs.Dependence.{DependsOn}
use Rattle.semantics.specs.Dependence.DependsOn.{itself, by_pin}
use Rattle.semantics.proofs.Values.{IsGroundedIn-signal}
use Rattle.semantics.proofs.Depends.{IsGroundedIn-pin}
use Rattle.chain_semantics.specs.Moves.{depends_within, depends}

-- what has a pin is a table
with_pin : (tables : List TableValue) (i p : ℕ) → Contains (table_at tables i).pins p → i < length tables
with_pin tables i p c =
    elim (cases_lt i (length tables)) [
      | inl low ↦ low
      | inr high ↦ absurd (omega (arith, c.1, ap (λ (t : TableValue). length t.pins) (get_or_past tables i no_table high)))
    ]

path_from_depends : (n : ℕ) (tables : List TableValue) (t pins s : ℕ) → depends_within n tables t pins s ≡ true → DependsOn n tables t s
unfolding depends_within
path_from_depends n tables t zero s h = itself (eqb-true s (n + t) h)
path_from_depends n tables t (suc pins) s h =
    elim (or_cases (eqb s (n + t)) (leb n s && list_any (depends_within n tables t pins) (table_at tables (s - n)).pins) h) [
      | inl e ↦ itself (eqb-true s (n + t) e)
      | inr both ↦
          let parts = and_parts (leb n s) (list_any (depends_within n tables t pins) (table_at tables (s - n)).pins) both in
          let past : n ≤ s = leb-true n s parts.0 in
          let found = Any-from_list_any (depends_within n tables t pins) (table_at tables (s - n)).pins parts.1 in
          let pin : Contains (table_at tables (s - n)).pins found.1 = (found.0, found.2, found.3) in
          by_pin past (omega (arith, with_pin tables (s - n) found.1 pin)) pin (path_from_depends n tables t pins found.1 found.4)
    ]

depends_at_end : (n : ℕ) (tables : List TableValue) (t pins s : ℕ) → s ≡ n + t → depends_within n tables t pins s ≡ true
unfolding depends_within
depends_at_end n tables t zero s e = eq-eqb s (n + t) e
depends_at_end n tables t (suc pins) s e =
    or_left (eqb s (n + t)) (leb n s && list_any (depends_within n tables t pins) (table_at tables (s - n)).pins) (eq-eqb s (n + t) e)

-- a signal that is grounded in `pins` steps has no path to table t of more pins
depends_from_path : (n : ℕ) (tables : List TableValue) (t s pins : ℕ) → DependsOn n tables t s → IsGroundedIn n tables pins s → depends_within n tables t pins s ≡ true
unfolding depends_within
depends_from_path n tables t s pins (itself e) grounded = depends_at_end n tables t pins s e
depends_from_path n tables t s zero (by_pin {p = p} past within c d) grounded = absurd (omega arith)
depends_from_path n tables t s (suc pins) (by_pin {p = p} past within c d) grounded =
    let at : depends_within n tables t pins p ≡ true = depends_from_path n tables t p pins d (IsGroundedIn-pin n tables pins s p past grounded c) in
    let some = list_any-from_Any (depends_within n tables t pins) (table_at tables (s - n)).pins (c.0, p, c.1, c.2, at) in
    or_right (eqb s (n + t)) (leb n s && list_any (depends_within n tables t pins) (table_at tables (s - n)).pins)
    (and_from (leb n s) (list_any (depends_within n tables t pins) (table_at tables (s - n)).pins) (le-leb n s past) some)

pub depends-path : (n : ℕ) (tables : List TableValue) (t s : ℕ) → IsAcyclic n tables → s < n + length tables → IsTrue (depends n tables t s) ↔ DependsOn n tables t s
depends-path n tables t s acyclic within = (
  path_from_depends n tables t (length tables) s,
  λ path. depends_from_path n tables t s (length tables) path (IsGroundedIn-signal n tables acyclic s within),
)
