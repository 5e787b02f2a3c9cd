-- What a replaced table changes: nothing that does not depend on it, and nothing at all where the new table has the old value.
use Rattle.std.proofs.Common.{◌≡◌, ◌≢◌, ℕ, zero, suc, ◌+◌, ◌-◌, ◌<◌, Bool, true, false, List, ◌++◌, length, get_or, refl, ap, sym, subst, ◌∙◌, inl, inr, arith}
use Rattle.std.specs.List.{AllByRecursion, Contains}
use Rattle.std.proofs.lemmas.Bool.{cases_eq, cases_lt}
use Rattle.std.proofs.lemmas.List.{length-set, get_or-set_same}
use Rattle.std.proofs.Math.Seq.{map-set_same}
use Rattle.semantics.specs.Texts.{Bytes}
use Rattle.semantics.specs.Net.{TableValue, NetValue, no_table, table_at, signal_names, constant_table, IsGroundedIn, IsAcyclic}
use Rattle.semantics.specs.Value.{Assignment, table_value, IsConsistent, value_of}
use Rattle.semantics.proofs.Values.{table_value-same, IsGroundedIn-signal, value_law}
use Rattle.semantics.specs.Replaced.{replaced, with_table}
use Rattle.semantics.specs.Dependence.{DependsOn}
use Rattle.semantics.specs.Dependence.DependsOn.{itself, by_pin}
use Rattle.semantics.proofs.Depends.{each_member, IsGroundedIn-pin, pin_is_signal, no_cycle, table_at-other, to_replaced}

-- consistent with every table but t
pub record IsConsistentBut (n : ℕ) (tables : List TableValue) (x : List Bool) (t : ℕ) (v : Assignment) : Type 0 where
  pub input : (s : ℕ) → s < n → v s ≡ get_or x s false
  pub others : (i : ℕ) → i < length tables → i ≢ t → v (n + i) ≡ table_value (table_at tables i) v

pub IsConsistentBut-weaker : (n : ℕ) (tables : List TableValue) (x : List Bool) (t : ℕ) (v : Assignment) → IsConsistent n tables x v → IsConsistentBut n tables x t v
IsConsistentBut-weaker n tables x t v h = record { input = h.input; others = λ i within ne. h.table i within }

pub IsConsistentBut-replaced : (n : ℕ) (tables : List TableValue) (x : List Bool) (t : ℕ) (new : TableValue) (v : Assignment) → IsConsistent n (replaced tables t new) x v
    → IsConsistentBut n tables x t v
IsConsistentBut-replaced n tables x t new v h = record {
  input = h.input;
  others = λ i within ne. h.table i (rw (length-set tables t new) within) ∙ ap (λ u. table_value u v) (table_at-other tables t i new ne);
}

pub IsConsistent-replaced : (n : ℕ) (tables : List TableValue) (x : List Bool) (t : ℕ) (new : TableValue) (v : Assignment) → IsConsistentBut n tables x t v → v (n + t) ≡ table_value new v
    → IsConsistent n (replaced tables t new) x v
IsConsistent-replaced n tables x t new v h e = record {
  input = h.input;
  table = λ i within.
      let inside : i < length tables = rw (length-set tables t new) at within in
      elim (cases_eq i t) [
        | inl same ↦
            let is_new : table_at (replaced tables t new) i ≡ new = ap (table_at (replaced tables t new)) same ∙ get_or-set_same tables t new no_table (omega arith) in
            ap (λ j. v (n + j)) same ∙ e ∙ ap (λ u. table_value u v) (sym is_new)
        | inr ne ↦ h.others i inside ne ∙ ap (λ u. table_value u v) (sym (table_at-other tables t i new ne))
      ];
}

-- two assignments that are consistent with every table but t agree on what does not depend on t
apart-same : (n : ℕ) (tables : List TableValue) (x : List Bool) (t : ℕ) (v w : Assignment) → IsConsistentBut n tables x t v → IsConsistentBut n tables x t w → (k s : ℕ) → IsGroundedIn n tables k s
    → ¬ DependsOn n tables t s → v s ≡ w s
apart-same n tables x t v w cv cw zero s h apart = cv.input s h ∙ sym (cw.input s h)
apart-same n tables x t v w cv cw (suc k) s (inl h) apart = cv.input s h ∙ sym (cw.input s h)
apart-same n tables x t v w cv cw (suc k) s (inr h) apart =
    elim (cases_lt s n) [
      | inl low ↦ cv.input s low ∙ sym (cw.input s low)
      | inr high ↦
          let place : s ≡ n + (s - n) = omega arith in
          let ne : (s - n ≡ t → ⊥) = λ e. apart (itself (omega arith)) in
          let pins : AllByRecursion (λ p. v p ≡ w p) (table_at tables (s - n)).pins = each_member (λ p. v p ≡ w p) (table_at tables (s - n)).pins
          (λ p c. apart-same n tables x t v w cv cw k p (IsGroundedIn-pin n tables k s p high (inr h) c) (λ d. apart (by_pin high h.0 c d))) in
          ap v place
          ∙ cv.others (s - n) (omega arith) ne
          ∙ table_value-same (table_at tables (s - n)) v w pins
          ∙ sym (cw.others (s - n) (omega arith) ne)
          ∙ ap w (sym place)
    ]

pub apart-agree : (n : ℕ) (tables : List TableValue) (x : List Bool) (t : ℕ) (v w : Assignment) → IsAcyclic n tables → IsConsistentBut n tables x t v → IsConsistentBut n tables x t w → (s : ℕ)
    → s < n + length tables → ¬ DependsOn n tables t s → v s ≡ w s
apart-agree n tables x t v w acyclic cv cw s within apart =
    apart-same n tables x t v w cv cw (length tables) s (IsGroundedIn-signal n tables acyclic s within) apart

pub replaced-apart : (n : ℕ) (tables : List TableValue) (t : ℕ) (new : TableValue) (x : List Bool) → IsAcyclic n tables → IsAcyclic n (replaced tables t new) → (s : ℕ) → s < n + length tables
    → ¬ DependsOn n tables t s → value_of n (replaced tables t new) x s ≡ value_of n tables x s
replaced-apart n tables t new x acyclic acyclic' s within apart =
    apart-agree n tables x t (value_of n (replaced tables t new) x) (value_of n tables x) acyclic
    (IsConsistentBut-replaced n tables x t new (value_of n (replaced tables t new) x) (value_law n (replaced tables t new) x acyclic').consistent)
    (IsConsistentBut-weaker n tables x t (value_of n tables x) (value_law n tables x acyclic).consistent)
    s within apart

-- the values of the replaced list are the one assignment that is consistent with the other tables and has the new table's value
pub replaced-only : (n : ℕ) (tables : List TableValue) (t : ℕ) (new : TableValue) (x : List Bool) (v : Assignment) → IsAcyclic n (replaced tables t new) → IsConsistentBut n tables x t v
    → v (n + t) ≡ table_value new v → (s : ℕ) → s < n + length tables → v s ≡ value_of n (replaced tables t new) x s
replaced-only n tables t new x v acyclic' h e s within =
    (value_law n (replaced tables t new) x acyclic').only v (IsConsistent-replaced n tables x t new v h e) s (rw (length-set tables t new) within)

pub replaced-same : (n : ℕ) (tables : List TableValue) (t : ℕ) (new : TableValue) (x : List Bool) → IsAcyclic n tables → IsAcyclic n (replaced tables t new)
    → table_value new (value_of n tables x) ≡ value_of n tables x (n + t) → (s : ℕ) → s < n + length tables → value_of n (replaced tables t new) x s ≡ value_of n tables x s
replaced-same n tables t new x acyclic acyclic' e s within =
    sym (replaced-only n tables t new x (value_of n tables x) acyclic'
    (IsConsistentBut-weaker n tables x t (value_of n tables x) (value_law n tables x acyclic).consistent) (sym e) s within)

-- no signal that the new table reads depends on it
pub new-pins-apart : (n : ℕ) (tables : List TableValue) (t : ℕ) (new : TableValue) → IsAcyclic n (replaced tables t new) → t < length tables → (p : ℕ) → Contains new.pins p
    → (p < n + length tables) × (¬ DependsOn n tables t p)
new-pins-apart n tables t new acyclic' within p c =
    let inside : t < length (replaced tables t new) = rw (length-set tables t new) within in
    let c' : Contains (table_at (replaced tables t new) t).pins p = subst (λ u. Contains u.pins p) (sym (get_or-set_same tables t new no_table within)) c in (
      rw (length-set tables t new) at (pin_is_signal n (replaced tables t new) t p acyclic' inside c'),
      λ d. no_cycle n (replaced tables t new) t acyclic' inside p c' (to_replaced n tables t new p d),
    )

-- the new table has the same value under two assignments that are consistent with every other table
pub new-value-same : (n : ℕ) (tables : List TableValue) (t : ℕ) (new : TableValue) (x : List Bool) (v w : Assignment) → IsAcyclic n tables → IsAcyclic n (replaced tables t new) → t < length tables
    → IsConsistentBut n tables x t v → IsConsistentBut n tables x t w → table_value new v ≡ table_value new w
new-value-same n tables t new x v w acyclic acyclic' within cv cw =
    table_value-same new v w (each_member (λ p. v p ≡ w p) new.pins
    (λ p c. let apart = new-pins-apart n tables t new acyclic' within p c in apart-agree n tables x t v w acyclic cv cw p apart.0 apart.1))

pub replaced-new : (n : ℕ) (tables : List TableValue) (t : ℕ) (new : TableValue) (x : List Bool) → IsAcyclic n tables → IsAcyclic n (replaced tables t new) → t < length tables
    → value_of n (replaced tables t new) x (n + t) ≡ table_value new (value_of n tables x)
replaced-new n tables t new x acyclic acyclic' within =
    let after : Assignment = value_of n (replaced tables t new) x in
    let before : Assignment = value_of n tables x in
    let law : IsConsistent n (replaced tables t new) x after = (value_law n (replaced tables t new) x acyclic').consistent in
    law.table t (rw (length-set tables t new) within)
    ∙ ap (λ u. table_value u after) (get_or-set_same tables t new no_table within)
    ∙ new-value-same n tables t new x after before acyclic acyclic' within (IsConsistentBut-replaced n tables x t new after law)
    (IsConsistentBut-weaker n tables x t before (value_law n tables x acyclic).consistent)

pub constant_table-name : (name : Bytes) (value : Bool) → (constant_table name value).name ≡ name
constant_table-name name false = refl
constant_table-name name true = refl

-- another table of the same name leaves all names
pub signal_names-with_table : (N : NetValue) (t : ℕ) (new : TableValue) → new.name ≡ (table_at N.tables t).name → signal_names (with_table N t new) ≡ signal_names N
signal_names-with_table N t new named = ap (◌++◌ N.inputs) (map-set_same (λ table. table.name) N.tables t new no_table named)
