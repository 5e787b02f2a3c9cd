-- An acyclic list of tables gives each signal one value.
use Rattle.std.proofs.Common.{◌≡◌, ℕ, zero, suc, ◌+◌, ◌-◌, ◌<◌, ◌≤◌, Bool, false, cond, not, ltb, List, [], ◌∷◌, length, get_or, refl, ap, subst, sym, ◌∙◌, inl, inr, arith}
use Rattle.std.specs.List.{AllByRecursion, list_any}
use Rattle.std.proofs.lemmas.Bool.{lt-ltb, le-ltb, cases_lt}
use Rattle.semantics.specs.declared.mark.Mark.{Mark}
use Rattle.semantics.specs.Net.{TableValue, table_at, IsGroundedIn, IsAcyclic}
use Rattle.semantics.specs.Value.{Assignment, row_matches, table_value, IsConsistent, round, after_rounds, value_of, HasOneValue}
use Rattle.semantics.proofs.Members.{each_weaker}

-- a row reads only the pins
pub row_matches-same : (marks : List Mark) (pins : List ℕ) (v w : Assignment) → AllByRecursion (λ s. v s ≡ w s) pins → row_matches marks pins v ≡ row_matches marks pins w
row_matches-same [] pins v w h = refl
row_matches-same (m ∷ marks) [] v w h = refl
row_matches-same (m ∷ marks) (s ∷ pins) v w h = let rest = row_matches-same marks pins v w h.1 in cc (h.0, rest)

some_row-same : (rows : List (List Mark)) (pins : List ℕ) (v w : Assignment) → AllByRecursion (λ s. v s ≡ w s) pins
    → list_any (λ marks. row_matches marks pins v) rows ≡ list_any (λ marks. row_matches marks pins w) rows
some_row-same [] pins v w h = refl
some_row-same (marks ∷ rows) pins v w h =
    let here = row_matches-same marks pins v w h in
    let rest = some_row-same rows pins v w h in
    cc (here, rest)

-- a table's value depends on its pins' values alone
pub table_value-same : (t : TableValue) (v w : Assignment) → AllByRecursion (λ s. v s ≡ w s) t.pins → table_value t v ≡ table_value t w
table_value-same t v w h = ap (λ b. cond b t.plane (not t.plane)) (some_row-same t.rows t.pins v w h)

-- at an input a round reads no value
round-input : (n : ℕ) (tables : List TableValue) (x : List Bool) (v w : Assignment) (s : ℕ) → s < n → round n tables x v s ≡ round n tables x w s
round-input n tables x v w s h = rw (lt-ltb s n h) refl

-- a round from two assignments that agree at the pins
round-same : (n : ℕ) (tables : List TableValue) (x : List Bool) (v w : Assignment) (s : ℕ) → AllByRecursion (λ p. v p ≡ w p) (table_at tables (s - n)).pins
    → round n tables x v s ≡ round n tables x w s
round-same n tables x v w s h = ap (λ b. cond (ltb s n) (get_or x s false) b) (table_value-same (table_at tables (s - n)) v w h)

-- v is one round after w, as far as there are signals
IsRoundOf : (n : ℕ) (tables : List TableValue) (x : List Bool) (v w : Assignment) → Type 0
IsRoundOf n tables x v w = (s : ℕ) → s < n + length tables → v s ≡ round n tables x w s

-- v is what k rounds come to
IsRun : (n : ℕ) (tables : List TableValue) (x : List Bool) → ℕ → Assignment → Type 0
IsRun n tables x zero v = Unit {0}
IsRun n tables x (suc k) v = (w : Assignment) × IsRoundOf n tables x v w × IsRun n tables x k w

-- what is grounded is a signal
pub grounded_within : (n : ℕ) (tables : List TableValue) (k s : ℕ) → IsGroundedIn n tables k s → s < n + length tables
grounded_within n tables zero s h = omega arith
grounded_within n tables (suc k) s (inl h) = omega arith
grounded_within n tables (suc k) s (inr h) = h.0

-- two runs agree on what is grounded in as many steps as both made, after the first round
runs_agree : (n : ℕ) (tables : List TableValue) (x : List Bool) (k : ℕ) (v w : Assignment) → IsRun n tables x (suc k) v → IsRun n tables x (suc k) w → (s : ℕ) → IsGroundedIn n tables k s → v s ≡ w s
unfolding IsRun IsRoundOf
runs_agree n tables x zero v w (v', ev, rv) (w', ew, rw') s h =
    ev s (omega arith) ∙ round-input n tables x v' w' s h ∙ sym (ew s (omega arith))
runs_agree n tables x (suc k) v w (v', ev, rv) (w', ew, rw') s (inl h) =
    ev s (omega arith) ∙ round-input n tables x v' w' s h ∙ sym (ew s (omega arith))
runs_agree n tables x (suc k) v w (v', ev, rv) (w', ew, rw') s (inr h) =
    ev s h.0
    ∙ round-same n tables x v' w' s (each_weaker (IsGroundedIn n tables k) (λ p. v' p ≡ w' p) (table_at tables (s - n)).pins (runs_agree n tables x k v' w' rv rw') h.1)
    ∙ sym (ew s h.0)

after_rounds-run : (n : ℕ) (tables : List TableValue) (x : List Bool) (k : ℕ) → IsRun n tables x k (after_rounds n tables x k)
unfolding IsRun IsRoundOf after_rounds
after_rounds-run n tables x zero = tt
after_rounds-run n tables x (suc k) = (after_rounds n tables x k, λ s h. refl, after_rounds-run n tables x k)

one_more-run : (n : ℕ) (tables : List TableValue) (x : List Bool) (k : ℕ) → IsRun n tables x k (after_rounds n tables x (suc k))
unfolding IsRun IsRoundOf after_rounds
one_more-run n tables x zero = tt
one_more-run n tables x (suc k) = (after_rounds n tables x (suc k), λ s h. refl, one_more-run n tables x k)

-- a consistent assignment is a round of itself
consistent-round : (n : ℕ) (tables : List TableValue) (x : List Bool) (v : Assignment) → IsConsistent n tables x v → IsRoundOf n tables x v v
unfolding IsRoundOf
consistent-round n tables x v h s within =
    elim (cases_lt s n) [
      | inl low ↦ rw (lt-ltb s n low) (h.input s low)
      | inr high ↦
          let place : s ≡ n + (s - n) = omega arith in
          rw (le-ltb s n high) (ap v place ∙ h.table (s - n) (omega arith))
    ]

consistent-run : (n : ℕ) (tables : List TableValue) (x : List Bool) (v : Assignment) → IsConsistent n tables x v → (k : ℕ) → IsRun n tables x k v
unfolding IsRun
consistent-run n tables x v h zero = tt
consistent-run n tables x v h (suc k) = (v, consistent-round n tables x v h, consistent-run n tables x v h k)

pub IsGroundedIn-input : (n : ℕ) (tables : List TableValue) (k s : ℕ) → s < n → IsGroundedIn n tables k s
IsGroundedIn-input n tables zero s h = h
IsGroundedIn-input n tables (suc k) s h = inl h

-- in acyclic tables each signal is grounded
pub IsGroundedIn-signal : (n : ℕ) (tables : List TableValue) → IsAcyclic n tables → (s : ℕ) → s < n + length tables → IsGroundedIn n tables (length tables) s
IsGroundedIn-signal n tables h s within =
    elim (cases_lt s n) [
      | inl low ↦ IsGroundedIn-input n tables (length tables) s low
      | inr high ↦
          let place : n + (s - n) ≡ s = omega arith in
          subst (IsGroundedIn n tables (length tables)) place (h (s - n) (omega arith))
    ]

round-table : (n : ℕ) (tables : List TableValue) (x : List Bool) (v : Assignment) (i : ℕ) → round n tables x v (n + i) ≡ table_value (table_at tables i) v
round-table n tables x v i =
    let past : n ≤ n + i = omega arith in
    let place : (n + i) - n ≡ i = omega arith in
    rw (le-ltb (n + i) n past) (ap (λ j. table_value (table_at tables j) v) place)

pub value_law : (n : ℕ) (tables : List TableValue) (x : List Bool) → IsAcyclic n tables → HasOneValue n tables x
unfolding value_of after_rounds
value_law n tables x h = record {
  consistent = record {
    input = λ s low. rw (lt-ltb s n low) refl;
    table = λ i within.
        let last : ℕ = length tables in
        runs_agree n tables x last (after_rounds n tables x (suc last)) (after_rounds n tables x (suc (suc last)))
        (after_rounds-run n tables x (suc last)) (one_more-run n tables x (suc last)) (n + i) (h i within)
        ∙ round-table n tables x (value_of n tables x) i;
  };
  only = λ v cv s within.
      runs_agree n tables x (length tables) v (value_of n tables x) (consistent-run n tables x v cv (suc (length tables)))
      (after_rounds-run n tables x (suc (length tables))) s (IsGroundedIn-signal n tables h s within);
}
