-- The first variable of each table and the literal of each signal, one after another.
use Rattle.std.proofs.Common.{◌≡◌, ℕ, suc, ◌+◌, ◌*◌, ◌^◌, ◌<◌, ◌≤◌, List, [], ◌∷◌, ◌++◌, length, map, take, get_or, sym, ap, ◌∙◌, arith, below_more, get_or-set_same, get_or-set_other}
use Rattle.std.specs.Prelude.{All, slice_set}
use Rattle.std.specs.List.{AllByRecursion, sum_by, range_with_len}
use Rattle.std.proofs.Math.ListN.{length-set}
use Rattle.std.proofs.lemmas.List.Sums.{sum_by-cons, sum_by_more, sum_by_more_le, sum_by-le, count_by-le-length}
use Rattle.std.proofs.lemmas.List.FromFn.{map-range_with_len_more, get_or-map-range_with_len, length-map-range_with_len}
use Rattle.semantics.specs.declared.mark.Mark.{Mark}
use Rattle.semantics.specs.declared.limits.TheConstants.{MOST_TABLE_PINS}
use Rattle.semantics.specs.Net.{TableValue, NetValue, no_table, table_at, is_literal, IsTable, IsSmall, IsAcyclic}
use Rattle.semantics.specs.Order.{IsKnown, IsNext, IsOrderOf}
use Rattle.semantics.proofs.Members.{each_weaker}
use Rattle.semantics.proofs.Ordered.{order-acyclic}
use Rattle.net_core.proofs.InOrder.{HoldsBefore, next_at, holds_none, holds_more, holds_all}
use Rattle.net_core.proofs.Eval.{acyclic-pins}
use Rattle.aiger_semantics.specs.NetCircuit.{row_ands, rows_ands, table_ands, table_literal, first_variable, input_literal, signal_literal}
use Rattle.aiger_semantics.proofs.SignalLiterals.{are_literals, table_literal-same}

-- the first t tables: their first variables, and the variable behind their lines
pub record AreFirsts (n : ℕ) (tables : List TableValue) (t next : ℕ) (firsts : List ℕ) : Type 0 where
  pub next_is : next ≡ first_variable n tables t
  pub firsts_are : firsts ≡ map (first_variable n tables) (range_with_len 0 t)

pub firsts_none : (n next : ℕ) (tables : List TableValue) (firsts : List ℕ) → next ≡ n + 1 → firsts ≡ [] → AreFirsts n tables 0 next firsts
firsts_none n next tables firsts at none = record { next_is = omega arith; firsts_are = none }

pub firsts_more : (n : ℕ) (tables : List TableValue) (t next : ℕ) (firsts more : List ℕ) (count : ℕ) → AreFirsts n tables t next firsts → t < length tables → more ≡ firsts ++ next ∷ []
    → count ≡ table_ands (table_at tables t) → AreFirsts n tables (t + 1) (next + count) more
firsts_more n tables t next firsts more count so low em ec =
    let sum = sum_by_more table_ands tables t no_table low in
    record {
      next_is = omega (arith, sum, so.next_is);
      firsts_are =
          em ∙ ap (λ l. l ++ next ∷ []) so.firsts_are ∙ ap (λ k. map (first_variable n tables) (range_with_len 0 t) ++ k ∷ []) so.next_is
          ∙ sym (map-range_with_len_more (first_variable n tables) 0 t t (omega arith));
    }

-- a table and those before it have no more lines than all
pub firsts_fit : (n : ℕ) (tables : List TableValue) (t next count bound : ℕ) → next ≡ first_variable n tables t → t < length tables → count ≡ table_ands (table_at tables t)
    → n + 1 + sum_by table_ands tables ≤ bound → next + count ≤ bound
firsts_fit n tables t next count bound at low ec fits =
    let sum = sum_by_more_le table_ands tables t no_table low in omega (arith, sum)

pub firsts_all : (n : ℕ) (tables : List TableValue) (t next : ℕ) (firsts : List ℕ) → AreFirsts n tables t next firsts → t ≡ length tables
    → firsts ≡ map (first_variable n tables) (range_with_len 0 (length tables))
firsts_all n tables t next firsts so at = so.firsts_are ∙ ap (λ k. map (first_variable n tables) (range_with_len 0 k)) at

pub first_read : (n : ℕ) (tables : List TableValue) (i d first : ℕ) (firsts : List ℕ) → i < length tables → firsts ≡ map (first_variable n tables) (range_with_len 0 (length tables))
    → first ≡ get_or firsts i d
    → first ≡ first_variable n tables i
first_read n tables i d first firsts low same read =
    read ∙ ap (λ l. get_or l i d) same ∙ get_or-map-range_with_len (first_variable n tables) 0 (length tables) i i d low (omega arith)

-- the lines of a table fit with the lines of the other tables
pub first_fits : (n : ℕ) (tables : List TableValue) (i d first : ℕ) (firsts : List ℕ) (t : TableValue) (bound : ℕ) → i < length tables
    → firsts ≡ map (first_variable n tables) (range_with_len 0 (length tables))
    → first ≡ get_or firsts i d → t ≡ table_at tables i → n + 1 + sum_by table_ands tables ≤ bound → first + table_ands t ≤ bound
first_fits n tables i d first firsts t bound low same read is fits =
    let at = first_read n tables i d first firsts low same read in
    let sum = sum_by_more_le table_ands tables i no_table low in
    let own : table_ands t ≡ table_ands (table_at tables i) = ap table_ands is in
    omega (arith, at, sum, own)

pub firsts_length : (n : ℕ) (tables : List TableValue) (firsts : List ℕ) → firsts ≡ map (first_variable n tables) (range_with_len 0 (length tables)) → length firsts ≡ length tables
firsts_length n tables firsts same = ap length same ∙ length-map-range_with_len (first_variable n tables) 0 (length tables)

-- the first i inputs have their literals
pub record AreInputs (i room : ℕ) (literals : List ℕ) : Type 0 where
  pub size : length literals ≡ room
  pub inputs : (s : ℕ) → s < i → get_or literals s 0 ≡ input_literal s

pub inputs_more : (i room literal : ℕ) (literals : List ℕ) → AreInputs i room literals → i < room → literal ≡ 2 * (i + 1) → AreInputs (i + 1) room (slice_set literals i literal)
inputs_more i room literal literals so low is = record {
  size = simp length-set so.size;
  inputs = below_more _ _
      (λ s before. let other : s ≡ i → ⊥ = omega arith in rw (get_or-set_other literals i s literal 0 other) (so.inputs s before))
      (rw (get_or-set_same literals i literal 0 (omega (arith, so.size))) is);
}

-- the inputs and the first k tables of the order have their literals
pub record AreSignals (n : ℕ) (tables : List TableValue) (order : List ℕ) (k : ℕ) (literals : List ℕ) : Type 0 where
  pub size : length literals ≡ n + length tables
  pub known : HoldsBefore (λ s literal. literal ≡ signal_literal n tables s) 0 n order k literals

module _ (n : ℕ) (tables : List TableValue) (order : List ℕ) (is : IsOrderOf n tables order) where
  acyclic : IsAcyclic n tables
  acyclic = order-acyclic n tables order is

  pub signals_none : (literals : List ℕ) → length literals ≡ n + length tables → ((s : ℕ) → s < n → get_or literals s 0 ≡ input_literal s) → AreSignals n tables order 0 literals
  signals_none literals size inputs = record {
    size = size;
    known = holds_none n tables order is (λ s literal. literal ≡ signal_literal n tables s) 0 literals (λ s low. inputs s low ∙ sym ((are_literals n tables acyclic).input s low));
  }

  pub member_within : (k i : ℕ) → k < length order → i ≡ get_or order k 0 → i < length tables
  member_within k i low at = let next = next_at n tables order is k i low at in omega (arith, next.table)

  pub pins_within : (t : TableValue) (i m : ℕ) → i < length tables → t ≡ table_at tables i → m ≡ n + length tables → All (λ s. s < m) t.pins
  pins_within t i m within read same =
      let pins : All (λ s. s < n + length tables) t.pins = rw read (acyclic-pins n tables acyclic i no_table within) in
      λ k d inside. omega (arith, pins k d inside)

  pub signals_more : (literals more : List ℕ) (k i first literal : ℕ) (t : TableValue) → AreSignals n tables order k literals → k < length order → i ≡ get_or order k 0 → t ≡ table_at tables i
      → first ≡ first_variable n tables i → literal ≡ table_literal (λ s. get_or literals s 0) first t → more ≡ slice_set literals (n + i) literal → AreSignals n tables order (k + 1) more
  signals_more literals more k i first literal t so low at read ef el em =
      let next : IsNext n tables (take k order) i = next_at n tables order is k i low at in
      let same : AllByRecursion (λ s. get_or literals s 0 ≡ signal_literal n tables s) (table_at tables i).pins =
      each_weaker (IsKnown n (take k order)) (λ s. get_or literals s 0 ≡ signal_literal n tables s) (table_at tables i).pins so.known next.reads in
      let here : literal ≡ signal_literal n tables (n + i) =
      el ∙ ap (λ (u : TableValue). table_literal (λ s. get_or literals s 0) first u) read ∙ ap (λ j. table_literal (λ s. get_or literals s 0) j (table_at tables i)) ef
      ∙ table_literal-same (λ s. get_or literals s 0) (signal_literal n tables) (first_variable n tables i) (table_at tables i) same
      ∙ sym ((are_literals n tables acyclic).table i next.table) in
      record {
        size = ap length em ∙ simp length-set so.size;
        known = rw em (holds_more n tables order is (λ s l. l ≡ signal_literal n tables s) 0 literals k i literal low at (omega (arith, so.size)) here so.known);
      }

  pub signals_all : (literals : List ℕ) (k : ℕ) → length order ≤ k → AreSignals n tables order k literals → (s : ℕ) → s < n + length tables → get_or literals s 0 ≡ signal_literal n tables s
  signals_all literals k past so = holds_all n tables order is (λ s l. l ≡ signal_literal n tables s) 0 literals k past so.known
