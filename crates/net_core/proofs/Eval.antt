-- The values of tables in an order, each from the values before.
use Rattle.std.proofs.Common.{ℕ, ◌+◌, ◌≡◌, ◌<◌, ◌≤◌, Bool, false, List, ◌++◌, length, get_or, take, slice_index_or, slice_set, All, Contains, sym, ap, subst, ◌∙◌, arith}
use Rattle.std.proofs.lemmas.List.{get_or_append_left, get_or_read, get_or_default}
use Rattle.std.proofs.lemmas.List.Elements.{All-weaker, All-contains_itself}
use Rattle.semantics.specs.Net.{TableValue, no_table, table_at, IsAcyclic}
use Rattle.semantics.specs.Value.{table_value, value_of}
use Rattle.semantics.specs.Order.{IsNext, IsOrderOf}
use Rattle.semantics.proofs.Values.{value_law}
use Rattle.semantics.proofs.Depends.{pin_is_signal}
use Rattle.semantics.proofs.Ordered.{order-acyclic}
use Rattle.semantics.proofs.Grounding.{next-value}
use Rattle.net_core.proofs.InOrder.{HoldsBefore, next_at, holds_none, holds_more, holds_all}

-- acyclic tables read signals
pub acyclic-pins : (n : ℕ) (tables : List TableValue) → IsAcyclic n tables → All (λ (t : TableValue). All (λ s. s < n + length tables) t.pins) tables
acyclic-pins n tables acyclic i d within =
    let pins : All (λ s. s < n + length tables) (table_at tables i).pins =
    All-weaker (Contains (table_at tables i).pins) (λ s. s < n + length tables) (λ s c. pin_is_signal n tables i s acyclic within c) (table_at tables i).pins
    (All-contains_itself (table_at tables i).pins) in
    subst (λ (t : TableValue). All (λ s. s < n + length tables) t.pins) (get_or_default tables i no_table d within) pins

-- the inputs and the first k tables of the order have their values
abbrev pub HasKnown : List TableValue → List ℕ → List Bool → ℕ → List Bool → Type 0
HasKnown tables order x k vals = HoldsBefore (λ s bit. bit ≡ value_of (length x) tables x s) false (length x) order k vals

module _ (tables : List TableValue) (order : List ℕ) (x : List Bool) (is : IsOrderOf (length x) tables order) where
  acyclic : IsAcyclic (length x) tables
  acyclic = order-acyclic (length x) tables order is

  -- with the input vector in front, the inputs have their values
  pub known_none : (front rest : List Bool) → front ≡ x → HasKnown tables order x 0 (front ++ rest)
  known_none front rest same =
      holds_none (length x) tables order is (λ s bit. bit ≡ value_of (length x) tables x s) false (front ++ rest)
      (λ s low. rw (same, get_or_append_left x rest false s low) (sym ((value_law (length x) tables x acyclic).consistent.input s low)))

  -- each member is a table
  pub member_within : (k i : ℕ) → k < length order → i ≡ get_or order k 0 → i < length tables
  member_within k i low at = let next = next_at (length x) tables order is k i low at in omega (arith, next.table)

  -- a table that was read in turn has its pins among the signals
  pub pins_in : (i : ℕ) (t : TableValue) (m : ℕ) → i < length tables → t ≡ get_or tables i t → m ≡ length x + length tables → All (λ s. s < m) t.pins
  pins_in i t m within read same =
      let pins : All (λ s. s < length x + length tables) t.pins
      = subst (λ (u : TableValue). All (λ s. s < length x + length tables) u.pins) (sym read) (acyclic-pins (length x) tables acyclic i t within) in
      λ k d inside. omega (arith, pins k d inside)

  -- one more table has its value
  pub known_more : (vals : List Bool) (k i : ℕ) (t : TableValue) (bit : Bool) → k < length order → i ≡ get_or order k 0 → t ≡ get_or tables i t → length vals ≡ length x + length tables
      → bit ≡ table_value t (λ s. slice_index_or vals s false) → HasKnown tables order x k vals → HasKnown tables order x (k + 1) (slice_set vals (length x + i) bit)
  known_more vals k i t bit low at read room value known =
      let n = length x in
      let next : IsNext n tables (take k order) i = next_at n tables order is k i low at in
      let table : t ≡ table_at tables i = get_or_read tables i t next.table read no_table in
      let here : bit ≡ value_of n tables x (n + i) =
      value ∙ ap (λ (u : TableValue). table_value u (λ s. slice_index_or vals s false)) table ∙ next-value n tables x (take k order) i (λ s. slice_index_or vals s false) acyclic next known in
      holds_more n tables order is (λ s value. value ≡ value_of n tables x s) false vals k i bit low at (omega (arith, room)) here known

  -- at the end all signals have
  pub known_all : (vals : List Bool) (k : ℕ) → length order ≤ k → HasKnown tables order x k vals → (s : ℕ) → s < length x + length tables → slice_index_or vals s false ≡ value_of (length x) tables x s
  known_all vals k past known = holds_all (length x) tables order is (λ s bit. bit ≡ value_of (length x) tables x s) false vals k past known
