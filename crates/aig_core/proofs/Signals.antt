-- The literals of signals, table by table in the order of the net.
use Rattle.std.proofs.Common.{◌≡◌, ℕ, ◌+◌, ◌<◌, ◌≤◌, Bool, false, List, [], ◌∷◌, length, get_or, take, map, refl, sym, ap, ◌∙◌, arith, get_or-set_same, get_or-set_other, below_more}
use Rattle.std.specs.Prelude.{All, slice_set}
use Rattle.std.proofs.Math.ListN.{length-set}
use Rattle.std.proofs.lemmas.List.{get_or-map, length-map}
use Rattle.std.proofs.lemmas.List.Elements.{All-set, All-head, All-tail, All-from_get_or}
use Rattle.semantics.specs.Net.{TableValue, NetValue, no_table, table_at, input_count, signal_count, IsAcyclic}
use Rattle.semantics.specs.Value.{Assignment, table_value, value_of, outputs_of}
use Rattle.semantics.specs.Order.{IsNext, IsOrderOf}
use Rattle.semantics.proofs.Values.{value_law}
use Rattle.semantics.proofs.Ordered.{order-acyclic}
use Rattle.semantics.proofs.Grounding.{next-value}
use Rattle.net_core.proofs.InOrder.{HoldsBefore, next_at, holds_none, holds_more, holds_all}
use Rattle.net_core.proofs.Eval.{acyclic-pins}
use Rattle.aig_core.specs.Graph.{GraphValue, IsLiteralOf, literal_value, IsConsistent, HasOneValue}
use Rattle.aig_core.specs.Graph as graph
use Rattle.aig_core.specs.Grown.{Grows, IsInputOf}
use Rattle.aig_core.specs.Tables.{signal_values, IsTableOf}
use Rattle.aig_core.specs.Signals.{IsSignalOver, AreSignalsOver, AreOutputsOver, IsGraphOf}
use Rattle.aig_core.proofs.Growing.{grows_trans, literal_later, value_later}
use Rattle.aig_core.proofs.Rows.{all_later}

signal_later : (b c : GraphValue) (tables : List TableValue) (inputs : List ℕ) (s l : ℕ) → Grows b c → IsSignalOver b tables inputs s l → IsSignalOver c tables inputs s l
signal_later b c tables inputs s l grows is = record {
  within = literal_later b c l grows is.within;
  is = value_later b c l (λ x v. value_of (length inputs) tables (map (literal_value v) inputs) s) grows is.is;
}

input_later : (b c : GraphValue) (i l : ℕ) → Grows b c → IsInputOf b i l → IsInputOf c i l
input_later b c i l grows is = record { within = literal_later b c l grows is.within; is = value_later b c l (λ x v. get_or x i false) grows is.is }

-- the first i inputs have their literals
pub record AreInputsSoFar (g : GraphValue) (signals : List ℕ) (i room : ℕ) : Type 0 where
  pub size : length signals ≡ room
  pub within : All (IsLiteralOf g) signals
  pub inputs : (s : ℕ) → s < i → IsInputOf g s (get_or signals s 0)

pub inputs_more : (g : GraphValue) (signals : List ℕ) (i room r : ℕ) → AreInputsSoFar g signals i room → IsInputOf g i r → i < room → AreInputsSoFar g (slice_set signals i r) (i + 1) room
inputs_more g signals i room r so is low = record {
  size = simp length-set so.size;
  within = All-set (IsLiteralOf g) signals i r is.within so.within;
  inputs = below_more _ _
      (λ s before. let other : s ≡ i → ⊥ = omega arith in rw (get_or-set_other signals i s r 0 other) (so.inputs s before))
      (rw (get_or-set_same signals i r 0 (omega (arith, so.size))) is);
}

-- the first i signals are the inputs
pub record IsRoomSoFar (inputs signals : List ℕ) (i room : ℕ) : Type 0 where
  pub size : length signals ≡ room
  pub within : (g : GraphValue) → All (IsLiteralOf g) inputs → All (IsLiteralOf g) signals
  pub same : (s : ℕ) → s < i → get_or signals s 0 ≡ get_or inputs s 0

pub room_more : (inputs signals : List ℕ) (i room : ℕ) → IsRoomSoFar inputs signals i room → i < length inputs → i < room → IsRoomSoFar inputs (slice_set signals i (get_or inputs i 0)) (i + 1) room
room_more inputs signals i room so low fits = record {
  size = simp length-set so.size;
  within = λ g all. All-set (IsLiteralOf g) signals i (get_or inputs i 0) (all i 0 low) (so.within g all);
  same = below_more _ _
      (λ s before. let other : s ≡ i → ⊥ = omega arith in get_or-set_other signals i s (get_or inputs i 0) 0 other ∙ so.same s before)
      (get_or-set_same signals i (get_or inputs i 0) 0 (omega (arith, so.size)));
}

-- the inputs and the first k tables of the order have their literals
pub record AreSignalsSoFar (start g : GraphValue) (tables : List TableValue) (order inputs signals : List ℕ) (k : ℕ) : Type 0 where
  pub grows : Grows start g
  pub size : length signals ≡ length inputs + length tables
  pub within : All (IsLiteralOf g) signals
  pub known : HoldsBefore (IsSignalOver g tables inputs) 0 (length inputs) order k signals

module _ (tables : List TableValue) (order inputs : List ℕ) (is : IsOrderOf (length inputs) tables order) where
  acyclic : IsAcyclic (length inputs) tables
  acyclic = order-acyclic (length inputs) tables order is

  -- each member of the order is a table
  pub table_within : (k i : ℕ) → k < length order → i ≡ get_or order k 0 → i < length tables
  table_within k i low at = let next = next_at (length inputs) tables order is k i low at in omega (arith, next.table)

  -- a table's pins are signals
  pub pins_within : (t : TableValue) (i m : ℕ) → i < length tables → t ≡ table_at tables i → m ≡ length inputs + length tables → All (λ s. s < m) t.pins
  pins_within t i m low read same =
      let pins : All (λ s. s < length inputs + length tables) t.pins = rw read (acyclic-pins (length inputs) tables acyclic i no_table low) in
      λ k d inside. omega (arith, pins k d inside)

  -- an input has its literal
  input_signal : (g : GraphValue) (s l : ℕ) → s < length inputs → IsLiteralOf g l → l ≡ get_or inputs s 0 → IsSignalOver g tables inputs s l
  input_signal g s l low within same = record {
    within = within;
    is = λ x v val.
        ap (literal_value v) same ∙ sym (get_or-map (literal_value v) inputs s 0 false low)
        ∙ sym ((value_law (length inputs) tables (map (literal_value v) inputs) acyclic).consistent.input s low);
  }

  pub signals_none : (start g : GraphValue) (signals : List ℕ) → Grows start g → length signals ≡ length inputs + length tables → All (IsLiteralOf g) signals
      → ((s : ℕ) → s < length inputs → get_or signals s 0 ≡ get_or inputs s 0) → AreSignalsSoFar start g tables order inputs signals 0
  signals_none start g signals grows size within same = record {
    grows = grows;
    size = size;
    within = within;
    known = holds_none (length inputs) tables order is (IsSignalOver g tables inputs) 0 signals
        (λ s low. input_signal g s (get_or signals s 0) low (within s 0 (omega (arith, low, size))) (same s low));
  }

  -- a table that stands next has its literal
  table_signal : (g : GraphValue) (signals : List ℕ) (k i : ℕ) (t : TableValue) (r : ℕ) → IsNext (length inputs) tables (take k order) i → t ≡ table_at tables i
      → HoldsBefore (IsSignalOver g tables inputs) 0 (length inputs) order k signals → IsTableOf g t signals r → IsSignalOver g tables inputs (length inputs + i) r
  table_signal g signals k i t r next read known table = record {
    within = table.within;
    is = λ x v val.
        table.is x v val ∙ ap (λ (u : TableValue). table_value u (signal_values signals v)) read
        ∙ next-value (length inputs) tables (map (literal_value v) inputs) (take k order) i (signal_values signals v) acyclic next (λ s is_known. (known s is_known).is x v val);
  }

  pub signals_more : (start b c : GraphValue) (signals : List ℕ) (k i : ℕ) (t : TableValue) (r : ℕ) → k < length order → i ≡ get_or order k 0 → t ≡ table_at tables i
      → AreSignalsSoFar start b tables order inputs signals k
      → Grows b c → IsTableOf c t signals r → AreSignalsSoFar start c tables order inputs (slice_set signals (length inputs + i) r) (k + 1)
  signals_more start b c signals k i t r low at read so grows table =
      let next : IsNext (length inputs) tables (take k order) i = next_at (length inputs) tables order is k i low at in
      let known : HoldsBefore (IsSignalOver c tables inputs) 0 (length inputs) order k signals =
      λ s is_known. signal_later b c tables inputs s (get_or signals s 0) grows (so.known s is_known) in
      record {
        grows = grows_trans start b c so.grows grows;
        size = simp length-set so.size;
        within = All-set (IsLiteralOf c) signals (length inputs + i) r table.within (all_later b c signals grows so.within);
        known = holds_more (length inputs) tables order is (IsSignalOver c tables inputs) 0 signals k i r low at (omega (arith, so.size)) (table_signal c signals k i t r next read known table) known;
      }

  pub signals_all : (start g : GraphValue) (signals : List ℕ) (k : ℕ) → length order ≤ k → AreSignalsSoFar start g tables order inputs signals k → AreSignalsOver g tables inputs signals
  signals_all start g signals k past so = holds_all (length inputs) tables order is (IsSignalOver g tables inputs) 0 signals k past so.known

-- the literals of the outputs are those of their signals
outputs_map : (g : GraphValue) (tables : List TableValue) (inputs signals : List ℕ) (x : List Bool) (v : Assignment) → AreSignalsOver g tables inputs signals → IsConsistent g x v → (some : List ℕ)
    → All (λ s. s < length inputs + length tables) some → map (literal_value v) (map (λ s. get_or signals s 0) some) ≡ map (value_of (length inputs) tables (map (literal_value v) inputs)) some
outputs_map g tables inputs signals x v are val [] low = refl
outputs_map g tables inputs signals x v are val (s ∷ some) low =
    let first : literal_value v (get_or signals s 0) ≡ value_of (length inputs) tables (map (literal_value v) inputs) s =
    (are s (All-head (λ s. s < length inputs + length tables) s some low)).is x v val in
    let rest = outputs_map g tables inputs signals x v are val some (All-tail (λ s. s < length inputs + length tables) s some low) in
    cc (first, rest)

outputs_within : (g : GraphValue) (tables : List TableValue) (inputs signals : List ℕ) → AreSignalsOver g tables inputs signals → (some : List ℕ)
    → All (λ s. s < length inputs + length tables) some
    → All (IsLiteralOf g) (map (λ s. get_or signals s 0) some)
outputs_within g tables inputs signals are some low =
    All-from_get_or (IsLiteralOf g) (map (λ s. get_or signals s 0) some) 0
    (λ k inside.
    let inside_some : k < length some = omega (arith, inside, length-map some (λ s. get_or signals s 0)) in
    rw (get_or-map (λ s. get_or signals s 0) some k 0 0 inside_some) (are (get_or some k 0) (low k 0 inside_some)).within)

pub outputs_are : (g : GraphValue) (N : NetValue) (inputs signals ls : List ℕ) → length inputs ≡ input_count N → AreSignalsOver g N.tables inputs signals → All (λ s. s < signal_count N) N.outputs
    → ls ≡ map (λ s. get_or signals s 0) N.outputs → AreOutputsOver g N inputs ls
unfolding outputs_of
outputs_are g N inputs signals ls count are low is =
    let within : All (λ s. s < length inputs + length N.tables) N.outputs = λ k d inside. omega (arith, low k d inside, count) in
    record {
      count = ap length is ∙ length-map N.outputs (λ s. get_or signals s 0);
      within = rw is (outputs_within g N.tables inputs signals are N.outputs within);
      is = λ x v val.
          ap (map (literal_value v)) is ∙ outputs_map g N.tables inputs signals x v are val N.outputs within
          ∙ ap (λ n. map (value_of n N.tables (map (literal_value v) inputs)) N.outputs) count;
    }

-- values depend on the bits of the inputs alone
same_bits : (n : ℕ) (tables : List TableValue) (x y : List Bool) (s : ℕ) → IsAcyclic n tables → ((i : ℕ) → i < n → get_or x i false ≡ get_or y i false) → s < n + length tables
    → value_of n tables x s ≡ value_of n tables y s
same_bits n tables x y s acyclic same low =
    let first = (value_law n tables x acyclic).consistent in
    (value_law n tables y acyclic).only (value_of n tables x) (record { input = λ i inside. first.input i inside ∙ same i inside; table = first.table }) s low

-- the whole graph of a net
pub graph_done : (N : NetValue) (start g : GraphValue) (inputs signals : List ℕ) → IsAcyclic (input_count N) N.tables → start.inputs ≡ input_count N → Grows start g
    → length inputs ≡ start.inputs → ((i : ℕ) → i < start.inputs → IsInputOf start i (get_or inputs i 0)) → length signals ≡ signal_count N → AreSignalsOver g N.tables inputs signals
    → ((x : List Bool) → HasOneValue g x) → IsGraphOf N g signals
graph_done N start g inputs signals acyclic first grows count are size signal law = record {
  inputs = grows.inputs ∙ first;
  count = size;
  signals = λ s low.
      let here = signal s (omega (arith, low, count, first)) in
      record {
        within = here.within;
        is = λ x.
            let v : Assignment = graph.value_of g x in
            let val : IsConsistent g x v = (law x).consistent in
            here.is x v val ∙ ap (λ n. value_of n N.tables (map (literal_value v) inputs) s) (count ∙ first)
            ∙ same_bits (input_count N) N.tables (map (literal_value v) inputs) x s acyclic
            (λ i inside.
            let low_i : i < length inputs = omega (arith, inside, count, first) in
            let input : IsInputOf g i (get_or inputs i 0) = input_later start g i (get_or inputs i 0) grows (are i (omega (arith, inside, first))) in
            get_or-map (literal_value v) inputs i 0 false low_i ∙ input.is x v val)
            low;
      };
}
