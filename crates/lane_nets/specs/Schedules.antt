-- The gates of a graph in another order, of which a part is computed anew for the next patterns. Source:
-- levelized event-driven simulation, where a gate is computed only if an input of its cone changed.
use Rattle.std.specs.Prelude.{◌≡◌, ◌≢◌, ℕ, ◌+◌, ◌*◌, ◌/◌, ◌<◌, ◌≤◌, ◌&&◌, false, List, length, slice_index}
use Rattle.std.specs.Prelude.{slice_index_or}
use Rattle.aig_core.specs.Graph.{GraphValue, gate_at, gate_node, node_count, literal_value}
use Rattle.lane_nets.specs.declared.schedule.Entry.{Entry}
use Rattle.lane_nets.specs.declared.schedule.Schedule.{Schedule}
use Rattle.lane_nets.specs.Words.{values_at}
use Rattle.lane_nets.specs.Wide.{lane_words}

-- what stands past the last entry
abbrev pub no_entry : Entry
no_entry = record { left = 0; right = 0; node = 0 }

abbrev pub entry_at : List Entry → ℕ → Entry
entry_at order p = slice_index_or order p no_entry

-- the entry that computes gate i
abbrev pub entry_of : GraphValue → ℕ → Entry
entry_of g i = record { left = (gate_at g i).left; right = (gate_at g i).right; node = gate_node g i }

-- both literals are of other nodes than n
pub record ReadsOther (n : ℕ) (entry : Entry) : Type 0 where
  pub left : entry.left / 2 ≢ n
  pub right : entry.right / 2 ≢ n

-- both literals are of the first `count` nodes
pub record ReadsBelow (count : ℕ) (entry : Entry) : Type 0 where
  pub left : entry.left / 2 < count
  pub right : entry.right / 2 < count

-- Each entry computes a gate, and each gate has an entry. No entry reads what it or a later entry computes.
pub record AreEntriesOf (g : GraphValue) (order : List Entry) : Type 0 where
  pub gates : (p : ℕ) → p < length order
      → (i : ℕ) × (i < length g.gates) × (entry_at order p ≡ entry_of g i)
  pub all : (i : ℕ) → i < length g.gates
      → (p : ℕ) × (p < length order) × (entry_at order p ≡ entry_of g i)
  pub once : (p q : ℕ) → p < q → q < length order → (entry_at order p).node ≢ (entry_at order q).node
  pub ordered : (p q : ℕ) → p ≤ q → q < length order
      → ReadsOther (entry_at order q).node (entry_at order p)

-- no entry before the place that is told of a node reads that node
abbrev pub AreFirstReads : List Entry → List ℕ → Type 0
AreFirstReads order firsts = (n p : ℕ) → n < length firsts → p < slice_index firsts n → p < length order
    → ReadsOther n (entry_at order p)

pub record IsSchedule (g : GraphValue) (schedule : Schedule) : Type 0 where
  pub order : AreEntriesOf g schedule.order.items
  pub count : length schedule.firsts.items ≡ node_count g
  pub firsts : AreFirstReads schedule.order.items schedule.firsts.items

-- in each lane at each pattern the entry's node has the value of the gate
abbrev pub IsDone : List (List ℕ) → Entry → Type 0
IsDone wides entry = (j b : ℕ) → j < 8 → b < 64 → values_at (lane_words wides j) b entry.node
    ≡ (literal_value (values_at (lane_words wides j) b) entry.left
    && literal_value (values_at (lane_words wides j) b) entry.right)

-- node n has the same values
abbrev pub IsSameNode : List (List ℕ) → List (List ℕ) → ℕ → Type 0
IsSameNode old new n = (j b : ℕ) → j < 8 → b < 64
    → values_at (lane_words new j) b n ≡ values_at (lane_words old j) b n

-- the constant is false, and all gates of the order are done
pub record IsSettled (order : List Entry) (wides : List (List ℕ)) : Type 0 where
  pub constant : (j b : ℕ) → j < 8 → b < 64 → values_at (lane_words wides j) b 0 ≡ false
  pub done : (p : ℕ) → p < length order → IsDone wides (entry_at order p)

-- ---- classes

-- nodes by their classes, and by their numbers within a class
abbrev pub node_key : List ℕ → ℕ → ℕ
node_key classes n = 4294967296 * slice_index classes n + n

-- the classes do not exceed `most`, and a gate's class is not less than those of the nodes that it reads
pub record AreClasses (g : GraphValue) (most : ℕ) (classes : List ℕ) : Type 0 where
  pub count : length classes ≡ node_count g
  pub few : (n : ℕ) → slice_index classes n ≤ most
  pub left : (i : ℕ) → i < length g.gates
      → slice_index classes ((gate_at g i).left / 2) ≤ slice_index classes (gate_node g i)
  pub right : (i : ℕ) → i < length g.gates
      → slice_index classes ((gate_at g i).right / 2) ≤ slice_index classes (gate_node g i)

-- a bound that the keys of exactly the gates of lesser classes are below
abbrev pub class_bound : GraphValue → ℕ → ℕ
class_bound g class = 4294967296 * class + gate_node g 0

-- the entries of the gates whose keys are below the bound, by their keys
pub record AreEntriesBelow (g : GraphValue) (classes : List ℕ) (bound : ℕ) (order : List Entry) : Type 0 where
  pub gates : (p : ℕ) → p < length order → (i : ℕ) × (i < length g.gates)
      × (entry_at order p ≡ entry_of g i) × (node_key classes (gate_node g i) < bound)
  pub all : (i : ℕ) → i < length g.gates → node_key classes (gate_node g i) < bound
      → (p : ℕ) × (p < length order) × (entry_at order p ≡ entry_of g i)
  pub sorted : (p q : ℕ) → p < q → q < length order
      → node_key classes (entry_at order p).node < node_key classes (entry_at order q).node
