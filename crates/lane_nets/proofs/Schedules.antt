-- Gates in another order, of which a part is computed anew.
use Rattle.std.proofs.Common.{◌≡◌, ◌≢◌, ◌⊎◌, ℕ, ◌+◌, ◌*◌, ◌/◌, ◌^◌, ◌<◌, ◌≤◌, ◌&&◌, Bool, false, List, [], ◌∷◌, ◌++◌, length, get_or, set, max, min, refl, ap, sym, subst, ◌∙◌, inl, inr, arith}
use Rattle.std.proofs.Common.{get_or-set_same, get_or-set_other}
use Rattle.std.specs.Prelude.{bit_and, bit_xor}
use Rattle.std.specs.Int.{bit_at}
use Rattle.std.proofs.lemmas.Nat.Bits.{bit_at_xor, bit_at-zero, bit_at-lt, same_from_bits}
use Rattle.std.proofs.lemmas.Bool.{cases_eq, cases_lt}
use Rattle.std.proofs.lemmas.List.{get_or_push, get_or_append_left, length_push}
use Rattle.lane_bits.proofs.Bits.{and_bit}
use Rattle.aig_core.specs.declared.gate.Gate.{Gate}
use Rattle.aig_core.specs.Graph.{GraphValue, no_gate, gate_at, input_node, gate_node, node_count, IsGraph, literal_value, value_of}
use Rattle.aig_core.proofs.Rounds.{value_law, literal_same}
use Rattle.lane_nets.specs.declared.schedule.Entry.{Entry}
use Rattle.lane_nets.specs.Words.{word_bit, values_at}
use Rattle.lane_nets.specs.Wide.{lane_words}
use Rattle.lane_nets.specs.Schedules.{no_entry, entry_at, entry_of, ReadsOther, ReadsBelow, AreEntriesOf, AreFirstReads, IsDone, IsSameNode, IsSettled}
use Rattle.lane_nets.specs.Schedules.{node_key, AreClasses, class_bound, AreEntriesBelow}
use Rattle.lane_nets.proofs.WideWords.{lane_words_get}
use Rattle.lane_nets.proofs.GraphWords.{value_set_same, value_set_other}

-- ---- equal words

-- words that differ in no bit are equal
pub xor_none : (a b : ℕ) → bit_xor a b ≡ 0 → b ≡ a
xor_none a b none = same_from_bits b a (λ i. omega (arith, bit_at_xor a b i, ap (λ n. bit_at n i) none, bit_at-zero i, bit_at-lt a i, bit_at-lt b i))

-- ---- order are done

pub same_joined : (start old new : List (List ℕ)) (n : ℕ) → IsSameNode start old n → IsSameNode old new n → IsSameNode start new n
same_joined start old new n first second j b lane low = second j b lane low ∙ first j b lane low

-- a entry stays done where its node and what it reads stay
pub done_stays : (old new : List (List ℕ)) (entry : Entry) → IsSameNode old new entry.node → IsSameNode old new (entry.left / 2) → IsSameNode old new (entry.right / 2) → IsDone old entry
    → IsDone new entry
done_stays old new entry node left right done j b lane low =
    node j b lane low
    ∙ done j b lane low
    ∙ (λ t. sym (literal_same (values_at (lane_words new j) b) (values_at (lane_words old j) b) entry.left (left j b lane low)) t
    && sym (literal_same (values_at (lane_words new j) b) (values_at (lane_words old j) b) entry.right (right j b lane low)) t)

module _ (order : List Entry) (wides : List (List ℕ)) (i : ℕ) (entry : Entry) (left right wide : List ℕ) (within : i < length order) (is : entry ≡ entry_at order i) (room : entry.node < length wides)
    (once : (p q : ℕ) → p < q → q < length order → (entry_at order p).node ≢ (entry_at order q).node)
    (ordered : (p q : ℕ) → p ≤ q → q < length order → ReadsOther (entry_at order q).node (entry_at order p)) where
  other_node : (n : ℕ) → n ≢ entry.node → IsSameNode wides (set wides entry.node wide) n
  other_node n other j b lane low = value_set_other wides entry.node wide j b n other

  reads_other : (p : ℕ) → p ≤ i → ReadsOther entry.node (entry_at order p)
  reads_other p before = subst (λ (s : Entry). ReadsOther s.node (entry_at order p)) (sym is) (ordered p i before within)

  own_other : ReadsOther entry.node entry
  own_other = subst (λ (s : Entry). ReadsOther entry.node s) (sym is) (reads_other i (omega arith))

  -- a literal of another node has the same values
  same_literal : (l : ℕ) → l / 2 ≢ entry.node → (j b : ℕ) → j < 8 → b < 64 → literal_value (values_at (lane_words wides j) b) l ≡ literal_value (values_at (lane_words (set wides entry.node wide) j) b) l
  same_literal l other j b lane low = sym (literal_same (values_at (lane_words (set wides entry.node wide) j) b) (values_at (lane_words wides j) b) l (other_node (l / 2) other j b lane low))

  module _ (lefts : (j b : ℕ) → j < 8 → b < 64 → word_bit (get_or left j 0) b ≡ literal_value (values_at (lane_words wides j) b) entry.left)
      (rights : (j b : ℕ) → j < 8 → b < 64 → word_bit (get_or right j 0) b ≡ literal_value (values_at (lane_words wides j) b) entry.right)
      (both : (j : ℕ) → j < 8 → get_or wide j 0 ≡ bit_and (get_or left j 0) (get_or right j 0)) where
    entry_done : IsDone (set wides entry.node wide) entry
    entry_done j b lane low =
        value_set_same wides entry.node wide j b room
        ∙ ap (λ w. word_bit w b) (both j lane)
        ∙ and_bit (get_or left j 0) (get_or right j 0) b
        ∙ (λ t. (lefts j b lane low ∙ same_literal entry.left own_other.left j b lane low) t && (rights j b lane low ∙ same_literal entry.right own_other.right j b lane low) t)

    pub order_more : ((p : ℕ) → p < i → p < length order → IsDone wides (entry_at order p)) → (p : ℕ) → p < i + 1 → p < length order → IsDone (set wides entry.node wide) (entry_at order p)
    order_more before p low inside =
        elim (cases_eq p i) [
          | inl e ↦ subst (λ k. IsDone (set wides entry.node wide) (entry_at order k)) (sym e) (subst (IsDone (set wides entry.node wide)) is entry_done)
          | inr other ↦
              let earlier : p < i = omega (arith, low, other) in
              let reads = reads_other p (omega (arith, earlier)) in
              done_stays wides (set wides entry.node wide) (entry_at order p)
              (other_node (entry_at order p).node (subst (λ (s : Entry). (entry_at order p).node ≢ s.node) (sym is) (once p i earlier within)))
              (other_node ((entry_at order p).left / 2) reads.left) (other_node ((entry_at order p).right / 2) reads.right) (before p earlier inside)
        ]

  pub others_more : (start : List (List ℕ)) → ((n : ℕ) → ((p : ℕ) → p < length order → (entry_at order p).node ≢ n) → IsSameNode start wides n) → (n : ℕ)
      → ((p : ℕ) → p < length order → (entry_at order p).node ≢ n) → IsSameNode start (set wides entry.node wide) n
  others_more start before n other =
      same_joined start wides (set wides entry.node wide) n (before n other)
      (other_node n (λ e. other i within (ap (λ (s : Entry). s.node) (sym is) ∙ sym e)))

-- ---- inputs are changed

module _ (start wides : List (List ℕ)) (n : ℕ) (wide : List ℕ) (room : n < length wides) where
  set_other : (k : ℕ) → k ≢ n → IsSameNode start wides k → IsSameNode start (set wides n wide) k
  set_other k other before j b lane low = value_set_other wides n wide j b k other ∙ before j b lane low

  -- the input's node has the same values where its words are the same
  set_equal : (old : List ℕ) → old ≡ get_or wides n [] → ((j : ℕ) → j < 8 → get_or wide j 0 ≡ get_or old j 0) → IsSameNode start wides n → IsSameNode start (set wides n wide) n
  set_equal old is equal before j b lane low =
      value_set_same wides n wide j b room
      ∙ ap (λ w. word_bit w b) (equal j lane ∙ ap (λ l. get_or l j 0) is ∙ sym (lane_words_get wides j n))
      ∙ before j b lane low

  pub changed_more : (firsts : List ℕ) (from next first : ℕ) (old : List ℕ) → old ≡ get_or wides n [] → first ≡ get_or firsts n 0 → next ≤ from
      → ((j : ℕ) → j < 8 → get_or wide j 0 ≡ get_or old j 0) ⊎ (next ≤ first) → IsSameNode start wides n
      → ((k : ℕ) → IsSameNode start wides k ⊎ (from ≤ get_or firsts k 0)) → (k : ℕ) → IsSameNode start (set wides n wide) k ⊎ (next ≤ get_or firsts k 0)
  changed_more firsts from next first old is at most found same before k =
      elim (cases_eq k n) [
        | inl e ↦ subst (λ m. IsSameNode start (set wides n wide) m ⊎ (next ≤ get_or firsts m 0)) (sym e) (elim found [
          | inl equal ↦ inl (set_equal old is equal same)
          | inr low ↦ inr (omega (arith, low, at))
        ])
        | inr other ↦ elim (before k) [
          | inl stays ↦ inl (set_other k other stays)
          | inr low ↦ inr (omega (arith, low, most))
        ]
      ]

  pub later_more : ((k : ℕ) → n ≤ k → IsSameNode start wides k) → (k : ℕ) → n + 1 ≤ k → IsSameNode start (set wides n wide) k
  later_more before k past = set_other k (λ e. omega (arith, past, e)) (before k (omega (arith, past)))

  pub constant_more : 0 < n → IsSameNode start wides 0 → IsSameNode start (set wides n wide) 0
  constant_more positive before = set_other 0 (λ e. omega (arith, e, positive)) before

-- ---- a block

module _ (g : GraphValue) (order : List Entry) (graph : IsGraph g) (are : AreEntriesOf g order) where
  pub entry_nodes : (p : ℕ) → p < length order → (entry_at order p).node < node_count g
  entry_nodes p low =
      let gate = are.gates p low in
      let node : (entry_at order p).node ≡ gate_node g gate.0 = ap (λ (s : Entry). s.node) gate.2 in
      omega (arith, node, gate.1)

  pub entry_gates : (p n : ℕ) → p < length order → n ≤ g.inputs → (entry_at order p).node ≢ n
  entry_gates p n low few =
      let gate = are.gates p low in
      let node : (entry_at order p).node ≡ gate_node g gate.0 = ap (λ (s : Entry). s.node) gate.2 in
      λ e. omega (arith, node, few, e)

  pub entry_reads : (count p : ℕ) → count ≡ node_count g → p < length order → ReadsBelow count (entry_at order p)
  entry_reads count p is low =
      let gate = are.gates p low in
      let left : (entry_at order p).left ≡ (gate_at g gate.0).left = ap (λ (s : Entry). s.left) gate.2 in
      let right : (entry_at order p).right ≡ (gate_at g gate.0).right = ap (λ (s : Entry). s.right) gate.2 in
      record {
        left = omega (arith, left, graph.apart gate.0 gate.1, graph.before gate.0 gate.1, gate.1, is);
        right = omega (arith, right, graph.before gate.0 gate.1, gate.1, is);
      }

  -- what stands before the first entry that reads a changed input is done still
  pub done_before : (firsts : List ℕ) (old new : List (List ℕ)) (from : ℕ) → length firsts ≡ node_count g → AreFirstReads order firsts → ((p : ℕ) → p < length order → IsDone old (entry_at order p))
      → ((n : ℕ) → IsSameNode old new n ⊎ (from ≤ get_or firsts n 0)) → ((n : ℕ) → g.inputs < n → IsSameNode old new n)
      → (p : ℕ) → p < from → p < length order → IsDone new (entry_at order p)
  done_before firsts old new from count first done changed gates p before low =
      let gate = are.gates p low in
      let node : (entry_at order p).node ≡ gate_node g gate.0 = ap (λ (s : Entry). s.node) gate.2 in
      let reads = entry_reads (node_count g) p refl low in
      done_stays old new (entry_at order p) (gates (entry_at order p).node (omega (arith, node)))
      (elim (changed ((entry_at order p).left / 2)) [
        | inl same ↦ same
        | inr late ↦ absurd ((first ((entry_at order p).left / 2) p (omega (arith, reads.left, count)) (omega (arith, before, late)) low).left refl)
      ])
      (elim (changed ((entry_at order p).right / 2)) [
        | inl same ↦ same
        | inr late ↦ absurd ((first ((entry_at order p).right / 2) p (omega (arith, reads.right, count)) (omega (arith, before, late)) low).right refl)
      ])
      (done p low)

  -- where all order are done, the nodes have their values
  pub settled_nodes : (wides : List (List ℕ)) (j b : ℕ) (x : List Bool) → j < 8 → b < 64 → IsSettled order wides
      → ((i : ℕ) → i < g.inputs → values_at (lane_words wides j) b (input_node i) ≡ get_or x i false)
      → (n : ℕ) → n < node_count g → values_at (lane_words wides j) b n ≡ value_of g x n
  settled_nodes wides j b x lane low settled inputs =
      (value_law g x graph).only (values_at (lane_words wides j) b)
      (record {
        constant = settled.constant j b lane low;
        input = inputs;
        gate = λ i within.
            let entry = are.all i within in
            subst (IsDone wides) entry.2 (settled.done entry.0 entry.1) j b lane low;
      })

-- ---- first readers

-- the places so far, and that of one more entry for the nodes that it reads
pub firsts_more : (order : List Entry) (firsts last : List ℕ) (i : ℕ) (entry : Entry) → entry ≡ entry_at order i → ((n : ℕ) → get_or last n 0 ≤ get_or firsts n 0) → get_or last (entry.left / 2) 0 ≤ i
    → get_or last (entry.right / 2) 0 ≤ i → ((n p : ℕ) → p < get_or firsts n 0 → p < i → ReadsOther n (entry_at order p))
    → (n p : ℕ) → p < get_or last n 0 → p < i + 1 → ReadsOther n (entry_at order p)
firsts_more order firsts last i entry is most left right before n p low inside =
    elim (cases_eq p i) [
      | inl e ↦
          subst (λ k. ReadsOther n (entry_at order k)) (sym e)
          (subst (ReadsOther n) is (record {
            left = λ at. omega (arith, left, ap (λ k. get_or last k 0) at, low, e);
            right = λ at. omega (arith, right, ap (λ k. get_or last k 0) at, low, e);
          }))
      | inr other ↦ before n p (omega (arith, low, most n)) (omega (arith, inside, other))
    ]

-- a place is set to one that is not greater
pub places_lowered : (firsts : List ℕ) (n i place : ℕ) → n < length firsts → place ≡ min (get_or firsts n 0) i → (k : ℕ) → get_or (set firsts n place) k 0 ≤ get_or firsts k 0
places_lowered firsts n i place room is k =
    elim (cases_eq k n) [
      | inl e ↦ subst (λ m. get_or (set firsts n place) m 0 ≤ get_or firsts m 0) (sym e) (omega (arith, is, get_or-set_same firsts n place 0 room))
      | inr other ↦ omega (arith, get_or-set_other firsts n k place 0 other)
    ]

pub place_low : (firsts : List ℕ) (n i place : ℕ) → n < length firsts → place ≡ min (get_or firsts n 0) i → get_or (set firsts n place) n 0 ≤ i
place_low firsts n i place room is = omega (arith, is, get_or-set_same firsts n place 0 room)

-- ---- classes

-- the entry that is made of a gate
pub entry_is : (g : GraphValue) (gates : List Gate) (inputs i : ℕ) → gates ≡ g.gates → inputs ≡ g.inputs
    → ◌≡◌ {A = Entry} (record { left = (get_or gates i no_gate).left; right = (get_or gates i no_gate).right; node = 1 + inputs + i }) (entry_of g i)
entry_is g gates inputs i same count = λ t. record { left = (get_or (same t) i no_gate).left; right = (get_or (same t) i no_gate).right; node = 1 + count t + i }

pub few_set : (classes : List ℕ) (i v most : ℕ) → ((n : ℕ) → get_or classes n 0 ≤ most) → v ≤ most → i < length classes → (n : ℕ) → get_or (set classes i v) n 0 ≤ most
few_set classes i v most few low room n =
    elim (cases_eq n i) [
      | inl e ↦ subst (λ k. get_or (set classes i v) k 0 ≤ most) (sym e) (omega (arith, low, get_or-set_same classes i v 0 room))
      | inr other ↦ omega (arith, few n, get_or-set_other classes i n v 0 other)
    ]

module _ (g : GraphValue) (most : ℕ) (classes : List ℕ) (few : node_count g ≤ 2 ^ 31) (graph : IsGraph g) (are : AreClasses g most classes) where
  low_nodes : (i : ℕ) → i < length g.gates → gate_node g i < 2 ^ 31
  low_nodes i low = omega (arith, few, low)

  pub order_none : AreEntriesBelow g classes (class_bound g 0) []
  order_none = record {
    gates = λ p low. absurd (omega (arith, low));
    all = λ i low below. absurd (omega (arith, below));
    sorted = λ p q before low. absurd (omega (arith, low));
  }

  -- one gate more, or one of another class
  pub order_pushed : (order : List Entry) (i class : ℕ) (entry : Entry) → i < length g.gates → get_or classes (gate_node g i) 0 ≡ class → entry ≡ entry_of g i
      → AreEntriesBelow g classes (4294967296 * class + gate_node g i) order → AreEntriesBelow g classes (4294967296 * class + gate_node g (i + 1)) (order ++ entry ∷ [])
  order_pushed order i class entry low here is before = record {
    gates = λ p inside. elim (cases_lt p (length order)) [
      | inl early ↦
          let gate = before.gates p early in
          (gate.0, gate.1, get_or_append_left order (entry ∷ []) no_entry p early ∙ gate.2, omega (arith, gate.3))
      | inr late ↦
          let last : length order ≡ p = omega (arith, late, inside, length_push order entry) in
          (i, low, get_or_push order entry no_entry p last ∙ is, omega (arith, here))
    ];
    all = λ k within below. elim (cases_eq k i) [
      | inl e ↦ (length order, omega (arith, length_push order entry), get_or_push order entry no_entry (length order) refl ∙ is ∙ ap (entry_of g) (sym e))
      | inr other ↦
          let least : node_key classes (gate_node g k) < 4294967296 * class + gate_node g i = omega (arith, below, other, low_nodes k within, low_nodes i low) in
          let found = before.all k within least in
          (found.0, omega (arith, found.1, length_push order entry), get_or_append_left order (entry ∷ []) no_entry found.0 found.1 ∙ found.2)
    ];
    sorted = λ p q first inside. elim (cases_lt q (length order)) [
      | inl early ↦
          subst (λ (s : Entry). node_key classes s.node < node_key classes (entry_at (order ++ entry ∷ []) q).node) (sym (get_or_append_left order (entry ∷ []) no_entry p (omega (arith, first, early))))
          (subst (λ (s : Entry). node_key classes (entry_at order p).node < node_key classes s.node) (sym (get_or_append_left order (entry ∷ []) no_entry q early)) (before.sorted p q first early))
      | inr late ↦
          let last : length order ≡ q = omega (arith, late, inside, length_push order entry) in
          let earlier : p < length order = omega (arith, first, last) in
          let gate = before.gates p earlier in
          let lesser : node_key classes (entry_at order p).node < node_key classes (gate_node g i) = omega (arith, gate.3, here, ap (λ (s : Entry). node_key classes s.node) gate.2) in
          subst (λ (s : Entry). node_key classes s.node < node_key classes (entry_at (order ++ entry ∷ []) q).node) (sym (get_or_append_left order (entry ∷ []) no_entry p earlier))
          (subst (λ (s : Entry). node_key classes (entry_at order p).node < node_key classes s.node) (sym (get_or_push order entry no_entry q last ∙ is)) lesser)
    ];
  }

  -- a bound between which and the one before no gate's key is
  pub order_same : (order : List Entry) (bound next : ℕ) → bound ≤ next → ((i : ℕ) → i < length g.gates → node_key classes (gate_node g i) < next → node_key classes (gate_node g i) < bound)
      → AreEntriesBelow g classes bound order → AreEntriesBelow g classes next order
  order_same order bound next more none before = record {
    gates = λ p inside.
        let gate = before.gates p inside in
        (gate.0, gate.1, gate.2, omega (arith, gate.3, more));
    all = λ i low below. before.all i low (none i low below);
    sorted = before.sorted;
  }

  pub order_kept : (order : List Entry) (i class : ℕ) → i < length g.gates → get_or classes (gate_node g i) 0 ≢ class → AreEntriesBelow g classes (4294967296 * class + gate_node g i) order
      → AreEntriesBelow g classes (4294967296 * class + gate_node g (i + 1)) order
  order_kept order i class low other before =
      order_same order (4294967296 * class + gate_node g i) (4294967296 * class + gate_node g (i + 1)) (omega arith)
      (λ k within below. elim (cases_eq k i) [
        | inl e ↦
            let apart : get_or classes (gate_node g k) 0 ≢ class = (λ same. other (ap (λ n. get_or classes (gate_node g n) 0) (sym e) ∙ same)) in
            omega (arith, below, apart, e, low_nodes k within)
        | inr apart ↦ omega (arith, below, apart, low_nodes k within, low_nodes i low)
      ])
      before

  -- the next class begins where a class ends
  pub order_next : (order : List Entry) (class : ℕ) → AreEntriesBelow g classes (4294967296 * class + node_count g) order → AreEntriesBelow g classes (class_bound g (class + 1)) order
  order_next order class before =
      order_same order (4294967296 * class + node_count g) (class_bound g (class + 1)) (omega (arith, few))
      (λ i low below. omega (arith, below, low_nodes i low, low, few)) before

  -- behind the last class all gates are there
  pub order_all : (order : List Entry) → AreEntriesBelow g classes (class_bound g (most + 1)) order → AreEntriesOf g order
  order_all order below = record {
    gates = λ p low.
        let gate = below.gates p low in
        (gate.0, gate.1, gate.2);
    all = λ i low. below.all i low (omega (arith, are.few (gate_node g i), low_nodes i low));
    once = λ p q before low e. omega (arith, below.sorted p q before low, ap (node_key classes) e);
    ordered = λ p q before low.
        let gate = below.gates p (omega (arith, before, low)) in
        let entry = gate.2 in
        let node : node_key classes (entry_at order p).node ≡ node_key classes (gate_node g gate.0) = ap (λ (s : Entry). node_key classes s.node) entry in
        let most_key : node_key classes (entry_at order p).node ≤ node_key classes (entry_at order q).node = elim (cases_eq p q) [
          | inl e ↦ omega (arith, ap (λ k. node_key classes (entry_at order k).node) e)
          | inr other ↦ omega (arith, below.sorted p q (omega (arith, before, other)) low)
        ] in
        record {
          left = λ e.
              let key : node_key classes ((gate_at g gate.0).left / 2) ≡ node_key classes (entry_at order q).node = ap (λ (s : Entry). node_key classes (s.left / 2)) (sym entry) ∙ ap (node_key classes) e in
              omega (arith, node, most_key, key, are.left gate.0 gate.1, graph.apart gate.0 gate.1, graph.before gate.0 gate.1);
          right = λ e.
              let key : node_key classes ((gate_at g gate.0).right / 2) ≡ node_key classes (entry_at order q).node = ap (λ (s : Entry). node_key classes (s.right / 2)) (sym entry) ∙ ap (node_key classes) e in
              omega (arith, node, most_key, key, are.right gate.0 gate.1, graph.before gate.0 gate.1);
        };
  }

-- the class of one more gate
module _ (g : GraphValue) (classes : List ℕ) (i left right class : ℕ) (graph : IsGraph g) (low : i < length g.gates) (room : length classes ≡ node_count g)
    (lefts : left ≡ get_or classes ((gate_at g i).left / 2) 0) (rights : right ≡ get_or classes ((gate_at g i).right / 2) 0) (is : class ≡ max left right) where
  stays : (n : ℕ) → n < gate_node g i → get_or (set classes (gate_node g i) class) n 0 ≡ get_or classes n 0
  stays n before = get_or-set_other classes (gate_node g i) n class 0 (λ e. omega (arith, before, e))

  here : get_or (set classes (gate_node g i) class) (gate_node g i) 0 ≡ class
  here = get_or-set_same classes (gate_node g i) class 0 (omega (arith, room, low))

  pub lefts_more : ((k : ℕ) → k < i → get_or classes ((gate_at g k).left / 2) 0 ≤ get_or classes (gate_node g k) 0) → (k : ℕ) → k < i + 1
      → get_or (set classes (gate_node g i) class) ((gate_at g k).left / 2) 0 ≤ get_or (set classes (gate_node g i) class) (gate_node g k) 0
  lefts_more before k inside =
      elim (cases_eq k i) [
        | inl e ↦
            subst (λ m. get_or (set classes (gate_node g i) class) ((gate_at g m).left / 2) 0 ≤ get_or (set classes (gate_node g i) class) (gate_node g m) 0) (sym e)
            (omega (arith, here, stays ((gate_at g i).left / 2) (omega (arith, graph.apart i low, graph.before i low)), lefts, is))
        | inr other ↦
            omega (
              arith,
              stays ((gate_at g k).left / 2) (omega (arith, graph.apart k (omega (arith, inside, low, other)), graph.before k (omega (arith, inside, low, other)), inside, other)),
              stays (gate_node g k) (omega (arith, inside, other)),
              before k (omega (arith, inside, other)),
            )
      ]

  pub rights_more : ((k : ℕ) → k < i → get_or classes ((gate_at g k).right / 2) 0 ≤ get_or classes (gate_node g k) 0) → (k : ℕ) → k < i + 1
      → get_or (set classes (gate_node g i) class) ((gate_at g k).right / 2) 0 ≤ get_or (set classes (gate_node g i) class) (gate_node g k) 0
  rights_more before k inside =
      elim (cases_eq k i) [
        | inl e ↦
            subst (λ m. get_or (set classes (gate_node g i) class) ((gate_at g m).right / 2) 0 ≤ get_or (set classes (gate_node g i) class) (gate_node g m) 0) (sym e)
            (omega (arith, here, stays ((gate_at g i).right / 2) (omega (arith, graph.before i low)), rights, is))
        | inr other ↦
            omega (
              arith,
              stays ((gate_at g k).right / 2) (omega (arith, graph.before k (omega (arith, inside, low, other)), inside, other)),
              stays (gate_node g k) (omega (arith, inside, other)),
              before k (omega (arith, inside, other)),
            )
      ]
