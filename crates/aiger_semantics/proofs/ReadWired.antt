-- The net of a circuit in which all variables that are used are defined, and no line is on a loop: its pins and outputs are signals, and its
-- tables are acyclic.
use Rattle.std.proofs.Common.{◌≡◌, ℕ, zero, suc, ◌+◌, ◌-◌, ◌/◌, ◌<◌, ◌≤◌, Bool, true, false, cond, not, ◌||◌, ◌==◌, ltb, List, [], ◌∷◌, ◌++◌, map, flat_map, filter, find, length, get_or, All, Option}
use Rattle.std.proofs.Common.{Some, None, refl, ap, sym, subst, ◌∙◌, inl, inr, arith}
use Rattle.std.specs.List.{AllByRecursion, list_any, position, position_or_len}
use Rattle.std.proofs.lemmas.Bool.{not-false, cases_lt, lt-ltb, both_ways, ltb-true, false_from_ne_true, eqb-false, eq-eqb, ne_eqb}
use Rattle.std.proofs.lemmas.List.{length-append, length-map, get_or_append_left, get_or-append-add, get_or-map}
use Rattle.std.proofs.lemmas.List.Elements.{All-from_recursion}
use Rattle.std.proofs.lemmas.List.Folds.{list_any-append, Any-from_list_any}
use Rattle.std.proofs.lemmas.List.Sums.{fails_before_first}
use Rattle.std.proofs.lemmas.Option.{none-some, same_Some}
use Rattle.std.proofs.lemmas.Slice.Eq.{bytes_eq-Decides}
use Rattle.semantics.specs.Texts.{Bytes}
use Rattle.semantics.specs.Net.{TableValue, no_table, table_at, input_count, signal_count, constant_table, IsGroundedIn, IsAcyclic}
use Rattle.semantics.specs.Refusals.{first_undriven, first_ungrounded}
use Rattle.semantics.proofs.Refused.{grounded, signals-driven, acyclic-grounded}
use Rattle.semantics.proofs.Values.{IsGroundedIn-input}
use Rattle.semantics.proofs.Members.{each_weaker}
use Rattle.semantics.proofs.Ordered.{acyclic_from_steps}
use Rattle.semantics.proofs.Grounding.{IsGroundedIn-table}
use Rattle.aiger_semantics.specs.declared.and_line.AndLine.{AndLine}
use Rattle.aiger_semantics.specs.Circuit.{CircuitValue, literal_of_variable}
use Rattle.aiger_semantics.specs.ReadNet.{variables, place_or_end, signal_of_variable, literal_mark, asked, conjunction_table, and_name, and_table, Port, is_port, ports, input_ports, output_ports}
use Rattle.aiger_semantics.specs.ReadNet.{has_port, new_ports, own_outputs, output_table, port_signal, net_of}
use Rattle.aiger_semantics.specs.Reading.{has_variable, operands, variables_used, first_undefined, operand_table, operand_tables}
use Rattle.aiger_semantics.proofs.Each.{each-append, each-left, each-right}

-- what passes a test has a place
pub place-found : {X : Type 0} (test : X → Bool) (xs : List X) → list_any test xs ≡ true → (k : ℕ) × ((position test xs ≡ Some k) × (k < length xs))
place-found test xs h =
    let place : ℕ = position_or_len test xs in
    let some = Any-from_list_any test xs h in
    elim (cases_lt place (length xs)) [
      | inl within ↦ (place, (rw (lt-ltb place (length xs) within) refl, within))
      | inr past ↦ absurd (both_ways (test (get_or xs some.0 some.1)) (fails_before_first test xs some.0 some.1 (omega (arith, some.2, past))) (ap test some.3 ∙ some.4))
    ]

pub place-below : {X : Type 0} (test : X → Bool) (xs : List X) → list_any test xs ≡ true → place_or_end (position test xs) < length xs
place-below test xs h = let found = place-found test xs h in subst (λ o. place_or_end o < length xs) (sym found.1.0) found.1.1

pub position-some : {X : Type 0} (test : X → Bool) (xs : List X) (k : ℕ) → position test xs ≡ Some k → k < length xs
position-some test xs k h = at_test (ltb (position_or_len test xs) (length xs)) refl h
  where
    at_test : (t : Bool) → ltb (position_or_len test xs) (length xs) ≡ t → cond t (Some (position_or_len test xs)) None ≡ Some k → k < length xs
    at_test true is e = subst (λ j. j < length xs) (same_Some _ _ e) (ltb-true (position_or_len test xs) (length xs) is)
    at_test false is e = absurd (none-some k e)

pub none_if : {X : Type 0} (told : Bool) (x : X) (rest : Option X) → cond told (Some x) rest ≡ None → (told ≡ false) × (rest ≡ None)
none_if false x rest none = (refl, none)
none_if true x rest none = absurd (none-some x (sym none))

pub or_right : (a b : Bool) → a ≡ false → (a || b) ≡ true → b ≡ true
or_right false b is h = h
or_right true b is h = absurd (both_ways true is refl)

or_both_false : (a b : Bool) → (a || b) ≡ false → (a ≡ false) × (b ≡ false)
or_both_false false false h = (refl, refl)
or_both_false false true h = absurd (both_ways true h refl)
or_both_false true b h = absurd (both_ways true h refl)

module _ (defined : List ℕ) where
  -- the constant, or defined
  abbrev pub IsUsable : ℕ → Type 0
  IsUsable v = (v == 0 || has_variable defined v) ≡ true

  pub all_usable : (used : List ℕ) → find (λ v. not (v == 0 || has_variable defined v)) used ≡ None → AllByRecursion IsUsable used
  all_usable [] none = tt
  all_usable (v ∷ vs) none =
      let parts = none_if (not (v == 0 || has_variable defined v)) v (find (λ u. not (u == 0 || has_variable defined u)) vs) none in
      (not-false (v == 0 || has_variable defined v) parts.0, all_usable vs parts.1)

  pub signal-below : (v : ℕ) → IsUsable v → (v ≡ 0 → ⊥) → signal_of_variable defined v < length defined
  signal-below v usable some = place-below (λ u. u == v) defined (or_right (v == 0) (has_variable defined v) (ne_eqb v 0 some) usable)

  -- what holds of the signals of a literal's variable, unless it is a constant
  abbrev pub Reads : (ℕ → Type 0) → ℕ → Type 0
  Reads P v = (v ≡ 0 → ⊥) → P (signal_of_variable defined v)

  asked-reads : (P : ℕ → Type 0) (literals : List ℕ) → list_any (λ l. l == 0) literals ≡ false → AllByRecursion (λ l. Reads P (l / 2)) literals
      → AllByRecursion P (map (λ l. signal_of_variable defined (l / 2)) (asked literals))
  asked-reads P [] none h = tt
  asked-reads P (l ∷ ls) none h = at_test (l == 1) refl (asked-reads P ls (or_both_false (l == 0) (list_any (λ k. k == 0) ls) none).1 h.1)
    where
      parts : ((l == 0) ≡ false) × (list_any (λ k. k == 0) ls ≡ false)
      parts = or_both_false (l == 0) (list_any (λ k. k == 0) ls) none

      at_test : (t : Bool) → (l == 1) ≡ t → AllByRecursion P (map (λ k. signal_of_variable defined (k / 2)) (asked ls))
          → AllByRecursion P (map (λ k. signal_of_variable defined (k / 2)) (cond (not t) (l ∷ asked ls) (asked ls)))
      at_test true is rest = rest
      at_test false is rest = (h.0 (λ e. omega (arith, e, eqb-false l 0 parts.0, eqb-false l 1 is)), rest)

  -- the pins of a conjunction
  pub conjunction-reads : (P : ℕ → Type 0) (name : Bytes) (literals : List ℕ) → AllByRecursion (λ l. Reads P (l / 2)) literals → AllByRecursion P (conjunction_table defined name literals).pins
  conjunction-reads P name literals h = at_test (list_any (λ l. l == 0) literals) refl
    where
      at_test : (t : Bool) → list_any (λ l. l == 0) literals ≡ t
          → AllByRecursion P
          (cond t (constant_table name false)
          (record { name = name; pins = map (λ l. signal_of_variable defined (l / 2)) (asked literals); rows = map literal_mark (asked literals) ∷ []; plane = true })).pins
      at_test true is = tt
      at_test false is = asked-reads P literals is h

  -- and of the operands of a line
  operand-reads : (P : ℕ → Type 0) (vs : List ℕ) → AllByRecursion P (map (signal_of_variable defined) (filter (λ v. not (v == 0)) vs)) → AllByRecursion (Reads P) vs
  operand-reads P [] h = tt
  operand-reads P (v ∷ vs) h = at_test (v == 0) refl (operand-reads P vs) h
    where
      at_test : (t : Bool) → (v == 0) ≡ t → (AllByRecursion P (map (signal_of_variable defined) (filter (λ u. not (u == 0)) vs)) → AllByRecursion (Reads P) vs)
          → AllByRecursion P (map (signal_of_variable defined) (cond (not t) (v ∷ filter (λ u. not (u == 0)) vs) (filter (λ u. not (u == 0)) vs)))
          → AllByRecursion (Reads P) (v ∷ vs)
      at_test true is rest k = ((λ some. absurd (both_ways (v == 0) (ne_eqb v 0 some) is)), rest k)
      at_test false is rest k = ((λ some. k.0), rest k.1)

  pub line-reads : (P : ℕ → Type 0) (a : AndLine) → AllByRecursion P (operand_table defined a).pins → AllByRecursion P (and_table defined a).pins
  line-reads P a h =
      let both = operand-reads P (operands a) h in
      conjunction-reads P (and_name a.variable) (a.left ∷ a.right ∷ []) (both.0, (both.1.0, tt))

-- ---- ports

same-port : (p : Port) → is_port p p ≡ true
same-port p = rw ((bytes_eq-Decides p.name p.name).1 refl) (eq-eqb p.literal p.literal refl)

-- a port that stands before or is one of the new ones
abbrev pub IsThere : List Port → List Port → Port → Type 0
IsThere earlier new p = (has_port earlier p || has_port new p) ≡ true

pub each_there : (P Q : Port → Type 0) → ((p : Port) → P p → Q p) → (ps : List Port) → AllByRecursion P ps → AllByRecursion Q ps
each_there P Q weaker [] h = tt
each_there P Q weaker (p ∷ ps) h = (weaker p h.0, each_there P Q weaker ps h.1)

moved : (a b c : Bool) → ((a || b) || c) ≡ true → (a || (b || c)) ≡ true
moved true b c h = refl
moved false b c h = h

there_behind : (earlier new : List Port) (p q : Port) → IsThere (earlier ++ p ∷ []) new q → IsThere earlier (p ∷ new) q
there_behind earlier new p q h =
    let one : (is_port q p || false) ≡ is_port q p = or_false (is_port q p) in
    moved (has_port earlier q) (is_port q p) (has_port new q)
    (ap (λ t. (has_port earlier q || t) || has_port new q) (sym one) ∙ ap (λ t. t || has_port new q) (sym (list_any-append (is_port q) earlier (p ∷ []))) ∙ h)
  where
    or_false : (b : Bool) → (b || false) ≡ b
    or_false true = refl
    or_false false = refl

or_left_true : (a b : Bool) → a ≡ true → (a || b) ≡ true
or_left_true true b h = refl
or_left_true false b h = absurd (both_ways false refl h)

or_right_true : (a b : Bool) → b ≡ true → (a || b) ≡ true
or_right_true true b h = refl
or_right_true false b h = h

pub new_there : (earlier ps : List Port) → AllByRecursion (IsThere earlier (new_ports earlier ps)) ps
new_there earlier [] = tt
new_there earlier (p ∷ ps) = at_test (has_port earlier p) refl (λ before. new_there before ps)
  where
    at_test : (t : Bool) → has_port earlier p ≡ t → ((before : List Port) → AllByRecursion (IsThere before (new_ports before ps)) ps)
        → AllByRecursion (IsThere earlier (cond t (new_ports earlier ps) (p ∷ new_ports (earlier ++ p ∷ []) ps))) (p ∷ ps)
    at_test true is rest = (or_left_true (has_port earlier p) (has_port (new_ports earlier ps) p) is, rest earlier)
    at_test false is rest =
        let new = new_ports (earlier ++ p ∷ []) ps in (
          or_right_true (has_port earlier p) (is_port p p || has_port new p) (or_left_true (is_port p p) (has_port new p) (same-port p)),
          each_there (IsThere (earlier ++ p ∷ []) new) (IsThere earlier (p ∷ new)) (there_behind earlier new p) ps (rest (earlier ++ p ∷ [])),
        )

-- what holds of each port holds of the new ones
pub new-each : (P : Port → Type 0) (earlier ps : List Port) → AllByRecursion P ps → AllByRecursion P (new_ports earlier ps)
new-each P earlier [] h = tt
new-each P earlier (p ∷ ps) h = at_test (has_port earlier p) (λ before. new-each P before ps h.1)
  where
    at_test : (t : Bool) → ((before : List Port) → AllByRecursion P (new_ports before ps)) → AllByRecursion P (cond t (new_ports earlier ps) (p ∷ new_ports (earlier ++ p ∷ []) ps))
    at_test true rest = rest earlier
    at_test false rest = (h.0, rest (earlier ++ p ∷ []))

-- what holds of each literal holds of each port's
pub ports-each : (P : ℕ → Type 0) (names : List Bytes) (literals : List ℕ) → AllByRecursion P literals → AllByRecursion (λ p. P p.literal) (ports names literals)
ports-each P [] literals h = tt
ports-each P (name ∷ names) [] h = tt
ports-each P (name ∷ names) (literal ∷ literals) h = (h.0, ports-each P names literals h.1)

ports-short : (names : List Bytes) (literals : List ℕ) → length (ports names literals) ≤ length names
ports-short [] literals = omega arith
ports-short (name ∷ names) [] = omega arith
ports-short (name ∷ names) (literal ∷ literals) = omega (arith, ports-short names literals)

module _ (c : CircuitValue) (same : length c.input_names ≡ length c.inputs) (none : first_undefined c ≡ None) where
  abbrev pub D : List ℕ
  D = variables c

  abbrev pub n : ℕ
  n = length c.input_names

  abbrev pub tables : List TableValue
  tables = map (and_table D) c.ands ++ map (output_table D) (own_outputs c)

  usable : AllByRecursion (IsUsable D) (variables_used c)
  usable = all_usable (variables c) (variables_used c) none

  pub defined-count : length D ≡ n + length c.ands
  defined-count =
      let sum = length-append c.inputs (map (λ a. a.variable) c.ands) in
      let lines = length-map c.ands (λ a. a.variable) in
      omega (arith, sum, lines, same)

  pub tables-count : length tables ≡ length c.ands + length (own_outputs c)
  tables-count =
      let sum = length-append (map (and_table D) c.ands) (map (output_table D) (own_outputs c)) in
      let ands = length-map c.ands (and_table D) in
      let outputs = length-map (own_outputs c) (output_table D) in
      omega (arith, sum, ands, outputs)

  outputs-usable : AllByRecursion (λ l. IsUsable D (l / 2)) c.outputs
  outputs-usable = unmapped c.outputs (each-right (IsUsable D) (flat_map operands c.ands) (map (λ l. l / 2) c.outputs) usable)
    where
      unmapped : (ls : List ℕ) → AllByRecursion (IsUsable D) (map (λ l. l / 2) ls) → AllByRecursion (λ l. IsUsable D (l / 2)) ls
      unmapped [] h = tt
      unmapped (l ∷ ls) h = (h.0, unmapped ls h.1)

  pub ands-usable : AllByRecursion (λ a. AllByRecursion (IsUsable D) (operands a)) c.ands
  ands-usable = unmapped c.ands (each-left (IsUsable D) (flat_map operands c.ands) (map (λ l. l / 2) c.outputs) usable)
    where
      unmapped : (as' : List AndLine) → AllByRecursion (IsUsable D) (flat_map operands as') → AllByRecursion (λ a. AllByRecursion (IsUsable D) (operands a)) as'
      unmapped [] h = tt
      unmapped (a ∷ as') h = ((h.0, (h.1.0, tt)), unmapped as' h.1.1)

  pub own-usable : AllByRecursion (λ (p : Port). IsUsable D (p.literal / 2)) (own_outputs c)
  own-usable =
      new-each (λ (p : Port). IsUsable D (p.literal / 2)) (input_ports c) (output_ports c)
      (ports-each (λ l. IsUsable D (l / 2)) c.output_names c.outputs outputs-usable)

  signal-low : (v : ℕ) → IsUsable D v → Reads D (λ s. s < n + length c.ands) v
  signal-low v here some = subst (λ k. signal_of_variable D v < k) defined-count (signal-below D v here some)

  -- ---- acyclic

  abbrev pub ops : List TableValue
  ops = operand_tables c

  no_line : AndLine
  no_line = record { variable = 0; left = 0; right = 0 }

  ops-count : length ops ≡ length c.ands
  ops-count = length-map c.ands (operand_table (variables c))

  op_at : (i : ℕ) → i < length c.ands → table_at ops i ≡ operand_table D (get_or c.ands i no_line)
  op_at i low = get_or-map (operand_table (variables c)) c.ands i no_line no_table low

  line_at : (i : ℕ) → i < length c.ands → table_at tables i ≡ and_table D (get_or c.ands i no_line)
  line_at i low =
      get_or_append_left (map (and_table D) c.ands) (map (output_table D) (own_outputs c)) no_table i (let size = length-map c.ands (and_table D) in omega (arith, size, low))
      ∙ get_or-map (and_table D) c.ands i no_line no_table low

  no_port : Port
  no_port = record { name = []; literal = 0 }

  output_at : (j : ℕ) → j < length (own_outputs c) → table_at tables (length c.ands + j) ≡ output_table D (get_or (own_outputs c) j no_port)
  output_at j low =
      let size = length-map c.ands (and_table D) in
      ap (λ k. table_at (map (and_table D) c.ands ++ map (output_table D) (own_outputs c)) (k + j)) (sym size)
      ∙ get_or-append-add (map (and_table D) c.ands) (map (output_table D) (own_outputs c)) j no_table
      ∙ get_or-map (output_table D) (own_outputs c) j no_port no_table low

  lines-grounded : (k s : ℕ) → IsGroundedIn n ops k s → IsGroundedIn n tables k s
  lines-grounded zero s h = h
  lines-grounded (suc k) s (inl h) = inl h
  lines-grounded (suc k) s (inr h) =
      elim (cases_lt s n) [
        | inl low ↦ inl low
        | inr high ↦
            let within : s - n < length c.ands = omega (arith, h.0, ops-count, high) in
            let a : AndLine = get_or c.ands (s - n) no_line in
            let pins : AllByRecursion (IsGroundedIn n tables k) (operand_table D a).pins =
            each_weaker (IsGroundedIn n ops k) (IsGroundedIn n tables k) (operand_table D a).pins (lines-grounded k)
            (subst (λ (t : TableValue). AllByRecursion (IsGroundedIn n ops k) t.pins) (op_at (s - n) within) h.1) in
            inr (
              omega (arith, within, tables-count, high),
              subst (λ (t : TableValue). AllByRecursion (IsGroundedIn n tables k) t.pins) (sym (line_at (s - n) within)) (line-reads D (IsGroundedIn n tables k) a pins),
            )
      ]

  module _ (no_loop : first_ungrounded (length c.inputs) (operand_tables c) ≡ None) where
    ops-acyclic : IsAcyclic n ops
    ops-acyclic = subst (λ m. IsAcyclic m (operand_tables c)) (sym same) (grounded (length c.inputs) (operand_tables c) no_loop)

    low-grounded : (s : ℕ) → s < n + length c.ands → IsGroundedIn n tables (length ops) s
    low-grounded s low =
        elim (cases_lt s n) [
          | inl input ↦ IsGroundedIn-input n tables (length ops) s input
          | inr high ↦ lines-grounded (length ops) s
              (let place : n + (s - n) ≡ s = omega (arith, high) in subst (IsGroundedIn n ops (length ops)) place (ops-acyclic (s - n) (omega (arith, low, high, ops-count))))
        ]

    output-grounded : (j : ℕ) → j < length (own_outputs c) → IsGroundedIn n tables (suc (length ops)) (n + (length c.ands + j))
    output-grounded j low =
        let p : Port = get_or (own_outputs c) j no_port in
        let here : IsUsable D (p.literal / 2) = All-from_recursion (λ (q : Port). IsUsable D (q.literal / 2)) (own_outputs c) own-usable j no_port low in
        let pins : AllByRecursion (IsGroundedIn n tables (length ops)) (output_table D p).pins =
        conjunction-reads D (IsGroundedIn n tables (length ops)) p.name (p.literal ∷ []) ((λ some. low-grounded (signal_of_variable D (p.literal / 2)) (signal-low (p.literal / 2) here some)), tt) in
        IsGroundedIn-table n tables (length ops) (length c.ands + j) (omega (arith, low, tables-count))
        (subst (λ (t : TableValue). AllByRecursion (IsGroundedIn n tables (length ops)) t.pins) (sym (output_at j low)) pins)

    tables-acyclic : IsAcyclic n tables
    tables-acyclic =
        acyclic_from_steps n tables
        (λ i within. elim (cases_lt i (length c.ands)) [
          | inl line ↦ (length ops, low-grounded (n + i) (omega (arith, line)))
          | inr past ↦
              let place : n + (length c.ands + (i - length c.ands)) ≡ n + i = omega (arith, past) in
              (suc (length ops), subst (IsGroundedIn n tables (suc (length ops))) place (output-grounded (i - length c.ands) (omega (arith, within, past, tables-count))))
        ])

    pub read-acyclic : IsAcyclic (input_count (net_of c)) (net_of c).tables
    unfolding net_of
    read-acyclic = tables-acyclic

    pub read-grounded : first_ungrounded (input_count (net_of c)) (net_of c).tables ≡ None
    read-grounded = acyclic-grounded (input_count (net_of c)) (net_of c).tables read-acyclic

  -- ---- signals

  abbrev pub IsSignal : ℕ → Type 0
  IsSignal s = s < n + length tables

  mapped : {X Y : Type 0} (f : X → Y) (P : Y → Type 0) (xs : List X) → AllByRecursion (λ x. P (f x)) xs → AllByRecursion P (map f xs)
  mapped f P [] h = tt
  mapped f P (x ∷ xs) h = (h.0, mapped f P xs h.1)

  weaker : {X : Type 0} (P Q : X → Type 0) → ((x : X) → P x → Q x) → (xs : List X) → AllByRecursion P xs → AllByRecursion Q xs
  weaker P Q f [] h = tt
  weaker P Q f (x ∷ xs) h = (f x h.0, weaker P Q f xs h.1)

  reads-signals : (v : ℕ) → IsUsable D v → Reads D IsSignal v
  reads-signals v here some = omega (arith, signal-low v here some, tables-count)

  pins-signals : AllByRecursion (λ (t : TableValue). AllByRecursion IsSignal t.pins) tables
  pins-signals =
      each-append (λ (t : TableValue). AllByRecursion IsSignal t.pins) (map (and_table D) c.ands) (map (output_table D) (own_outputs c))
      (mapped (and_table D) (λ (t : TableValue). AllByRecursion IsSignal t.pins) c.ands
      (weaker (λ (a : AndLine). AllByRecursion (IsUsable D) (operands a)) (λ (a : AndLine). AllByRecursion IsSignal (and_table D a).pins)
      (λ a h. conjunction-reads D IsSignal (and_name a.variable) (a.left ∷ a.right ∷ []) (reads-signals (a.left / 2) h.0, (reads-signals (a.right / 2) h.1.0, tt))) c.ands ands-usable))
      (mapped (output_table D) (λ (t : TableValue). AllByRecursion IsSignal t.pins) (own_outputs c)
      (weaker (λ (p : Port). IsUsable D (p.literal / 2)) (λ (p : Port). AllByRecursion IsSignal (output_table D p).pins)
      (λ p h. conjunction-reads D IsSignal p.name (p.literal ∷ []) (reads-signals (p.literal / 2) h, tt)) (own_outputs c) own-usable))

  pub port-signal : (p : Port) → IsThere (input_ports c) (own_outputs c) p → IsSignal (port_signal c p)
  port-signal p there = at_test (position (is_port p) (input_ports c)) refl
    where
      at_test : (found : Option ℕ) → position (is_port p) (input_ports c) ≡ found
          → elim found [ None ↦ length c.inputs + length c.ands + place_or_end (position (is_port p) (own_outputs c)) | Some input ↦ input ] < n + length tables
      at_test (Some s) is =
          let low = position-some (is_port p) (input_ports c) s is in
          let short = ports-short c.input_names (map literal_of_variable c.inputs) in
          omega (arith, low, short)
      at_test None is =
          let new : has_port (own_outputs c) p ≡ true = or_right (has_port (input_ports c) p) (has_port (own_outputs c) p) (false_from_ne_true (has_port (input_ports c) p)
          (λ h. let found = place-found (is_port p) (input_ports c) h in none-some found.0 (sym is ∙ found.1.0))) there in
          omega (arith, place-below (is_port p) (own_outputs c) new, tables-count, same)

  outputs-signals : AllByRecursion IsSignal (map (port_signal c) (output_ports c))
  outputs-signals =
      mapped (port_signal c) IsSignal (output_ports c)
      (weaker (IsThere (input_ports c) (own_outputs c)) (λ (p : Port). IsSignal (port_signal c p)) port-signal (output_ports c) (new_there (input_ports c) (output_ports c)))

  pub read-pins : All (λ t. All (λ s. s < signal_count (net_of c)) t.pins) (net_of c).tables
  unfolding net_of
  read-pins =
      All-from_recursion (λ (t : TableValue). All IsSignal t.pins) tables
      (weaker (λ (t : TableValue). AllByRecursion IsSignal t.pins) (λ (t : TableValue). All IsSignal t.pins) (λ t h. All-from_recursion IsSignal t.pins h) tables pins-signals)

  pub read-outputs : All (λ s. s < signal_count (net_of c)) (net_of c).outputs
  unfolding net_of
  read-outputs = All-from_recursion IsSignal (map (port_signal c) (output_ports c)) outputs-signals

  pub read-driven : first_undriven (net_of c) ≡ None
  read-driven = signals-driven (net_of c) (read-pins, read-outputs)
