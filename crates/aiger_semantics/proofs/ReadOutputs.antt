-- The net that is read has the circuit's outputs.
use Rattle.std.proofs.Common.{◌≡◌, ◌≢◌, ℕ, zero, suc, ◌+◌, ◌-◌, ◌/◌, ◌%◌, ◌<◌, ◌≤◌, Bool, true, false, cond, not, ◌||◌, ◌&&◌, ◌==◌, ltb, List, [], ◌∷◌, ◌++◌, map, length, get_or, AllPairs, bytes_eq}
use Rattle.std.proofs.Common.{Option, Some, None, refl, ap, sym, subst, ◌∙◌, append_assoc, append-nil, inl, inr, arith}
use Rattle.std.specs.List.{AllByRecursion, list_any, list_all, position, position_or_len}
use Rattle.std.proofs.lemmas.Bool.{cases_lt, lt-ltb, ltb-true, both_ways, eqb-true, eqb-false, eq-eqb, ne_eqb, false_from_ne_true, and_parts, or_parts}
use Rattle.std.proofs.lemmas.List.{length-map, get_or_append_left, get_or-append-add, get_or-map}
use Rattle.std.proofs.lemmas.List.Elements.{recursion_from_All, All-from_recursion}
use Rattle.std.proofs.lemmas.List.Folds.{list_any_at}
use Rattle.std.proofs.lemmas.List.Quantifiers.{all_pairs_push}
use Rattle.std.proofs.lemmas.List.Sums.{position_or_len_is, passes_at_first}
use Rattle.std.proofs.lemmas.Option.{none-some, same_Some}
use Rattle.semantics.specs.declared.mark.Mark.TheVariants.{Zero, One}
use Rattle.semantics.specs.Texts.{Bytes}
use Rattle.semantics.specs.Net.{TableValue, no_table, table_at, constant_table, IsAcyclic}
use Rattle.semantics.specs.Value.{Assignment, mark_matches, row_matches, table_value, IsConsistent, value_of, outputs_of}
use Rattle.semantics.proofs.Values.{value_law}
use Rattle.aiger_semantics.specs.declared.and_line.AndLine.{AndLine}
use Rattle.aiger_semantics.specs.Circuit.{CircuitValue, literal_of_variable, literal_value, and_value, Fits, output_values, HasOutputs}
use Rattle.aiger_semantics.specs.ReadNet.{variables, place_or_end, signal_of_variable, literal_mark, asked, conjunction_table, and_name, and_table, Port, is_port, ports, input_ports, output_ports}
use Rattle.aiger_semantics.specs.ReadNet.{has_port, own_outputs, output_table, port_signal, net_of}
use Rattle.aiger_semantics.specs.Reading.{has_variable, first_repeated_after, first_repeated, operands}
use Rattle.aiger_semantics.proofs.Literals.{value-variable}
use Rattle.aiger_semantics.proofs.ReadWired.{none_if, place-found, position-some, or_right, IsUsable, IsThere, each_there, new_there, defined-count, tables-count, ands-usable, own-usable}
use Rattle.aiger_semantics.proofs.ReadWired.{port-signal, read-acyclic}
use Rattle.aiger_semantics.proofs.ReadLines.{IsInput, IsDrawn, IsDefinition}
use Rattle.aiger_semantics.proofs.ReadSound.{IsAccepted}

-- ---- variables that differ have one place each

apart_from : (earlier : List ℕ) (v : ℕ) → has_variable earlier v ≡ false → (k d : ℕ) → k < length earlier → get_or earlier k d ≢ v
apart_from earlier v none k d within e = both_ways (has_variable earlier v) none (list_any_at (λ u. u == v) earlier k d within (eq-eqb (get_or earlier k d) v e))

differ_after : (earlier vs : List ℕ) → AllPairs ◌≢◌ earlier → first_repeated_after earlier vs ≡ None → AllPairs ◌≢◌ (earlier ++ vs)
differ_after earlier [] differ none = subst (AllPairs ◌≢◌) (sym (append-nil earlier)) differ
differ_after earlier (v ∷ vs) differ none =
    let apart = none_if (has_variable earlier v) v (first_repeated_after (earlier ++ v ∷ []) vs) none in
    subst (AllPairs ◌≢◌) (append_assoc earlier (v ∷ []) vs)
    (differ_after (earlier ++ v ∷ []) vs (all_pairs_push ◌≢◌ earlier v differ (apart_from earlier v apart.0)) apart.1)

differ : (D : List ℕ) → first_repeated D ≡ None → AllPairs ◌≢◌ D
differ D none = differ_after [] D (λ i j d low short. absurd (omega arith)) none

place-is : (D : List ℕ) → first_repeated D ≡ None → (i : ℕ) → i < length D → signal_of_variable D (get_or D i 0) ≡ i
place-is D none i within =
    let test : ℕ → Bool = λ u. u == get_or D i 0 in
    let before : (k : ℕ) → k < i → test (get_or D k 0) ≡ false = (λ k low. ne_eqb (get_or D k 0) (get_or D i 0) (differ D none k i 0 low within)) in
    let place : position_or_len test D ≡ i = position_or_len_is test D i 0 (omega (arith, within)) before (λ _. eq-eqb (get_or D i 0) (get_or D i 0) refl) in
    ap (λ k. place_or_end (cond (ltb k (length D)) (Some k) None)) place ∙ ap (λ t. place_or_end (cond t (Some i) None)) (lt-ltb i (length D) within)

-- what stands at the place passes the test
found-passes : {X : Type 0} (test : X → Bool) (xs : List X) (k : ℕ) (d : X) → position test xs ≡ Some k → test (get_or xs k d) ≡ true
found-passes test xs k d e = at_test (ltb (position_or_len test xs) (length xs)) refl e
  where
    at_test : (t : Bool) → ltb (position_or_len test xs) (length xs) ≡ t → cond t (Some (position_or_len test xs)) None ≡ Some k → test (get_or xs k d) ≡ true
    at_test true is h = subst (λ j. test (get_or xs j d) ≡ true) (same_Some _ _ h) (passes_at_first test xs d (ltb-true (position_or_len test xs) (length xs) is))
    at_test false is h = absurd (none-some k h)

-- ---- a conjunction's value

module _ (D : List ℕ) (V u : Assignment) (constant : u 0 ≡ false) where
  -- the signal of a literal's variable has the variable's value, unless it is a constant
  abbrev Agrees : ℕ → Type 0
  Agrees v = (v ≡ 0 → ⊥) → V (signal_of_variable D v) ≡ u v

  with-zero : (ls : List ℕ) → list_any (λ l. l == 0) ls ≡ true → list_all (literal_value u) ls ≡ false
  with-zero [] h = absurd (both_ways false refl h)
  with-zero (l ∷ ls) h = at_test (l == 0) refl (with-zero ls)
    where
      and_false : (b : Bool) → (b && false) ≡ false
      and_false true = refl
      and_false false = refl

      later : (b : Bool) → b ≡ false → (b || list_any (λ k. k == 0) ls) ≡ true → list_any (λ k. k == 0) ls ≡ true
      later false is k = k
      later true is k = absurd (both_ways true is refl)

      at_test : (t : Bool) → (l == 0) ≡ t → (list_any (λ k. k == 0) ls ≡ true → list_all (literal_value u) ls ≡ false) → (literal_value u l && list_all (literal_value u) ls) ≡ false
      at_test true is rest =
          let none : l ≡ 0 = eqb-true l 0 is in
          ap (λ k. literal_value u k && list_all (literal_value u) ls) none ∙ ap (λ b. b && list_all (literal_value u) ls) constant
      at_test false is rest = ap (λ b. literal_value u l && b) (rest (later (l == 0) is h)) ∙ and_false (literal_value u l)

  mark-value : (l : ℕ) (b : Bool) → b ≡ u (l / 2) → mark_matches (literal_mark l) b ≡ literal_value u l
  mark-value l b is = at_test (l % 2 == 0)
    where
      at_test : (t : Bool) → mark_matches (cond t One Zero) b ≡ cond t (u (l / 2)) (not (u (l / 2)))
      at_test true = is
      at_test false = ap not is

  row-value : (ls : List ℕ) → list_any (λ l. l == 0) ls ≡ false → AllByRecursion (λ l. Agrees (l / 2)) ls
      → row_matches (map literal_mark (asked ls)) (map (λ l. signal_of_variable D (l / 2)) (asked ls)) V ≡ list_all (literal_value u) ls
  row-value [] none h = refl
  row-value (l ∷ ls) none h = at_test (l == 1) refl (row-value ls (or_parts (l == 0) (list_any (λ k. k == 0) ls) none).1 h.1)
    where
      at_test : (t : Bool) → (l == 1) ≡ t → row_matches (map literal_mark (asked ls)) (map (λ k. signal_of_variable D (k / 2)) (asked ls)) V ≡ list_all (literal_value u) ls
          → row_matches (map literal_mark (cond (not t) (l ∷ asked ls) (asked ls))) (map (λ k. signal_of_variable D (k / 2)) (cond (not t) (l ∷ asked ls) (asked ls))) V
          ≡ (literal_value u l && list_all (literal_value u) ls)
      at_test true is rest =
          let one : l ≡ 1 = eqb-true l 1 is in
          rest ∙ sym (ap (λ k. literal_value u k && list_all (literal_value u) ls) one ∙ ap (λ b. not b && list_all (literal_value u) ls) constant)
      at_test false is rest =
          let some : l / 2 ≡ 0 → ⊥ = (λ e. omega (arith, e, eqb-false l 1 is, eqb-false l 0 (or_parts (l == 0) (list_any (λ k. k == 0) ls) none).0)) in
          ap (λ b. b && row_matches (map literal_mark (asked ls)) (map (λ k. signal_of_variable D (k / 2)) (asked ls)) V) (mark-value l (V (signal_of_variable D (l / 2))) (h.0 some))
          ∙ ap (λ b. literal_value u l && b) rest

  pub conjunction-value : (name : Bytes) (ls : List ℕ) → AllByRecursion (λ l. Agrees (l / 2)) ls → table_value (conjunction_table D name ls) V ≡ list_all (literal_value u) ls
  conjunction-value name ls h = at_test (list_any (λ l. l == 0) ls) refl
    where
      one_row : (b : Bool) → cond (b || false) true false ≡ b
      one_row true = refl
      one_row false = refl

      at_test : (t : Bool) → list_any (λ l. l == 0) ls ≡ t
          → table_value (cond t (constant_table name false) (record { name = name; pins = map (λ l. signal_of_variable D (l / 2)) (asked ls); rows = map literal_mark (asked ls) ∷ []; plane = true }))
          V
          ≡ list_all (literal_value u) ls
      at_test true is = sym (with-zero ls is)
      at_test false is = one_row (row_matches (map literal_mark (asked ls)) (map (λ l. signal_of_variable D (l / 2)) (asked ls)) V) ∙ row-value ls is h

  and_true : (b : Bool) → (b && true) ≡ b
  and_true true = refl
  and_true false = refl

  -- of a line, and of an output
  pub line-value : (a : AndLine) → Agrees (a.left / 2) → Agrees (a.right / 2) → table_value (and_table D a) V ≡ and_value u a
  line-value a left right =
      conjunction-value (and_name a.variable) (a.left ∷ a.right ∷ []) (left, (right, tt)) ∙ ap (λ b. literal_value u a.left && b) (and_true (literal_value u a.right))

  pub output-value : (p : Port) → Agrees (p.literal / 2) → table_value (output_table D p) V ≡ literal_value u p.literal
  output-value p here = conjunction-value p.name (p.literal ∷ []) (here, tt) ∙ and_true (literal_value u p.literal)

-- ---- ports

ports-literal : (names : List Bytes) (literals : List ℕ) (s : ℕ) (d : Port) → s < length (ports names literals) → (get_or (ports names literals) s d).literal ≡ get_or literals s 0
ports-literal [] literals s d low = absurd (omega (arith, low))
ports-literal (name ∷ names) [] s d low = absurd (omega (arith, low))
ports-literal (name ∷ names) (l ∷ ls) zero d low = refl
ports-literal (name ∷ names) (l ∷ ls) (suc s) d low = ports-literal names ls s d (omega (arith, low))

ports-short : (names : List Bytes) (literals : List ℕ) → length (ports names literals) ≤ length literals
ports-short [] literals = omega arith
ports-short (name ∷ names) [] = omega arith
ports-short (name ∷ names) (literal ∷ literals) = omega (arith, ports-short names literals)

same-literal : (p q : Port) → is_port p q ≡ true → p.literal ≡ q.literal
same-literal p q h = eqb-true p.literal q.literal (and_parts (bytes_eq p.name q.name) (p.literal == q.literal) h).1

along-ports : (f : ℕ → Bool) (g : Port → Bool) (names : List Bytes) (literals : List ℕ) → length names ≡ length literals → AllByRecursion (λ p. g p ≡ f p.literal) (ports names literals)
    → map f literals ≡ map g (ports names literals)
along-ports f g [] [] same h = refl
along-ports f g [] (l ∷ ls) same h = absurd (omega (arith, same))
along-ports f g (name ∷ names) [] same h = refl
along-ports f g (name ∷ names) (l ∷ ls) same h =
    let rest = along-ports f g names ls (omega (arith, same)) h.1 in
    ap (λ b. b ∷ map f ls) (sym h.0) ∙ ap (λ bs. g (record { name = name; literal = l }) ∷ bs) rest

map-map : {X Y Z : Type 0} (f : Y → Z) (g : X → Y) (xs : List X) → map (λ x. f (g x)) xs ≡ map f (map g xs)
map-map f g [] = refl
map-map f g (x ∷ xs) = ap (λ ys. f (g x) ∷ ys) (map-map f g xs)

-- ---- the circuit and its net

module _ (c : CircuitValue) (drawn : IsDrawn c) (acc : IsAccepted c) (x : List Bool) where
  abbrev D : List ℕ
  D = variables c

  abbrev n : ℕ
  n = length c.input_names

  abbrev A : ℕ
  A = length c.ands

  abbrev tables : List TableValue
  tables = map (and_table D) c.ands ++ map (output_table D) (own_outputs c)

  V : Assignment
  V = value_of n tables x

  acyclic : IsAcyclic n tables
  unfolding net_of
  acyclic = read-acyclic c drawn.input_count acc.all_defined acc.no_loop

  V-consistent : IsConsistent n tables x V
  unfolding V
  V-consistent = (value_law n tables x acyclic).consistent

  V-only : (w : Assignment) → IsConsistent n tables x w → (s : ℕ) → s < n + length tables → w s ≡ V s
  unfolding V
  V-only w h = (value_law n tables x acyclic).only w h

  defined-size : length D ≡ n + A
  defined-size = defined-count c drawn.input_count acc.all_defined

  tables-size : length tables ≡ A + length (own_outputs c)
  tables-size = tables-count c drawn.input_count acc.all_defined

  input_at : (i : ℕ) → i < n → get_or D i 0 ≡ get_or c.inputs i 0
  input_at i low = get_or_append_left c.inputs (map (λ a. a.variable) c.ands) 0 i (let same = drawn.input_count in omega (arith, low, same))

  variable_at : (j : ℕ) (d : AndLine) → j < A → get_or D (n + j) 0 ≡ (get_or c.ands j d).variable
  variable_at j d low =
      let same = drawn.input_count in
      ap (λ k. get_or D (k + j) 0) same ∙ get_or-append-add c.inputs (map (λ a. a.variable) c.ands) j 0 ∙ get_or-map (λ a. a.variable) c.ands j d 0 low

  line_at : (j : ℕ) (d : AndLine) → j < A → table_at tables j ≡ and_table D (get_or c.ands j d)
  line_at j d low =
      get_or_append_left (map (and_table D) c.ands) (map (output_table D) (own_outputs c)) no_table j (let size = length-map c.ands (and_table D) in omega (arith, size, low))
      ∙ get_or-map (and_table D) c.ands j d no_table low

  no_port : Port
  no_port = record { name = []; literal = 0 }

  output_at : (k : ℕ) → k < length (own_outputs c) → table_at tables (A + k) ≡ output_table D (get_or (own_outputs c) k no_port)
  output_at k low =
      let size = length-map c.ands (and_table D) in
      ap (λ m. table_at tables (m + k)) (sym size)
      ∙ get_or-append-add (map (and_table D) c.ands) (map (output_table D) (own_outputs c)) k no_table
      ∙ get_or-map (output_table D) (own_outputs c) k no_port no_table low

  -- ---- the net's values fit

  u : Assignment
  u w = cond (w == 0) false (V (signal_of_variable D w))

  u-some : (w : ℕ) → (w ≡ 0 → ⊥) → u w ≡ V (signal_of_variable D w)
  unfolding u
  u-some w some = rw (ne_eqb w 0 some) refl

  u-zero : u 0 ≡ false
  unfolding u
  u-zero = refl

  fits : Fits c x u
  fits = record {
    constant = u-zero;
    input = λ i low.
        let same = drawn.input_count in
        let within : i < n = omega (arith, low, same) in
        let some : 0 < get_or c.inputs i 0 = (All-from_recursion IsInput c.inputs drawn.inputs_formed i 0 low).some in
        u-some (get_or c.inputs i 0) (λ e. omega (arith, e, some))
        ∙ ap V (ap (signal_of_variable D) (sym (input_at i within)) ∙ place-is D acc.once i (omega (arith, within, defined-size))) ∙ V-consistent.input i within;
    lines = recursion_from_All (λ (a : AndLine). u a.variable ≡ and_value u a) c.ands
        (λ j d low.
        let line : AndLine = get_or c.ands j d in
        let is : IsDefinition line = All-from_recursion IsDefinition c.ands drawn.lines_define j d low in
        let some = is.some in
        u-some line.variable (λ e. omega (arith, e, some))
        ∙ ap V (ap (signal_of_variable D) (sym (variable_at j d low)) ∙ place-is D acc.once (n + j) (omega (arith, low, defined-size)))
        ∙ V-consistent.table j (omega (arith, low, tables-size)) ∙ ap (λ t. table_value t V) (line_at j d low)
        ∙ line-value D V u u-zero line (λ k. sym (u-some (line.left / 2) k)) (λ k. sym (u-some (line.right / 2) k)));
  }

  -- ---- and nothing else does

  module _ (v : Assignment) (fit : Fits c x v) where
    W : Assignment
    W s = cond (ltb s (n + A)) (v (get_or D s 0)) (literal_value v (get_or (own_outputs c) (s - (n + A)) no_port).literal)

    W-low : (s : ℕ) → s < n + A → W s ≡ v (get_or D s 0)
    unfolding W
    W-low s low = rw (lt-ltb s (n + A) low) refl

    W-high : (k : ℕ) → W (n + A + k) ≡ literal_value v (get_or (own_outputs c) k no_port).literal
    unfolding W
    W-high k =
        let past : ltb (n + A + k) (n + A) ≡ false = false_from_ne_true (ltb (n + A + k) (n + A)) (λ t. omega (arith, ltb-true (n + A + k) (n + A) t)) in
        let place : n + A + k - (n + A) ≡ k = omega arith in
        rw past (ap (λ j. literal_value v (get_or (own_outputs c) j no_port).literal) place)

    W-signal : (w : ℕ) → IsUsable D w → Agrees D W v fit.constant w
    W-signal w here some =
        let found = place-found (λ k. k == w) D (or_right (w == 0) (has_variable D w) (ne_eqb w 0 some) here) in
        ap W (ap place_or_end found.1.0) ∙ W-low found.0 (omega (arith, found.1.1, defined-size)) ∙ ap v (eqb-true (get_or D found.0 0) w (found-passes (λ k. k == w) D found.0 0 found.1.0))

    no_line : AndLine
    no_line = record { variable = 0; left = 0; right = 0 }

    line-consistent : (i : ℕ) → i < A → W (n + i) ≡ table_value (table_at tables i) W
    line-consistent i low =
        let a : AndLine = get_or c.ands i no_line in
        let used = All-from_recursion (λ (b : AndLine). AllByRecursion (IsUsable D) (operands b)) c.ands (ands-usable c drawn.input_count acc.all_defined) i no_line low in
        let holds : v a.variable ≡ and_value v a = All-from_recursion (λ (b : AndLine). v b.variable ≡ and_value v b) c.ands fit.lines i no_line low in
        W-low (n + i) (omega (arith, low)) ∙ ap v (variable_at i no_line low) ∙ holds
        ∙ sym (ap (λ t. table_value t W) (line_at i no_line low) ∙ line-value D W v fit.constant a (W-signal (a.left / 2) used.0) (W-signal (a.right / 2) used.1.0))

    output-consistent : (k : ℕ) → k < length (own_outputs c) → W (n + A + k) ≡ table_value (table_at tables (A + k)) W
    output-consistent k low =
        let p : Port = get_or (own_outputs c) k no_port in
        let here : IsUsable D (p.literal / 2) = All-from_recursion (λ (q : Port). IsUsable D (q.literal / 2)) (own_outputs c) (own-usable c drawn.input_count acc.all_defined) k no_port low in
        W-high k ∙ sym (ap (λ t. table_value t W) (output_at k low) ∙ output-value D W v fit.constant p (W-signal (p.literal / 2) here))

    W-consistent : IsConsistent n tables x W
    W-consistent = record {
      input = λ s low.
          let same = drawn.input_count in
          W-low s (omega (arith, low)) ∙ ap v (input_at s low) ∙ fit.input s (omega (arith, low, same));
      table = λ i within.
          elim (cases_lt i A) [
            | inl low ↦ line-consistent i low
            | inr past ↦
                let place : A + (i - A) ≡ i = omega (arith, past) in
                let signal : n + A + (i - A) ≡ n + i = omega (arith, past) in
                ap W (sym signal) ∙ output-consistent (i - A) (omega (arith, within, past, tables-size)) ∙ ap (λ j. table_value (table_at tables j) W) place
          ];
    }

    port-value : (p : Port) → IsThere (input_ports c) (own_outputs c) p → W (port_signal c p) ≡ literal_value v p.literal
    port-value p there = at_test (position (is_port p) (input_ports c)) refl
      where
        at_test : (found : Option ℕ) → position (is_port p) (input_ports c) ≡ found
            → W (elim found [ None ↦ length c.inputs + length c.ands + place_or_end (position (is_port p) (own_outputs c)) | Some input ↦ input ]) ≡ literal_value v p.literal
        at_test (Some s) is =
            let same = drawn.input_count in
            let low = position-some (is_port p) (input_ports c) s is in
            let size = length-map c.inputs literal_of_variable in
            let short = ports-short c.input_names (map literal_of_variable c.inputs) in
            let within : s < length c.inputs = omega (arith, low, short, size) in
            let literal : p.literal ≡ literal_of_variable (get_or c.inputs s 0) =
            same-literal p (get_or (input_ports c) s no_port) (found-passes (is_port p) (input_ports c) s no_port is)
            ∙ ports-literal c.input_names (map literal_of_variable c.inputs) s no_port low ∙ get_or-map literal_of_variable c.inputs s 0 0 within in
            W-low s (omega (arith, within, same)) ∙ ap v (input_at s (omega (arith, within, same))) ∙ sym (ap (literal_value v) literal ∙ value-variable v (get_or c.inputs s 0))
        at_test None is =
            let same = drawn.input_count in
            let new : has_port (own_outputs c) p ≡ true = or_right (has_port (input_ports c) p) (has_port (own_outputs c) p) (false_from_ne_true (has_port (input_ports c) p)
            (λ h. let found = place-found (is_port p) (input_ports c) h in none-some found.0 (sym is ∙ found.1.0))) there in
            let found = place-found (is_port p) (own_outputs c) new in
            let place : length c.inputs + length c.ands + place_or_end (position (is_port p) (own_outputs c)) ≡ n + A + found.0 =
            ap (λ o. length c.inputs + length c.ands + place_or_end o) found.1.0 ∙ (omega (arith, same)) in
            ap W place ∙ W-high found.0
            ∙ sym (ap (literal_value v) (same-literal p (get_or (own_outputs c) found.0 no_port) (found-passes (is_port p) (own_outputs c) found.0 no_port found.1.0)))

    outputs-same : output_values c v ≡ outputs_of (net_of c) x
    unfolding net_of outputs_of V
    outputs-same =
        along-ports (literal_value v) (λ p. V (port_signal c p)) c.output_names c.outputs drawn.output_count
        (each_there (IsThere (input_ports c) (own_outputs c)) (λ (p : Port). V (port_signal c p) ≡ literal_value v p.literal)
        (λ p there. sym (V-only W W-consistent (port_signal c p) (port-signal c drawn.input_count acc.all_defined p there)) ∙ port-value p there) (output_ports c)
        (new_there (input_ports c) (output_ports c)))
        ∙ map-map V (port_signal c) (output_ports c)

  pub circuit-outputs : HasOutputs c x (outputs_of (net_of c) x)
  circuit-outputs = record { values = u; fit = fits; only = outputs-same }
