-- Variables that are used: the first that is not known, and the pins of tables that read them.
use Rattle.std.proofs.Common.{◌≡◌, ℕ, zero, suc, ◌+◌, ◌-◌, ◌/◌, ◌<◌, Bool, true, false, cond, not, ◌||◌, ◌&&◌, ◌==◌, ltb, List, [], ◌∷◌, ◌++◌, map, flat_map, filter, find, length, get_or, All}
use Rattle.std.proofs.Common.{Option, Some, None, refl, ap, sym, subst, ◌∙◌, arith}
use Rattle.std.specs.List.{AllByRecursion, list_all, position, position_or_len, range_with_len}
use Rattle.std.specs.Option.{is_some, option_map}
use Rattle.std.proofs.lemmas.Bool.{both_ways, eq-eqb}
use Rattle.std.proofs.lemmas.List.{length-append, length-map, get_or-map}
use Rattle.std.proofs.lemmas.List.Elements.{All-from_recursion}
use Rattle.std.proofs.lemmas.Option.{none-some}
use Rattle.semantics.specs.Net.{TableValue, table_at}
use Rattle.semantics.specs.Order.{IsOrderOf}
use Rattle.semantics.proofs.Ordered.{order-acyclic}
use Rattle.semantics.proofs.Refused.{acyclic-grounded, ungrounded}
use Rattle.aiger_text.specs.ReadCircuit.{IsRead}
use Rattle.semantics.specs.Refusals.{is_grounded_in, is_ungrounded, first_ungrounded}
use Rattle.aiger_semantics.specs.declared.and_line.AndLine.{AndLine}
use Rattle.aiger_semantics.specs.Circuit.{CircuitValue}
use Rattle.aiger_semantics.specs.ReadNet.{variables, signal_of_variable}
use Rattle.aiger_semantics.specs.Reading.{has_variable, operands, operand_table, operand_tables, first_undefined, first_loop}
use Rattle.aiger_semantics.proofs.ReadWired.{IsUsable, signal-below, ands-usable}

-- ---- the first of joined lists

pub find-append : {X : Type 0} (test : X → Bool) (xs ys : List X) → find test xs ≡ None → find test (xs ++ ys) ≡ find test ys
find-append test [] ys none = refl
find-append test (x ∷ xs) ys none = at_test (test x) none (find-append test xs ys)
  where
    at_test : (t : Bool) → cond t (Some x) (find test xs) ≡ None → (find test xs ≡ None → find test (xs ++ ys) ≡ find test ys) → cond t (Some x) (find test (xs ++ ys)) ≡ find test ys
    at_test true e rest = absurd (none-some x (sym e))
    at_test false e rest = rest e

pub find-first : {X : Type 0} (test : X → Bool) (xs ys : List X) (x : X) → find test xs ≡ Some x → find test (xs ++ ys) ≡ Some x
find-first test [] ys x found = absurd (none-some x found)
find-first test (y ∷ xs) ys x found = at_test (test y) found (find-first test xs ys x)
  where
    at_test : (t : Bool) → cond t (Some y) (find test xs) ≡ Some x → (find test xs ≡ Some x → find test (xs ++ ys) ≡ Some x) → cond t (Some y) (find test (xs ++ ys)) ≡ Some x
    at_test true e rest = e
    at_test false e rest = rest e

-- ---- tables with the same pins

abbrev pub all_pins : List TableValue → List (List ℕ)
all_pins tables = map (λ t. t.pins) tables

pins-at : (tables : List TableValue) (i : ℕ) → (table_at tables i).pins ≡ get_or (all_pins tables) i []
pins-at [] i = refl
pins-at (t ∷ tables) zero = refl
pins-at (t ∷ tables) (suc i) = pins-at tables i

all-same : (f g : ℕ → Bool) → ((s : ℕ) → f s ≡ g s) → (xs : List ℕ) → list_all f xs ≡ list_all g xs
all-same f g same [] = refl
all-same f g same (x ∷ xs) = ap (λ t. t && list_all f xs) (same x) ∙ ap (λ t. g x && t) (all-same f g same xs)

place-same : (f g : ℕ → Bool) → ((s : ℕ) → f s ≡ g s) → (xs : List ℕ) → position_or_len f xs ≡ position_or_len g xs
place-same f g same [] = refl
place-same f g same (x ∷ xs) = ap (λ t. cond (not t) (1 + position_or_len f xs) 0) (same x) ∙ ap (λ k. cond (not (g x)) (1 + k) 0) (place-same f g same xs)

position-same : (f g : ℕ → Bool) → ((s : ℕ) → f s ≡ g s) → (xs : List ℕ) → position f xs ≡ position g xs
position-same f g same xs = ap (λ k. cond (ltb k (length xs)) (Some k) None) (place-same f g same xs)

module _ (n : ℕ) (tables others : List TableValue) (same : all_pins tables ≡ all_pins others) where
  pub same-count : length tables ≡ length others
  same-count = sym (length-map tables (λ t. t.pins)) ∙ ap length same ∙ length-map others (λ t. t.pins)

  same-grounded : (steps s : ℕ) → is_grounded_in n tables steps s ≡ is_grounded_in n others steps s
  same-grounded zero s = refl
  same-grounded (suc steps) s =
      ap (λ k. ltb s n || (ltb s (n + k) && list_all (is_grounded_in n tables steps) (table_at tables (s - n)).pins)) same-count
      ∙ ap (λ ps. ltb s n || (ltb s (n + length others) && list_all (is_grounded_in n tables steps) ps)) (pins-at tables (s - n) ∙ ap (λ ps. get_or ps (s - n) []) same ∙ sym (pins-at others (s - n)))
      ∙ ap (λ t. ltb s n || (ltb s (n + length others) && t)) (all-same (is_grounded_in n tables steps) (is_grounded_in n others steps) (same-grounded steps) (table_at others (s - n)).pins)

  pub same-ungrounded : first_ungrounded n tables ≡ first_ungrounded n others
  unfolding first_ungrounded
  same-ungrounded =
      position-same (is_ungrounded n tables) (is_ungrounded n others)
      (λ i. ap (λ k. not (is_grounded_in n tables k (n + i))) same-count ∙ ap not (same-grounded (length others) (n + i))) (range_with_len 0 (length tables))
      ∙ ap (λ k. position (is_ungrounded n others) (range_with_len 0 k)) same-count

  -- what holds of the pins of the ones holds of those of the others
  pub same-each : (P : ℕ → Type 0) → AllByRecursion (λ t. AllByRecursion P t.pins) others → All (λ t. All P t.pins) tables
  same-each P h = All-from_recursion (λ t. All P t.pins) tables (each-table tables (subst (AllByRecursion (AllByRecursion P)) (sym same) (each-pins others h)))
    where
      each-pins : (ts : List TableValue) → AllByRecursion (λ t. AllByRecursion P t.pins) ts → AllByRecursion (AllByRecursion P) (all_pins ts)
      each-pins [] k = tt
      each-pins (t ∷ ts) k = (k.0, each-pins ts k.1)

      each-table : (ts : List TableValue) → AllByRecursion (AllByRecursion P) (all_pins ts) → AllByRecursion (λ t. All P t.pins) ts
      each-table [] k = tt
      each-table (t ∷ ts) k = (All-from_recursion P t.pins k.0, each-table ts k.1)

-- ---- the pins of operands

module _ (c : CircuitValue) (same : length c.input_names ≡ length c.inputs) (none : first_undefined c ≡ None) where
  pins-below : (vs : List ℕ) → AllByRecursion (IsUsable (variables c)) vs
      → AllByRecursion (λ s. s < length (variables c)) (map (signal_of_variable (variables c)) (filter (λ v. not (v == 0)) vs))
  pins-below [] h = tt
  pins-below (v ∷ vs) h = at_test (v == 0) refl (pins-below vs h.1)
    where
      at_test : (t : Bool) → (v == 0) ≡ t → AllByRecursion (λ s. s < length (variables c)) (map (signal_of_variable (variables c)) (filter (λ u. not (u == 0)) vs))
          → AllByRecursion (λ s. s < length (variables c)) (map (signal_of_variable (variables c)) (cond (not t) (v ∷ filter (λ u. not (u == 0)) vs) (filter (λ u. not (u == 0)) vs)))
      at_test true is rest = rest
      at_test false is rest = (signal-below (variables c) v h.0 (λ e. both_ways (v == 0) is (eq-eqb v 0 e)), rest)

  lines-below : (ands : List AndLine) → AllByRecursion (λ a. AllByRecursion (IsUsable (variables c)) (operands a)) ands
      → AllByRecursion (λ t. AllByRecursion (λ s. s < length (variables c)) t.pins) (map (operand_table (variables c)) ands)
  lines-below [] h = tt
  lines-below (a ∷ ands) h = (pins-below (operands a) h.0, lines-below ands h.1)

  pub operands-below : AllByRecursion (λ t. AllByRecursion (λ s. s < length (variables c)) t.pins) (operand_tables c)
  operands-below = lines-below c.ands (ands-usable c same none)

pub variables-count : (c : CircuitValue) → length (variables c) ≡ length c.inputs + length c.ands
variables-count c =
    let sum = length-append c.inputs (map (λ a. a.variable) c.ands) in
    let lines = length-map c.ands (λ a. a.variable) in
    omega (arith, sum, lines)

-- ---- the first that is not known

abbrev unknown : List ℕ → ℕ → Bool
unknown defined v = not (v == 0 || has_variable defined v)

module _ (c : CircuitValue) (defined : List ℕ) (same : defined ≡ variables c) (lines : List AndLine) (here : lines ≡ c.ands) (found : Option ℕ)
    (first : found ≡ find (unknown defined) (flat_map operands lines)) where
  operand-is : found ≡ find (unknown (variables c)) (flat_map operands c.ands)
  operand-is = first ∙ ap (λ d. find (unknown d) (flat_map operands lines)) same ∙ ap (λ ls. find (unknown (variables c)) (flat_map operands ls)) here

  pub undefined-operand : is_some found ≡ true → found ≡ first_undefined c
  undefined-operand some = at_found found refl some
    where
      at_found : (o : Option ℕ) → found ≡ o → is_some o ≡ true → found ≡ first_undefined c
      at_found None e k = absurd (both_ways false refl k)
      at_found (Some v) e k = e ∙ sym (find-first (unknown (variables c)) (flat_map operands c.ands) (map (λ l. l / 2) c.outputs) v (sym operand-is ∙ e))

  pub undefined-output : is_some found ≡ false → (outputs : List ℕ) → outputs ≡ c.outputs → (last : Option ℕ) → last ≡ find (unknown defined) (map (λ l. l / 2) outputs) → last ≡ first_undefined c
  undefined-output none outputs equal last is = at_found found refl none
    where
      at_found : (o : Option ℕ) → found ≡ o → is_some o ≡ false → last ≡ first_undefined c
      at_found (Some v) e k = absurd (both_ways true k refl)
      at_found None e k =
          is ∙ ap (λ d. find (unknown d) (map (λ l. l / 2) outputs)) same ∙ ap (λ ls. find (unknown (variables c)) (map (λ l. l / 2) ls)) equal
          ∙ sym (find-append (unknown (variables c)) (flat_map operands c.ands) (map (λ l. l / 2) c.outputs) (sym operand-is ∙ e))

-- ---- loops

module _ (c : CircuitValue) (read : IsRead c) (known : List ℕ) (same : known ≡ variables c) (lines : List AndLine) (are : lines ≡ c.ands) (slice tables : List TableValue) (is : slice ≡ tables)
    (pins : all_pins tables ≡ all_pins (map (operand_table known) lines)) (n : ℕ) (inputs : n ≡ length c.inputs) where
  table-pins : all_pins slice ≡ all_pins (operand_tables c)
  table-pins = ap all_pins is ∙ pins ∙ ap (λ d. all_pins (map (operand_table d) lines)) same ∙ ap (λ ls. all_pins (map (operand_table (variables c)) ls)) are

  pub slice-count : length slice ≡ length c.ands
  slice-count = same-count n slice (operand_tables c) table-pins ∙ length-map c.ands (operand_table (variables c))

  pub pins-within : first_undefined c ≡ None → All (λ t. All (λ s. s < n + length slice) t.pins) slice
  pins-within none =
      let bound : length (variables c) ≡ n + length slice = omega (arith, variables-count c, slice-count, inputs) in
      same-each n slice (operand_tables c) table-pins (λ s. s < n + length slice)
      (subst (λ k. AllByRecursion (λ t. AllByRecursion (λ s. s < k) t.pins) (operand_tables c)) bound (operands-below c read.input_names none))

  ungrounded-is : first_ungrounded n slice ≡ first_ungrounded (length c.inputs) (operand_tables c)
  ungrounded-is = same-ungrounded n slice (operand_tables c) table-pins ∙ ap (λ k. first_ungrounded k (operand_tables c)) inputs

  pub no-loop : (order : List ℕ) → IsOrderOf n slice order → first_loop c ≡ None
  no-loop order h = ap (option_map (λ i. get_or (map (λ a. a.variable) c.ands) i 0)) (sym ungrounded-is ∙ acyclic-grounded n slice (order-acyclic n slice order h))

  pub loop-within : (i : ℕ) → first_ungrounded n slice ≡ Some i → i < length lines
  loop-within i found = omega (arith, (ungrounded n slice i found).within, slice-count, ap length are)

  pub loop-at : (i : ℕ) (d : AndLine) → first_ungrounded n slice ≡ Some i → first_loop c ≡ Some (get_or lines i d).variable
  loop-at i d found =
      ap (option_map (λ k. get_or (map (λ a. a.variable) c.ands) k 0)) (sym ungrounded-is ∙ found)
      ∙ ap (λ ls. Some (get_or (map (λ a. a.variable) ls) i 0)) (sym are)
      ∙ ap Some (get_or-map (λ a. a.variable) lines i d 0 (loop-within i found))
