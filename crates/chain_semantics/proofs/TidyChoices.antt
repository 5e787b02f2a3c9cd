-- A step of tidying is the chosen one: the first table at which a rule applies, its least rule, and the least pin of that rule.
use Rattle.std.proofs.Common.{◌≡◌, ℕ, zero, suc, ◌+◌, ◌<◌, ◌≤◌, Bool, true, false, cond, not, eqb, Option, Some, None, List, [], ◌∷◌, length, get_or, take, refl, ap, sym, subst, ◌∙◌, inl, inr, arith}
use Rattle.std.specs.Prelude.{◌&&◌, ◌||◌, ◌⊎◌}
use Rattle.std.specs.List.{list_any, list_all}
use Rattle.std.specs.Option.{option_map}
use Rattle.std.proofs.lemmas.Bool.{and_parts, and_from, cases_lt, cases_order, both_ways, not-true, not_from_false, false_from_ne_true, cases_Bool}
use Rattle.std.proofs.lemmas.Option.{none-some, same_Some}
use Rattle.std.proofs.lemmas.List.{get_or_default}
use Rattle.semantics.specs.declared.mark.Mark.{Mark}
use Rattle.semantics.specs.declared.mark.Mark.TheVariants.{Dash}
use Rattle.semantics.specs.Texts.{Bytes}
use Rattle.semantics.specs.Net.{TableValue, NetValue, no_table, table_at, input_count, table_count, is_literal, row_literals, constant_table, IsSound}
use Rattle.semantics.specs.Replaced.{with_table}
use Rattle.chain_semantics.specs.TidyRules.{is_empty, has, first_from, pin_at, mark_at, is_dash, first_place_of, is_constant_signal, constant_value, with_pin_fixed, without_pin, with_pins_joined}
use Rattle.chain_semantics.specs.TidyRules.{is_canonical, is_constant, made_canonical, is_output, is_read, has_one_literal, is_bypassed, with_bypass, is_unread, without_table}
use Rattle.chain_semantics.specs.Tidy.{some_if, first_some, by_constant_pin, by_dashed_pin, by_repeated_pin, by_constant, by_bypass, by_removal, step_at, tidy_step, IsTidy}
use Rattle.chain_semantics.specs.TidyLaws.{HasLiterals}
use Rattle.chain_semantics.specs.TidyChoices.{Rule, IsConstantSignal, IsCanonical, HasOneLiteral, IsOutput, IsRead, Applies, rule_number, pin_of, joined_pin_of, IsLesser, made, IsChosenStep}
use Rattle.chain_semantics.specs.TidyChoices.{HasNothingToTidy}
use Rattle.chain_semantics.specs.TidyChoices.Rule.{fix_pin, drop_pin, join_pins, make_constant, read_past, remove_table}
use Rattle.chain_semantics.proofs.TidyRows.{first_place}
use Rattle.chain_semantics.proofs.TidyTriples.{no_elements, no_length}
use Rattle.chain_semantics.proofs.TidyReading.{has-Contains, has_not, read-by, by-read}
use Rattle.chain_semantics.proofs.TidySteps.{first_from-found}
use Rattle.chain_semantics.proofs.TidyNets.{none_passes, first-step, none-at, none-anywhere, step-first, tidy-literals}
use Rattle.chain_semantics.proofs.TidyConditions.{some_elements, constant_signal-is, is-constant_signal, dashes-are, are-dashes, stands_before, place_is_first, canonical-is, is-canonical}
use Rattle.chain_semantics.proofs.TidyConditions.{one_value-is, is-one_value, one_literal-is, is-one_literal}

-- ---- the order of the rules

abbrev rule_of : ℕ → ℕ → ℕ → Rule
rule_of (suc zero) q p = fix_pin q
rule_of (suc (suc zero)) q p = drop_pin q
rule_of (suc (suc (suc zero))) q p = join_pins p q
rule_of (suc (suc (suc (suc zero)))) q p = make_constant
rule_of (suc (suc (suc (suc (suc zero))))) q p = read_past
rule_of _ q p = remove_table

rule_is : (r : Rule) → rule_of (rule_number r) (pin_of r) (joined_pin_of r) ≡ r
rule_is (fix_pin q) = refl
rule_is (drop_pin q) = refl
rule_is (join_pins p q) = refl
rule_is make_constant = refl
rule_is read_past = refl
rule_is remove_table = refl

numbered : (r : Rule) (k : ℕ) → rule_number r ≡ k → r ≡ rule_of k (pin_of r) (joined_pin_of r)
numbered r k e = sym (rule_is r) ∙ ap (λ n. rule_of n (pin_of r) (joined_pin_of r)) e

same_rule : (a b : Rule) → rule_number a ≡ rule_number b → pin_of a ≡ pin_of b → joined_pin_of a ≡ joined_pin_of b → a ≡ b
same_rule a b number pin joined =
    sym (rule_is a)
    ∙ ap (λ n. rule_of n (pin_of a) (joined_pin_of a)) number
    ∙ ap (λ q. rule_of (rule_number b) q (joined_pin_of a)) pin
    ∙ ap (rule_of (rule_number b) (pin_of b)) joined
    ∙ rule_is b

from_one : (r : Rule) → 1 ≤ rule_number r
from_one (fix_pin q) = omega arith
from_one (drop_pin q) = omega arith
from_one (join_pins p q) = omega arith
from_one make_constant = omega arith
from_one read_past = omega arith
from_one remove_table = omega arith

to_six : (r : Rule) → rule_number r < 7
to_six (fix_pin q) = omega arith
to_six (drop_pin q) = omega arith
to_six (join_pins p q) = omega arith
to_six make_constant = omega arith
to_six read_past = omega arith
to_six remove_table = omega arith

-- of two rules one is lesser, or they are the same
lesser_or_same : (a b : Rule) → IsLesser a b ⊎ ((a ≡ b) ⊎ IsLesser b a)
lesser_or_same a b =
    elim (cases_order (rule_number a) (rule_number b)) [
      | inr (inl below) ↦ inl (inl below)
      | inr (inr above) ↦ inr (inr (inl above))
      | inl number ↦ elim (cases_order (pin_of a) (pin_of b)) [
        | inr (inl below) ↦ inl (inr (number, inl below))
        | inr (inr above) ↦ inr (inr (inr (sym number, inl above)))
        | inl pin ↦ elim (cases_order (joined_pin_of a) (joined_pin_of b)) [
          | inr (inl below) ↦ inl (inr (number, inr (pin, below)))
          | inr (inr above) ↦ inr (inr (inr (sym number, inr (sym pin, above))))
          | inl joined ↦ inr (inl (same_rule a b number pin joined))
        ]
      ]
    ]

-- ---- the first pin that passes

before_at : (test : ℕ → Bool) (start count q : ℕ) → (first_from test (start + 1) count ≡ Some q → (p : ℕ) → start + 1 ≤ p → p < q → test p ≡ false) → (b : Bool) → test start ≡ b
    → cond b (Some start) (first_from test (start + 1) count) ≡ Some q → (p : ℕ) → start ≤ p → p < q → test p ≡ false
before_at test start count q rest true e found p past low = absurd (omega (arith, same_Some start q found))
before_at test start count q rest false e found p past low =
    elim (cases_lt start p) [
      | inl after ↦ rest found p (omega arith) low
      | inr not_after ↦ let at : start ≡ p = omega arith in subst (λ j. test j ≡ false) at e
    ]

none_before : (test : ℕ → Bool) (start count q : ℕ) → first_from test start count ≡ Some q → (p : ℕ) → start ≤ p → p < q → test p ≡ false
none_before test start zero q e p past low = absurd (none-some q e)
none_before test start (suc count) q e p past low = before_at test start count q (none_before test (start + 1) count q) (test start) refl e p past low

module _ (N : NetValue) (i : ℕ) where
  -- a rule of this number that applies at the table, where no lesser one of its number does, and what it makes
  record Found (k : ℕ) (o : Option NetValue) : Type 0 where
    rule : Rule
    number : rule_number rule ≡ k
    applies : Applies N i rule
    least : (r : Rule) → rule_number r ≡ k → IsLesser r rule → ¬ Applies N i r
    makes : o ≡ Some (made N i rule)

  abbrev Tried : ℕ → Option NetValue → Type 0
  Tried k o = ((o ≡ None) × ((r : Rule) → rule_number r ≡ k → ¬ Applies N i r)) ⊎ Found k o

  module _ (k n : ℕ) (test : ℕ → Bool) (rule_at : ℕ → Rule) (makes : Option ℕ → Option NetValue) where
    record IsByPin : Type 0 where
      number : (q : ℕ) → rule_number (rule_at q) ≡ k
      pin : (q : ℕ) → pin_of (rule_at q) ≡ q
      no : makes None ≡ None
      yes : (q : ℕ) → makes (Some q) ≡ Some (made N i (rule_at q))
      sound : (q : ℕ) → q < n → test q ≡ true → Applies N i (rule_at q)
      complete : (r : Rule) → rule_number r ≡ k → Applies N i r → (pin_of r < n) × (test (pin_of r) ≡ true)
      joined : (r : Rule) (q : ℕ) → rule_number r ≡ k → pin_of r ≡ q → joined_pin_of r < joined_pin_of (rule_at q) → ¬ Applies N i r

    by_pin_at : IsByPin → (o : Option ℕ) → first_from test 0 n ≡ o → Tried k (makes o)
    by_pin_at by None e =
        inl (
          by.no,
          λ r is h. let c = by.complete r is h in both_ways (test (pin_of r)) (none_passes test 0 n e (pin_of r) (omega arith) (omega (arith, c.0))) c.1,
        )
    by_pin_at by (Some q) e =
        let found = first_from-found test 0 n q e in
        inr (record {
          rule = rule_at q;
          number = by.number q;
          applies = by.sound q (omega (arith, found.0)) found.1;
          least = λ r is lesser h. elim lesser [
            | inl below ↦ absurd (omega (arith, below, is, by.number q))
            | inr (same, inl before) ↦
                both_ways (test (pin_of r)) (none_before test 0 n q e (pin_of r) (omega arith) (omega (arith, before, by.pin q))) (by.complete r is h).1
            | inr (same, inr (at, joined)) ↦ by.joined r q is (at ∙ by.pin q) joined h
          ];
          makes = by.yes q;
        })

    by_pin : IsByPin → Tried k (makes (first_from test 0 n))
    by_pin by = by_pin_at by (first_from test 0 n) refl

  -- a rule without pins
  by_test : (k : ℕ) (rule : Rule) (makes : Bool → Option NetValue) (b : Bool) → ((r : Rule) → rule_number r ≡ k → r ≡ rule) → rule_number rule ≡ k → pin_of rule ≡ 0 → joined_pin_of rule ≡ 0
      → makes false ≡ None → makes true ≡ Some (made N i rule) → (b ≡ true → Applies N i rule) → (Applies N i rule → b ≡ true) → Tried k (makes b)
  by_test k rule makes false only number pin joined at_none at_some sound complete =
      inl (at_none, λ r is h. both_ways false refl (complete (subst (Applies N i) (only r is) h)))
  by_test k rule makes true only number pin joined at_none at_some sound complete = inr (record {
    rule = rule;
    number = number;
    applies = sound refl;
    least = λ r is lesser h. elim lesser [
      | inl below ↦ omega (arith, below, is, number)
      | inr (same, inl before) ↦ omega (arith, before, pin)
      | inr (same, inr (at, less)) ↦ omega (arith, less, joined)
    ];
    makes = at_some;
  })

  abbrev table : TableValue
  table = table_at N.tables i

  abbrev signal : ℕ
  signal = input_count N + i

  tried_constant_pin : Tried 1 (option_map (with_table N i) (by_constant_pin (input_count N) N.tables table))
  tried_constant_pin =
      by_pin 1 (length table.pins) (λ q. is_constant_signal (input_count N) N.tables (pin_at table q)) fix_pin
      (λ o. option_map (with_table N i) (option_map (λ q. with_pin_fixed q (constant_value (input_count N) N.tables (pin_at table q)) table) o))
      (record {
        number = λ q. refl;
        pin = λ q. refl;
        no = refl;
        yes = λ q. refl;
        sound = λ q low e. (low, constant_signal-is N (pin_at table q) e);
        complete = λ r is h. (
            let applies : Applies N i (fix_pin (pin_of r)) = subst (Applies N i) (numbered r 1 is) h in
            (applies.0, is-constant_signal N (pin_at table (pin_of r)) applies.1));
        joined = λ r q is at less. absurd (omega (arith, less));
      })

  tried_dashed_pin : Tried 2 (option_map (with_table N i) (by_dashed_pin table))
  tried_dashed_pin =
      let some : Bool = not (is_empty table.rows) in
      let column : ℕ → Bool = λ q. list_all (λ marks. is_dash (mark_at marks q)) table.rows in
      by_pin 2 (length table.pins) (λ q. not (is_empty table.rows) && list_all (λ marks. is_dash (mark_at marks q)) table.rows) drop_pin
      (λ o. option_map (with_table N i) (option_map (λ q. without_pin q table) o))
      (record {
        number = λ q. refl;
        pin = λ q. refl;
        no = refl;
        yes = λ q. refl;
        sound = λ q low e. (let parts = and_parts some (column q) e in (low, some_elements table.rows parts.0, dashes-are q table.rows parts.1));
        complete = λ r is h. (
            let applies : Applies N i (drop_pin (pin_of r)) = subst (Applies N i) (numbered r 2 is) h in
            let filled : is_empty table.rows ≡ false = false_from_ne_true (is_empty table.rows) (λ e. applies.1 (no_elements table.rows e)) in
            (applies.0, and_from some (column (pin_of r)) (not_from_false (is_empty table.rows) filled) (are-dashes (pin_of r) table.rows applies.2)));
        joined = λ r q is at less. absurd (omega (arith, less));
      })

  tried_repeated_pin : Tried 3 (option_map (with_table N i) (by_repeated_pin table))
  tried_repeated_pin =
      let place : ℕ → ℕ = λ q. first_place_of table.pins (pin_at table q) in
      by_pin 3 (length table.pins) (λ q. has (take q table.pins) (pin_at table q)) (λ q. join_pins (first_place_of table.pins (pin_at table q)) q)
      (λ o. option_map (with_table N i) (option_map (λ q. with_pins_joined (first_place_of table.pins (pin_at table q)) q table) o))
      (record {
        number = λ q. refl;
        pin = λ q. refl;
        no = refl;
        yes = λ q. refl;
        sound = λ q low e. (let first = first_place table.pins (pin_at table q) q e in (first.0, low, first.1));
        complete = λ r is h. (
            let applies : Applies N i (join_pins (joined_pin_of r) (pin_of r)) = subst (Applies N i) (numbered r 3 is) h in
            (applies.1, stands_before table.pins (pin_at table (pin_of r)) (joined_pin_of r) (pin_of r) applies.0 (omega (arith, applies.0, applies.1)) applies.2));
        joined = λ r q is at less h. (
            let applies : Applies N i (join_pins (joined_pin_of r) (pin_of r)) = subst (Applies N i) (numbered r 3 is) h in
            place_is_first table.pins (pin_at table q) (joined_pin_of r) less (omega (arith, applies.0, applies.1)) (applies.2 ∙ ap (pin_at table) at));
      })

  tried_constant : Tried 4 (option_map (with_table N i) (by_constant table))
  tried_constant =
      let other : Bool = not (is_canonical table) in
      by_test 4 make_constant (λ b. option_map (with_table N i) (some_if b (made_canonical table))) (is_constant table)
      (λ r is. numbered r 4 is) refl refl refl refl refl
      (λ e.
      let parts = and_parts other (is_empty table.rows || list_any (λ marks. eqb (row_literals marks) 0) table.rows) e in
      (λ canonical. both_ways (is_canonical table) (not-true (is_canonical table) parts.0) (is-canonical table canonical), one_value-is table parts.1))
      (λ h. and_from other (is_empty table.rows || list_any (λ marks. eqb (row_literals marks) 0) table.rows)
      (not_from_false (is_canonical table) (false_from_ne_true (is_canonical table) (λ e. h.0 (canonical-is table e)))) (is-one_value table h.1))

  no_output : is_output N signal ≡ false → ¬ IsOutput N signal
  no_output e = has_not N.outputs signal e

  is_no_output : ¬ IsOutput N signal → not (is_output N signal) ≡ true
  is_no_output h = not_from_false (is_output N signal) (false_from_ne_true (is_output N signal) (λ e. h (has-Contains N.outputs signal e)))

  read : is_read N.tables signal ≡ true → IsRead N signal
  read e = let r = read-by N.tables signal e in (r.place, r.within, r.pin)

  is_read_so : IsRead N signal → is_read N.tables signal ≡ true
  is_read_so h = by-read N.tables signal (record { place = h.0; within = h.1; pin = h.2 })

  tried_bypass : Tried 5 (by_bypass N i)
  tried_bypass =
      by_test 5 read_past (λ b. some_if b (with_bypass N i)) (is_bypassed N i)
      (λ r is. numbered r 5 is) refl refl refl refl refl
      (λ e.
      let parts = and_parts (has_one_literal table && not (is_output N signal)) (is_read N.tables signal) e in
      let first = and_parts (has_one_literal table) (not (is_output N signal)) parts.0 in
      (one_literal-is table first.0, no_output (not-true (is_output N signal) first.1), read parts.1))
      (λ h. and_from (has_one_literal table && not (is_output N signal)) (is_read N.tables signal)
      (and_from (has_one_literal table) (not (is_output N signal)) (is-one_literal table h.0) (is_no_output h.1)) (is_read_so h.2))

  tried_removal : Tried 6 (by_removal N i)
  tried_removal =
      by_test 6 remove_table (λ b. some_if b (without_table N i)) (is_unread N i)
      (λ r is. numbered r 6 is) refl refl refl refl refl
      (λ e.
      let parts = and_parts (not (is_output N signal)) (not (is_read N.tables signal)) e in
      (no_output (not-true (is_output N signal) parts.0), λ h. both_ways (is_read N.tables signal) (not-true (is_read N.tables signal) parts.1) (is_read_so h)))
      (λ h. and_from (not (is_output N signal)) (not (is_read N.tables signal)) (is_no_output h.0)
      (not_from_false (is_read N.tables signal) (false_from_ne_true (is_read N.tables signal) (λ e. h.1 (read e)))))

  -- ---- the first of the rules in order

  abbrev AllTried : ℕ → List (Option NetValue) → Type 0
  AllTried k [] = Unit {0}
  AllTried k (o ∷ os) = Tried k o × AllTried (suc k) os

  pub record Least (o : Option NetValue) : Type 0 where
    pub rule : Rule
    pub applies : Applies N i rule
    pub no_lesser : (r : Rule) → IsLesser r rule → ¬ Applies N i r
    pub makes : o ≡ Some (made N i rule)

  abbrev NoneBelow : ℕ → Type 0
  NoneBelow k = (r : Rule) → rule_number r < k → ¬ Applies N i r

  first_tried : (k : ℕ) (os : List (Option NetValue)) → AllTried k os → NoneBelow k → ((first_some os ≡ None) × NoneBelow (k + length os)) ⊎ Least (first_some os)
  first_tried k [] tried none = inl (refl, λ r low. none r (omega (arith, low)))
  first_tried k (o ∷ os) tried none = at_tried tried.0 (first_tried (suc k) os tried.1)
    where
      at_tried : Tried k o → (NoneBelow (suc k) → ((first_some os ≡ None) × NoneBelow (suc k + length os)) ⊎ Least (first_some os))
          → ((first_some (o ∷ os) ≡ None) × NoneBelow (k + suc (length os))) ⊎ Least (first_some (o ∷ os))
      at_tried (inl (is_none, none_here)) rest =
          let skip : first_some (o ∷ os) ≡ first_some os = ap (λ u. first_some (u ∷ os)) is_none in
          let none_more : NoneBelow (suc k) = λ r low. elim (cases_lt (rule_number r) k) [ inl below ↦ none r below | inr at ↦ none_here r (omega (arith, low, at)) ] in
          elim (rest none_more) [
            | inl (e, all) ↦ inl (skip ∙ e, λ r low. all r (omega (arith, low)))
            | inr least ↦ inr (record { rule = least.rule; applies = least.applies; no_lesser = least.no_lesser; makes = skip ∙ least.makes })
          ]
      at_tried (inr found) rest = inr (record {
        rule = found.rule;
        applies = found.applies;
        no_lesser = λ r lesser. elim lesser [
          | inl below ↦ none r (omega (arith, below, found.number))
          | inr same ↦ found.least r (same.0 ∙ found.number) (inr same)
        ];
        makes = ap (λ u. first_some (u ∷ os)) found.makes;
      })

  -- at a table no rule applies and there is no step, or the step is that of the least rule that applies
  pub none_or_least : ((step_at N i ≡ None) × ((r : Rule) → ¬ Applies N i r)) ⊎ Least (step_at N i)
  none_or_least =
      elim (first_tried 1 (
      option_map (with_table N i) (by_constant_pin (input_count N) N.tables (table_at N.tables i))
      ∷ option_map (with_table N i) (by_dashed_pin (table_at N.tables i))
      ∷ option_map (with_table N i) (by_repeated_pin (table_at N.tables i))
      ∷ option_map (with_table N i) (by_constant (table_at N.tables i))
      ∷ by_bypass N i
      ∷ by_removal N i
      ∷ []) (tried_constant_pin, (tried_dashed_pin, (tried_repeated_pin, (tried_constant, (tried_bypass, (tried_removal, tt)))))) (λ r low. absurd (omega (arith, low, from_one r)))) [
        | inl (is_none, none) ↦ inl (is_none, λ r. none r (to_six r))
        | inr least ↦ inr least
      ]

  pub no_step-none : step_at N i ≡ None → (r : Rule) → ¬ Applies N i r
  no_step-none e = elim none_or_least [ inl none ↦ none.1 | inr least ↦ absurd (none-some (made N i least.rule) (sym e ∙ least.makes)) ]

  pub none-no_step : ((r : Rule) → ¬ Applies N i r) → step_at N i ≡ None
  none-no_step h = elim none_or_least [ inl none ↦ none.0 | inr least ↦ absurd (h least.rule least.applies) ]

pub step-chosen : (N M : NetValue) → tidy_step N ≡ Some M → IsChosenStep N M
step-chosen N M e =
    let at = first-step N M e in
    elim (none_or_least N at.table) [
      | inl none ↦ absurd (none-some M (sym none.0 ∙ at.step))
      | inr least ↦ (
        at.table,
        least.rule,
        record { within = at.within; applies = least.applies; no_lesser = least.no_lesser; none_earlier = λ j r low. no_step-none N j (at.first j low) r },
        same_Some (made N at.table least.rule) M (sym least.makes ∙ at.step),
      )
    ]

pub chosen-step : (N M : NetValue) → IsChosenStep N M → tidy_step N ≡ Some M
chosen-step N M (i, rule, chosen, is) =
    step-first N M i chosen.within (λ j low. none-no_step N j (λ r. chosen.none_earlier j r low)) (elim (none_or_least N i) [
      | inl none ↦ absurd (none.1 rule chosen.applies)
      | inr least ↦ elim (lesser_or_same least.rule rule) [
        | inl lesser ↦ absurd (chosen.no_lesser least.rule lesser least.applies)
        | inr (inl same) ↦ least.makes ∙ ap (λ r. Some (made N i r)) same ∙ ap Some is
        | inr (inr lesser) ↦ absurd (least.no_lesser rule lesser chosen.applies)
      ]
    ])

pub tidy-none : (N : NetValue) → IsTidy N → (i : ℕ) (rule : Rule) → i < table_count N → ¬ Applies N i rule
tidy-none N tidy i rule within = no_step-none N i (none-at N tidy i within) rule

pub none-tidy : (N : NetValue) → ((i : ℕ) (rule : Rule) → i < table_count N → ¬ Applies N i rule) → IsTidy N
none-tidy N h = none-anywhere N (λ i within. none-no_step N i (λ r. h i r within))

-- ---- a tidy net, table by table

needed_by : (N : NetValue) (i : ℕ) → ¬ Applies N i remove_table → IsOutput N (input_count N + i) ⊎ IsRead N (input_count N + i)
needed_by N i none =
    elim (cases_Bool (is_output N (input_count N + i))) [
      | inl listed ↦ inl (has-Contains N.outputs (input_count N + i) listed)
      | inr unlisted ↦ elim (cases_Bool (is_read N.tables (input_count N + i))) [
        | inl reads ↦ inr (read N i reads)
        | inr unread ↦ absurd (none (has_not N.outputs (input_count N + i) unlisted, λ h. both_ways (is_read N.tables (input_count N + i)) unread (is_read_so N i h)))
      ]
    ]

output_by : (N : NetValue) (i : ℕ) → ¬ Applies N i read_past → IsOutput N (input_count N + i) ⊎ IsRead N (input_count N + i) → HasOneLiteral (table_at N.tables i) → IsOutput N (input_count N + i)
output_by N i none (inl output) one = output
output_by N i none (inr reads) one =
    elim (cases_Bool (is_output N (input_count N + i))) [
      | inl listed ↦ has-Contains N.outputs (input_count N + i) listed
      | inr unlisted ↦ absurd (none (one, has_not N.outputs (input_count N + i) unlisted, reads))
    ]

pub tidy-nothing : (N : NetValue) → IsTidy N → (i : ℕ) → i < table_count N → HasNothingToTidy N i
tidy-nothing N tidy i within =
    let none : (rule : Rule) → ¬ Applies N i rule = λ rule. tidy-none N tidy i rule within in
    let t : TableValue = table_at N.tables i in
    let needed : IsOutput N (input_count N + i) ⊎ IsRead N (input_count N + i) = needed_by N i (none remove_table) in
    record {
      no_constant_pin = λ q d low h. (
          let same : get_or t.pins q d ≡ pin_at t q = get_or_default t.pins q d 0 low in none (fix_pin q) (low, subst (IsConstantSignal N) same h));
      no_repeated_pin = λ p q d before low e. (
          let left : get_or t.pins p d ≡ pin_at t p = get_or_default t.pins p d 0 (omega (arith, before, low)) in
          let right : get_or t.pins q d ≡ pin_at t q = get_or_default t.pins q d 0 low in
          none (join_pins p q) (before, low, sym left ∙ e ∙ right));
      no_bypass = output_by N i (none read_past) needed;
      needed = needed;
      literals = elim (tidy-literals N tidy i no_table within) [ inl canonical ↦ inl (canonical-is t canonical) | inr literals ↦ inr literals ];
    }

constant-pins : (name : Bytes) (value : Bool) → length (constant_table name value).pins ≡ 0
constant-pins name false = refl
constant-pins name true = refl

no_pins : (t : TableValue) → HasLiterals t → t.rows ≡ [] → t.pins ≡ []
no_pins t has none =
    elim (cases_lt 0 (length t.pins)) [
      | inl some ↦ absurd (let found = has.pins 0 some in omega (arith, found.2, ap length none))
      | inr none ↦ no_length t.pins (omega arith)
    ]

-- a table without rows and without pins is constant 0, if its plane is 1
bare_canonical : (t : TableValue) → t.pins ≡ [] → t.rows ≡ [] → t.plane ≡ true → IsCanonical t
bare_canonical t pins rows plane = (
  false,
  ap (λ p. record { name = t.name; pins = p; rows = t.rows; plane = t.plane }) pins
      ∙ ap (λ (r : List (List Mark)). record { name = t.name; pins = []; rows = r; plane = t.plane }) rows
      ∙ ap (λ b. record { name = t.name; pins = []; rows = []; plane = b }) plane,
)

nothing_applies : (N : NetValue) (i : ℕ) → HasNothingToTidy N i → ((table_at N.tables i).rows ≡ [] → (table_at N.tables i).plane ≡ true) → (rule : Rule) → ¬ Applies N i rule
nothing_applies N i h plane (fix_pin q) applies = h.no_constant_pin q 0 applies.0 applies.1
nothing_applies N i h plane (drop_pin q) applies =
    elim h.literals [
      | inl canonical ↦ omega (arith, applies.0, ap (λ (t : TableValue). length t.pins) canonical.1 ∙ constant-pins (table_at N.tables i).name canonical.0)
      | inr has ↦
          let found = has.pins q applies.0 in
          let dash : mark_at found.1 q ≡ Dash = subst (λ marks. mark_at marks q ≡ Dash) found.3 (applies.2 found.0 found.1 found.2) in
          both_ways (is_literal (mark_at found.1 q)) (ap is_literal dash) found.4
    ]
nothing_applies N i h plane (join_pins p q) applies = h.no_repeated_pin p q 0 applies.0 applies.1 applies.2
nothing_applies N i h plane make_constant applies =
    elim h.literals [
      | inl canonical ↦ applies.0 canonical
      | inr has ↦ elim applies.1 [
        | inl none ↦ applies.0 (bare_canonical (table_at N.tables i) (no_pins (table_at N.tables i) has none) none (plane none))
        | inr found ↦
            let some : 0 < row_literals found.1 = subst (λ marks. 0 < row_literals marks) found.3 (has.rows found.0 found.1 found.2) in
            omega (arith, some, found.4)
      ]
    ]
nothing_applies N i h plane read_past applies = applies.1 (h.no_bypass applies.0)
nothing_applies N i h plane remove_table applies = elim h.needed [ inl output ↦ applies.0 output | inr reads ↦ applies.1 reads ]

pub nothing-tidy : (N : NetValue) → IsSound N → ((i : ℕ) → i < table_count N → HasNothingToTidy N i) → IsTidy N
nothing-tidy N sound h = none-tidy N (λ i rule within. nothing_applies N i (h i within) (sound.tables_formed i no_table within).plane rule)
