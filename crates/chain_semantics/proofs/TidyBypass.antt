-- Rule 5: what reads a buffer or an inverter reads its pin.
use Rattle.std.proofs.Common.{◌≡◌, ◌≢◌, ℕ, ◌+◌, ◌<◌, ◌≤◌, Bool, true, false, cond, not, List, [], ◌∷◌, ◌++◌, map, length, get_or, refl, ap, sym, subst, ◌∙◌, inl, inr, arith}
use Rattle.std.specs.Prelude.{◌&&◌, ◌||◌, All, AllPairs, Contains}
use Rattle.std.specs.List.{sum_by, list_any, list_all}
use Rattle.std.proofs.lemmas.Bool.{cases_eq, eq-eqb, ne_eqb, and_parts, false≢true, false_from_ne_true}
use Rattle.std.proofs.lemmas.Simd.{map-map}
use Rattle.std.proofs.lemmas.List.{length-map, get_or-map, map-id}
use Rattle.std.proofs.lemmas.List.Elements.{All-map, All-weaker, Contains-get_or}
use Rattle.std.proofs.lemmas.List.Sums.{sum_by-cons}
use Rattle.semantics.specs.declared.mark.Mark.{Mark}
use Rattle.semantics.specs.declared.mark.Mark.TheVariants.{Zero, One, Dash}
use Rattle.semantics.specs.Net.{TableValue, NetValue, no_table, table_at, input_count, table_count, signal_count, signal_names, name_of, is_literal, row_literals, table_literals, IsTable, IsSound}
use Rattle.semantics.specs.Net.{IsAcyclic}
use Rattle.semantics.specs.Value.{Assignment, mark_matches, row_matches, table_value, IsConsistent, value_of, outputs_of}
use Rattle.semantics.proofs.Values.{table_value-same, value_law}
use Rattle.semantics.specs.Dependence.DependsOn.{itself}
use Rattle.semantics.specs.Renamed.{renamed, redirect}
use Rattle.semantics.proofs.Depends.{each_member, no_cycle, pin_is_signal}
use Rattle.semantics.proofs.Embedded.{table_value-renamed}
use Rattle.semantics.proofs.Renamed.{redirected-acyclic}
use Rattle.chain_semantics.specs.TidyRules.{is_empty, mark_at, pin_at, is_canonical, is_canonical_rows, is_one_literal, has_one_literal, is_inverter, is_output, is_read, is_bypassed}
use Rattle.chain_semantics.specs.TidyRules.{with_marks_turned, reading_past, with_bypass}
use Rattle.chain_semantics.proofs.TidyMeasure.{table_cost, unless, count_below}
use Rattle.chain_semantics.specs.TidyLevels.{greatest, level_of, triple_of, IsBelow}
use Rattle.chain_semantics.proofs.TidyLevelling.{levels, levels-fall, greatest-map-le, tables-lt}
use Rattle.chain_semantics.proofs.TidyTriples.{below-levels, has-greatest}
use Rattle.chain_semantics.specs.TidyLaws.{DoesNotGrow}
use Rattle.chain_semantics.proofs.TidyRows.{literals-turned, length-turned, turned-matches}
use Rattle.chain_semantics.proofs.TidyTables.{map_none}
use Rattle.chain_semantics.proofs.TidyReading.{Contains-has, IsReadBy, read-by, by-read, count_below-lt}
use Rattle.chain_semantics.proofs.TidyGood.{IsGoodStep}
use Rattle.chain_semantics.proofs.TidyReplacing.{outputs-same}
use Rattle.chain_semantics.proofs.TidyMapped.{all-pins, sum-map-le, acyclic-pins, acyclic_by_pins, IsImage, Contains-from_map}

by_mark : (m : Mark) (plane b : Bool) → is_literal m ≡ true → cond ((mark_matches m b && true) || false) plane (not plane) ≡ cond (not (mark_matches m plane) && true) (not b) b
by_mark Zero true true h = refl
by_mark Zero true false h = refl
by_mark Zero false true h = refl
by_mark Zero false false h = refl
by_mark One true true h = refl
by_mark One true false h = refl
by_mark One false true h = refl
by_mark One false false h = refl
by_mark Dash plane b h = absurd (false≢true h)

-- the value of a buffer or an inverter
one_literal-value : (pins : List ℕ) (rows : List (List Mark)) (plane : Bool) (v : Assignment) → is_one_literal pins rows ≡ true
    → cond (list_any (λ marks. row_matches marks pins v) rows) plane (not plane)
    ≡ cond (list_all (λ marks. not (mark_matches (mark_at marks 0) plane)) rows) (not (v (get_or pins 0 0))) (v (get_or pins 0 0))
one_literal-value (p ∷ []) ((m ∷ []) ∷ []) plane v h = by_mark m plane (v p) h
one_literal-value [] rows plane v h = absurd (false≢true h)
one_literal-value (p ∷ q ∷ pins) rows plane v h = absurd (false≢true h)
one_literal-value (p ∷ []) [] plane v h = absurd (false≢true h)
one_literal-value (p ∷ []) ([] ∷ rows) plane v h = absurd (false≢true h)
one_literal-value (p ∷ []) ((m ∷ k ∷ marks) ∷ rows) plane v h = absurd (false≢true h)
one_literal-value (p ∷ []) ((m ∷ []) ∷ marks ∷ rows) plane v h = absurd (false≢true h)

pub one_literal-pin : (pins : List ℕ) (rows : List (List Mark)) → is_one_literal pins rows ≡ true → 0 < length pins
one_literal-pin [] rows h = absurd (false≢true h)
one_literal-pin (p ∷ pins) rows h = omega arith

redirect-same : (from to s : ℕ) → s ≡ from → redirect from to s ≡ to
redirect-same from to s e = rw (eq-eqb s from e) refl

pub redirect-other : (from to s : ℕ) → (s ≡ from → ⊥) → redirect from to s ≡ s
redirect-other from to s ne = rw (ne_eqb s from ne) refl

redirect-value : (from to s : ℕ) (v : Assignment) → v from ≡ v to → v (redirect from to s) ≡ v s
redirect-value from to s v e =
    elim (cases_eq s from) [
      | inl same ↦ ap v (redirect-same from to s same) ∙ sym e ∙ ap v (sym same)
      | inr ne ↦ ap v (redirect-other from to s ne)
    ]

turned_any : (s to : ℕ) (pins : List ℕ) (v : Assignment) → v s ≡ not (v to) → (rows : List (List Mark))
    → list_any (λ marks. row_matches marks (map (redirect s to) pins) v) (map (with_marks_turned s pins) rows) ≡ list_any (λ marks. row_matches marks pins v) rows
turned_any s to pins v e [] = refl
turned_any s to pins v e (marks ∷ rows) = let here = turned-matches s to pins marks v e in let rest = turned_any s to pins v e rows in cc

pub past-value : (s to : ℕ) (inverted : Bool) (t : TableValue) (v : Assignment) → v s ≡ cond inverted (not (v to)) (v to) → table_value (reading_past s to inverted t) v ≡ table_value t v
past-value s to true t v e = ap (λ some. cond some t.plane (not t.plane)) (turned_any s to t.pins v e t.rows)
past-value s to false t v e =
    table_value-renamed (redirect s to) t (reading_past s to false t) v refl refl refl
    ∙ table_value-same t (λ p. v (redirect s to p)) v (each_member (λ p. v (redirect s to p) ≡ v p) t.pins (λ p c. redirect-value s to p v e))

past-formed : (s to : ℕ) (inverted : Bool) (t : TableValue) → IsTable t → IsTable (reading_past s to inverted t)
past-formed s to true t h = record {
  named = h.named;
  widths = All-map (λ marks. length marks ≡ length (map (redirect s to) t.pins)) (with_marks_turned s t.pins) t.rows
      (All-weaker (λ marks. length marks ≡ length t.pins) (λ marks. length (with_marks_turned s t.pins marks) ≡ length (map (redirect s to) t.pins))
      (λ marks e. length-turned s t.pins marks ∙ e ∙ sym (length-map t.pins (redirect s to))) t.rows h.widths);
  plane = λ none. h.plane (map_none (with_marks_turned s t.pins) t.rows none);
}
past-formed s to false t h = record {
  named = h.named;
  widths = subst (λ k. All (λ marks. length marks ≡ k) t.rows) (sym (length-map t.pins (redirect s to))) h.widths;
  plane = h.plane;
}

turned-literals : (s : ℕ) (pins : List ℕ) (rows : List (List Mark)) → sum_by row_literals (map (with_marks_turned s pins) rows) ≤ sum_by row_literals rows
turned-literals s pins [] = omega arith
turned-literals s pins (marks ∷ rows) =
    omega (
      arith,
      sum_by-cons row_literals marks rows,
      sum_by-cons row_literals (with_marks_turned s pins marks) (map (with_marks_turned s pins) rows),
      literals-turned s pins marks,
      turned-literals s pins rows,
    )

past-literals : (s to : ℕ) (inverted : Bool) (t : TableValue) → table_literals (reading_past s to inverted t) ≤ table_literals t
past-literals s to true t = turned-literals s t.pins t.rows
past-literals s to false t = omega arith

past-rows : (s to : ℕ) (inverted : Bool) (t : TableValue) → length (reading_past s to inverted t).rows ≤ length t.rows
past-rows s to true t = omega (arith, length-map t.rows (with_marks_turned s t.pins))
past-rows s to false t = omega arith

past_canonical : (s to : ℕ) (inverted plane : Bool) (pins : List ℕ) (rows : List (List Mark))
    → (is_empty (map (redirect s to) pins) && plane && is_canonical_rows (cond inverted (map (with_marks_turned s pins) rows) rows)) ≡ (is_empty pins && plane && is_canonical_rows rows)
past_canonical s to true plane [] rows = ap (λ r. plane && is_canonical_rows r) (map-id rows)
past_canonical s to false plane [] rows = refl
past_canonical s to inverted plane (p ∷ pins) rows = refl

past-cost : (s to : ℕ) (inverted : Bool) (t : TableValue) → table_cost (reading_past s to inverted t) ≤ table_cost t
past-cost s to inverted t =
    let same : unless (is_canonical (reading_past s to inverted t)) ≡ unless (is_canonical t) = ap unless (past_canonical s to inverted t.plane t.pins t.rows) in
    omega (arith, length-map t.pins (redirect s to))

module _ (N : NetValue) (i : ℕ) (sound : IsSound N) (within : i < table_count N) (e : is_bypassed N i ≡ true) where
  n : ℕ
  n = input_count N

  pin : ℕ
  pin = pin_at (table_at N.tables i) 0

  past : TableValue → TableValue
  past = reading_past (input_count N + i) (pin_at (table_at N.tables i) 0) (is_inverter (table_at N.tables i))

  first_two : ((has_one_literal (table_at N.tables i) && not (is_output N (input_count N + i))) ≡ true) × (is_read N.tables (input_count N + i) ≡ true)
  first_two = and_parts (has_one_literal (table_at N.tables i) && not (is_output N (input_count N + i))) (is_read N.tables (input_count N + i)) e

  one_literal : has_one_literal (table_at N.tables i) ≡ true
  one_literal = (and_parts (has_one_literal (table_at N.tables i)) (not (is_output N (input_count N + i))) first_two.0).0

  own : Contains (table_at N.tables i).pins (pin_at (table_at N.tables i) 0)
  own = Contains-get_or (table_at N.tables i).pins 0 0 (one_literal-pin (table_at N.tables i).pins (table_at N.tables i).rows one_literal)

  pin_differs : pin_at (table_at N.tables i) 0 ≡ input_count N + i → ⊥
  pin_differs same = no_cycle (input_count N) N.tables i sound.acyclic within (pin_at (table_at N.tables i) 0) own (itself same)

  same_count : signal_count N ≡ signal_count (with_bypass N i)
  same_count = ap (λ k. input_count N + k) (sym (length-map N.tables (reading_past (input_count N + i) (pin_at (table_at N.tables i) 0) (is_inverter (table_at N.tables i)))))

  same_names : signal_names (with_bypass N i) ≡ signal_names N
  same_names = ap (λ names. N.inputs ++ names) (map-map (λ t. t.name) (reading_past (input_count N + i) (pin_at (table_at N.tables i) 0) (is_inverter (table_at N.tables i))) N.tables)

  at-past : (j : ℕ) → j < table_count N → table_at (with_bypass N i).tables j
      ≡ reading_past (input_count N + i) (pin_at (table_at N.tables i) 0) (is_inverter (table_at N.tables i)) (table_at N.tables j)
  at-past j h = get_or-map (reading_past (input_count N + i) (pin_at (table_at N.tables i) 0) (is_inverter (table_at N.tables i))) N.tables j no_table no_table h

  acyclic' : IsAcyclic (input_count N) (with_bypass N i).tables
  acyclic' =
      let f : (ℕ → ℕ) = redirect (input_count N + i) (pin_at (table_at N.tables i) 0) in
      acyclic_by_pins (input_count N) (map (renamed f) N.tables) (with_bypass N i).tables
      (omega (arith, same_count, length-map N.tables (renamed f)))
      (λ j h.
      let inside : j < table_count N = omega (arith, length-map N.tables (renamed f)) in
      ap (λ t. t.pins) (at-past j inside) ∙ sym (ap (λ t. t.pins) (get_or-map (renamed f) N.tables j no_table no_table inside)))
      (redirected-acyclic (input_count N) N.tables i (pin_at (table_at N.tables i) 0) sound.acyclic own)

  -- the values are consistent with the edited tables too
  same-values : (x : List Bool) (s : ℕ) → s < signal_count N → value_of (input_count N) N.tables x s ≡ value_of (input_count N) (with_bypass N i).tables x s
  same-values x s h =
      let v : Assignment = value_of (input_count N) N.tables x in
      let law : IsConsistent (input_count N) N.tables x v = (value_law (input_count N) N.tables x sound.acyclic).consistent in
      let bypassed : v (input_count N + i) ≡ cond (is_inverter (table_at N.tables i)) (not (v (pin_at (table_at N.tables i) 0))) (v (pin_at (table_at N.tables i) 0)) =
      law.table i within ∙ one_literal-value (table_at N.tables i).pins (table_at N.tables i).rows (table_at N.tables i).plane v one_literal in
      (value_law (input_count N) (with_bypass N i).tables x acyclic').only v
      (record {
        input = law.input;
        table = λ j below.
            let inside : j < table_count N = omega (arith, same_count) in
            law.table j inside
            ∙ sym (past-value (input_count N + i) (pin_at (table_at N.tables i) 0) (is_inverter (table_at N.tables i)) (table_at N.tables j) v bypassed)
            ∙ ap (λ t. table_value t v) (sym (at-past j inside));
      }) s (omega (arith, same_count))

  pub bypass-sound : IsSound (with_bypass N i)
  bypass-sound = record {
    model_named = sound.model_named;
    inputs_named = sound.inputs_named;
    tables_formed = All-map IsTable (reading_past (input_count N + i) (pin_at (table_at N.tables i) 0) (is_inverter (table_at N.tables i))) N.tables
        (All-weaker IsTable (λ t. IsTable (reading_past (input_count N + i) (pin_at (table_at N.tables i) 0) (is_inverter (table_at N.tables i)) t))
        (past-formed (input_count N + i) (pin_at (table_at N.tables i) 0) (is_inverter (table_at N.tables i))) N.tables sound.tables_formed);
    names_differ = subst (AllPairs ◌≢◌) (sym same_names) sound.names_differ;
    has_output = sound.has_output;
    outputs_are_signals = subst (λ k. All (λ s. s < k) N.outputs) same_count sound.outputs_are_signals;
    pins_are_signals = acyclic-pins (input_count N) (with_bypass N i).tables acyclic';
    acyclic = acyclic';
  }

  pub bypass-grows : DoesNotGrow N (with_bypass N i)
  bypass-grows =
      let g : (TableValue → TableValue) = reading_past (input_count N + i) (pin_at (table_at N.tables i) 0) (is_inverter (table_at N.tables i)) in
      let f : (ℕ → ℕ) = redirect (input_count N + i) (pin_at (table_at N.tables i) 0) in
      record {
        tables = omega (arith, same_count);
        literals = sum-map-le table_literals g (past-literals (input_count N + i) (pin_at (table_at N.tables i) 0) (is_inverter (table_at N.tables i))) N.tables;
        rows = sum-map-le (λ t. length t.rows) g (past-rows (input_count N + i) (pin_at (table_at N.tables i) 0) (is_inverter (table_at N.tables i))) N.tables;
        pins = sum-map-le (λ t. length t.pins) g (λ t. omega (arith, length-map t.pins f)) N.tables;
        table_pins = λ most h. All-map (λ t. length t.pins ≤ most) g N.tables
            (All-weaker (λ t. length t.pins ≤ most) (λ t. length (map f t.pins) ≤ most) (λ t less. omega (arith, length-map t.pins f)) N.tables h);
      }

  -- what is read now was read before, and is not the bypassed table
  pub read_before : (s : ℕ) → is_read (with_bypass N i).tables s ≡ true → (is_read N.tables s ≡ true) × (s ≡ input_count N + i → ⊥)
  read_before s r =
      let f : (ℕ → ℕ) = redirect (input_count N + i) (pin_at (table_at N.tables i) 0) in
      let by : IsReadBy (with_bypass N i).tables s = read-by (with_bypass N i).tables s r in
      let inside : by.place < table_count N = omega (arith, by.within, same_count) in
      let image : IsImage (redirect (input_count N + i) (pin_at (table_at N.tables i) 0)) (table_at N.tables by.place).pins s =
      Contains-from_map (redirect (input_count N + i) (pin_at (table_at N.tables i) 0)) (table_at N.tables by.place).pins s (subst (λ t. Contains t.pins s) (at-past by.place inside) by.pin) in
      elim (cases_eq image.of (input_count N + i)) [
        | inl same ↦
            let is : pin_at (table_at N.tables i) 0 ≡ s = sym (redirect-same (input_count N + i) (pin_at (table_at N.tables i) 0) image.of same) ∙ image.is in (
              by-read N.tables s (record { place = i; within = within; pin = subst (Contains (table_at N.tables i).pins) is own }),
              λ bad. pin_differs (is ∙ bad),
            )
        | inr ne ↦
            let is : image.of ≡ s = sym (redirect-other (input_count N + i) (pin_at (table_at N.tables i) 0) image.of ne) ∙ image.is in (
              by-read N.tables s (record { place = by.place; within = inside; pin = subst (Contains (table_at N.tables by.place).pins) is image.inside }),
              λ bad. ne (is ∙ bad),
            )
      ]

  -- the pin has a lower level than the table
  pin_lower : level_of (input_count N) N.tables (pin_at (table_at N.tables i) 0) < level_of (input_count N) N.tables (input_count N + i)
  pin_lower =
      omega (
        arith,
        (levels (input_count N) N.tables sound.acyclic).table i within,
        has-greatest (level_of (input_count N) N.tables) (table_at N.tables i).pins (pin_at (table_at N.tables i) 0) (Contains-has (table_at N.tables i).pins (pin_at (table_at N.tables i) 0) own),
      )

  redirect_lower : (s : ℕ) → level_of (input_count N) N.tables (redirect (input_count N + i) (pin_at (table_at N.tables i) 0) s) ≤ level_of (input_count N) N.tables s
  redirect_lower s =
      let level : (ℕ → ℕ) = level_of (input_count N) N.tables in
      elim (cases_eq s (input_count N + i)) [
        | inl same ↦
            let new : level (redirect (input_count N + i) (pin_at (table_at N.tables i) 0) s) ≡ level (pin_at (table_at N.tables i) 0)
            = ap level (redirect-same (input_count N + i) (pin_at (table_at N.tables i) 0) s same) in
            let old : level s ≡ level (input_count N + i) = ap level same in
            omega (arith, pin_lower)
        | inr ne ↦
            let new : level (redirect (input_count N + i) (pin_at (table_at N.tables i) 0) s) ≡ level s = ap level (redirect-other (input_count N + i) (pin_at (table_at N.tables i) 0) s ne) in
            omega arith
      ]

  redirect_within : (s : ℕ) → s < signal_count N → redirect (input_count N + i) (pin_at (table_at N.tables i) 0) s < signal_count N
  redirect_within s h =
      elim (cases_eq s (input_count N + i)) [
        | inl same ↦ omega (
          arith,
          redirect-same (input_count N + i) (pin_at (table_at N.tables i) 0) s same,
          pin_is_signal (input_count N) N.tables i (pin_at (table_at N.tables i) 0) sound.acyclic within own,
        )
        | inr ne ↦ omega (arith, redirect-other (input_count N + i) (pin_at (table_at N.tables i) 0) s ne)
      ]

  levels_fall : (s : ℕ) → s < signal_count N → level_of (input_count N) (with_bypass N i).tables s ≤ level_of (input_count N) N.tables s
  levels_fall s h =
      levels-fall (input_count N) N.tables (with_bypass N i).tables (level_of (input_count N) N.tables) (level_of (input_count N) (with_bypass N i).tables)
      (levels (input_count N) N.tables sound.acyclic) (levels (input_count N) (with_bypass N i).tables acyclic') (omega (arith, same_count))
      (λ j below.
      let inside : j < table_count N = omega (arith, same_count) in
      let e = ap (λ t. greatest (level_of (input_count N) N.tables) t.pins) (at-past j inside) in
      omega (arith, e, greatest-map-le (level_of (input_count N) N.tables) (redirect (input_count N + i) (pin_at (table_at N.tables i) 0)) redirect_lower (table_at N.tables j).pins))
      acyclic' s (omega (arith, same_count))

  pub bypass-below : IsBelow (triple_of (with_bypass N i)) (triple_of N)
  bypass-below =
      let old_level : (ℕ → ℕ) = level_of (input_count N) N.tables in
      let new_level : (ℕ → ℕ) = level_of (input_count N) (with_bypass N i).tables in
      let f : (ℕ → ℕ) = redirect (input_count N + i) (pin_at (table_at N.tables i) 0) in
      below-levels (triple_of (with_bypass N i)) (triple_of N) (omega (arith, bypass-grows.tables, bypass-grows.pins))
      (tables-lt old_level new_level f (reading_past (input_count N + i) (pin_at (table_at N.tables i) 0) (is_inverter (table_at N.tables i))) (λ t. refl) (input_count N + i)
      (let at : new_level (f (input_count N + i)) ≡ new_level (pin_at (table_at N.tables i) 0)
      = ap new_level (redirect-same (input_count N + i) (pin_at (table_at N.tables i) 0) (input_count N + i) refl) in
      omega (arith, pin_lower, levels_fall (pin_at (table_at N.tables i) 0) (pin_is_signal (input_count N) N.tables i (pin_at (table_at N.tables i) 0) sound.acyclic within own)))
      N.tables
      (all-pins (λ s. new_level (f s) ≤ old_level s) (input_count N) N.tables sound.acyclic
      (λ s h. omega (arith, redirect_lower s, levels_fall (redirect (input_count N + i) (pin_at (table_at N.tables i) 0) s) (redirect_within s h))))
      first_two.1)

  pub bypass-good : IsGoodStep N (with_bypass N i)
  unfolding outputs_of
  bypass-good = record {
    keeps = record {
      sound = bypass-sound;
      model = refl;
      ports = record { inputs = refl; outputs = ap (λ names. map (name_of names) N.outputs) (sym same_names) };
      values = λ x. outputs-same (value_of (input_count N) N.tables x) (value_of (input_count N) (with_bypass N i).tables x) (signal_count N) N.outputs sound.outputs_are_signals (same-values x);
    };
    no_growth = bypass-grows;
    falls =
        let reads : count_below (is_read (with_bypass N i).tables) (signal_count (with_bypass N i)) < count_below (is_read N.tables) (signal_count N) =
        subst (λ k. count_below (is_read (with_bypass N i).tables) k < count_below (is_read N.tables) (signal_count N)) same_count
        (count_below-lt (is_read (with_bypass N i).tables) (is_read N.tables) (signal_count N) (λ s h r. (read_before s r).0)
        (input_count N + i) (omega arith) (false_from_ne_true (is_read (with_bypass N i).tables (input_count N + i)) (λ r. (read_before (input_count N + i) r).1 refl)) first_two.1) in
        omega (
          arith,
          same_count,
          reads,
          sum-map-le table_cost (reading_past (input_count N + i) (pin_at (table_at N.tables i) 0) (is_inverter (table_at N.tables i)))
              (past-cost (input_count N + i) (pin_at (table_at N.tables i) 0) (is_inverter (table_at N.tables i))) N.tables,
        );
    triple = bypass-below;
  }
