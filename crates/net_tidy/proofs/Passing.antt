-- What flags tell after a bypass and after a removal.
use Rattle.std.proofs.Common.{◌≡◌, ℕ, ◌+◌, ◌-◌, ◌<◌, ◌≤◌, Bool, true, false, cond, eqb, List, [], ◌∷◌, map, length, get_or, set, refl, ap, sym, subst, ◌∙◌, arith}
use Rattle.std.specs.Prelude.{◌&&◌, not, nat_le, All, Contains}
use Rattle.std.proofs.lemmas.Bool.{and_parts, eq-eqb, or_parts, eqb-false, ne_eqb, leb-true, false≢true}
use Rattle.std.proofs.lemmas.List.{length-map, length-set, get_or-map, get_or-set_same, get_or-set_other, map-id}
use Rattle.std.proofs.lemmas.List.Elements.{All-get_or, All-contains}
use Rattle.semantics.specs.declared.mark.Mark.{Mark}
use Rattle.semantics.specs.Net.{TableValue, NetValue, no_table, table_at, input_count, table_count, signal_count, IsSound}
use Rattle.semantics.specs.Renamed.{redirect, raised}
use Rattle.chain_semantics.specs.TidyRules.{is_empty, has, is_read, is_output, has_one_literal, pin_at, opposite, with_marks_turned, reading_past, is_inverter, is_bypassed, with_bypass}
use Rattle.chain_semantics.proofs.TidyReading.{IsReadBy, read-by, by-read}
use Rattle.chain_semantics.proofs.TidyMapped.{Contains-map}
use Rattle.chain_semantics.proofs.TidyBypass as bypass
use Rattle.net_tidy.specs.Flags.{IsDown}
use Rattle.net_tidy.specs.Places.{IsFlaggedIn}
use Rattle.net_tidy.proofs.Likeness.{IsLike, like-rule, empty-map, and_same}

both_true : (a b : Bool) → (a ≡ true → b ≡ true) → (b ≡ true → a ≡ true) → a ≡ b
both_true true b f g = sym (f refl)
both_true false true f g = g refl
both_true false false f g = refl

redirect-none : (s to : ℕ) (pins : List ℕ) → has pins s ≡ false → map (redirect s to) pins ≡ pins
redirect-none s to [] e = refl
redirect-none s to (p ∷ pins) e =
    let both = or_parts (eqb s p) (has pins s) e in
    let here : redirect s to p ≡ p = bypass.redirect-other s to p (λ same. eqb-false s p both.0 (sym same)) in
    let rest : map (redirect s to) pins ≡ pins = redirect-none s to pins both.1 in
    cc

turned-none : (s : ℕ) (pins : List ℕ) (marks : List Mark) → has pins s ≡ false → with_marks_turned s pins marks ≡ marks
turned-none s [] marks e = refl
turned-none s (p ∷ pins) [] e = refl
turned-none s (p ∷ pins) (m ∷ marks) e =
    let both = or_parts (eqb s p) (has pins s) e in
    let here : cond (eqb p s) (opposite m) m ≡ m = ap (λ b. cond b (opposite m) m) (ne_eqb p s (λ same. eqb-false s p both.0 (sym same))) in
    let rest : with_marks_turned s pins marks ≡ marks = turned-none s pins marks both.1 in
    cc

turned_rows-none : (s : ℕ) (pins : List ℕ) (rows : List (List Mark)) → has pins s ≡ false → map (with_marks_turned s pins) rows ≡ rows
turned_rows-none s pins [] e = refl
turned_rows-none s pins (marks ∷ rows) e = let here = turned-none s pins marks e in let rest = turned_rows-none s pins rows e in cc

-- a table that does not read the signal stays
pub past_aside : (s to : ℕ) (inverted : Bool) (t : TableValue) → has t.pins s ≡ false → reading_past s to inverted t ≡ t
past_aside s to true t e =
    let pins = redirect-none s to t.pins e in
    let rows = turned_rows-none s t.pins t.rows e in
    ap (λ ps. record t { pins = ps; rows = map (with_marks_turned s t.pins) t.rows }) pins ∙ ap (λ rs. record t { rows = rs }) rows
past_aside s to false t e = ap (λ ps. record t { pins = ps }) (redirect-none s to t.pins e)

and_three : (a b c : Bool) → (a && b && c) ≡ true → ((a && b) && c) ≡ true
and_three true true c e = e
and_three true false c e = e
and_three false b c e = e

module _ (N : NetValue) (t : ℕ) (sound : IsSound N) (within : t < table_count N) (e : is_bypassed N t ≡ true) where
  past : TableValue → TableValue
  past = reading_past (input_count N + t) (pin_at (table_at N.tables t) 0) (is_inverter (table_at N.tables t))

  at_past : (j : ℕ) → j < table_count N → table_at (with_bypass N t).tables j
      ≡ reading_past (input_count N + t) (pin_at (table_at N.tables t) 0) (is_inverter (table_at N.tables t)) (table_at N.tables j)
  at_past j h = get_or-map (reading_past (input_count N + t) (pin_at (table_at N.tables t) 0) (is_inverter (table_at N.tables t))) N.tables j no_table no_table h

  read_after : (s : ℕ) → (s ≡ input_count N + t → ⊥) → is_read N.tables s ≡ true → is_read (with_bypass N t).tables s ≡ true
  read_after s other r =
      let by : IsReadBy N.tables s = read-by N.tables s r in
      let f : (ℕ → ℕ) = redirect (input_count N + t) (pin_at (table_at N.tables t) 0) in
      by-read (with_bypass N t).tables s (record {
        place = by.place;
        within = let inside = by.within in omega (arith, length-map N.tables (reading_past (input_count N + t) (pin_at (table_at N.tables t) 0) (is_inverter (table_at N.tables t))));
        pin = subst (λ (u : TableValue). Contains u.pins s) (sym (at_past by.place by.within))
            (subst (Contains (map (redirect (input_count N + t) (pin_at (table_at N.tables t) 0)) (table_at N.tables by.place).pins))
            (bypass.redirect-other (input_count N + t) (pin_at (table_at N.tables t) 0) s other)
            (Contains-map (redirect (input_count N + t) (pin_at (table_at N.tables t) 0)) (table_at N.tables by.place).pins s by.pin));
      })

  -- the pin of a table is not the table itself
  pub other_pin : pin_at (table_at N.tables t) 0 ≡ input_count N + t → ⊥
  other_pin =
      let rule = and_parts (has_one_literal (table_at N.tables t) && not (is_output N (input_count N + t))) (is_read N.tables (input_count N + t))
      (and_three (has_one_literal (table_at N.tables t)) (not (is_output N (input_count N + t))) (is_read N.tables (input_count N + t)) e) in
      let by : IsReadBy N.tables (input_count N + t) = read-by N.tables (input_count N + t) rule.1 in
      let to : redirect (input_count N + t) (pin_at (table_at N.tables t) 0) (input_count N + t) ≡ pin_at (table_at N.tables t) 0 =
      ap (λ b. cond b (pin_at (table_at N.tables t) 0) (input_count N + t)) (eq-eqb (input_count N + t) (input_count N + t) refl) in
      (bypass.read_before N t sound within e (pin_at (table_at N.tables t) 0)
      (by-read (with_bypass N t).tables (pin_at (table_at N.tables t) 0) (record {
        place = by.place;
        within = let inside = by.within in omega (arith, length-map N.tables (reading_past (input_count N + t) (pin_at (table_at N.tables t) 0) (is_inverter (table_at N.tables t))));
        pin = subst (λ (u : TableValue). Contains u.pins (pin_at (table_at N.tables t) 0)) (sym (at_past by.place by.within))
            (subst (Contains (map (redirect (input_count N + t) (pin_at (table_at N.tables t) 0)) (table_at N.tables by.place).pins)) to
            (Contains-map (redirect (input_count N + t) (pin_at (table_at N.tables t) 0)) (table_at N.tables by.place).pins (input_count N + t) by.pin));
      }))).1

  bypass-like : (j : ℕ) → j < table_count N → (j ≡ t → ⊥) → has (table_at N.tables j).pins (input_count N + t) ≡ false → IsLike (λ s. s) N j (with_bypass N t) j
  bypass-like j inside other unseen =
      let at = at_past j inside ∙ past_aside (input_count N + t) (pin_at (table_at N.tables t) 0) (is_inverter (table_at N.tables t)) (table_at N.tables j) unseen in
      record {
        distinct = λ s u same. same;
        pins = ap (λ (v : TableValue). v.pins) at ∙ sym (map-id (table_at N.tables j).pins);
        rows = ap (λ (v : TableValue). v.rows) at;
        plane = ap (λ (v : TableValue). v.plane) at;
        constants = λ s c.
            and_same (nat_le (input_count N) s) (is_empty (table_at (with_bypass N t).tables (s - input_count N)).pins) (is_empty (table_at N.tables (s - input_count N)).pins)
            (λ low.
            let from : input_count N ≤ s = leb-true (input_count N) s low in
            let signal : s < signal_count N = All-contains (λ p. p < signal_count N) (table_at N.tables j).pins s
            (All-get_or (λ (v : TableValue). All (λ p. p < signal_count N) v.pins) N.tables j no_table inside sound.pins_are_signals) c in
            ap (λ (v : TableValue). is_empty v.pins) (at_past (s - input_count N) (omega arith))
            ∙ empty-map (redirect (input_count N + t) (pin_at (table_at N.tables t) 0)) (table_at N.tables (s - input_count N)).pins);
        output = refl;
        read = both_true (is_read (with_bypass N t).tables (input_count N + j)) (is_read N.tables (input_count N + j))
            (λ r. (bypass.read_before N t sound within e (input_count N + j) r).0)
            (read_after (input_count N + j) (λ same. other (omega (arith, same))));
      }

  -- the readers' flags are raised, and the table's own
  pub flagged-bypass : (gone old mid flags : List Bool) → IsFlaggedIn (record { net = N; gone = gone }) old → length mid ≡ length old
      → ((j : ℕ) → j < table_count N → IsDown mid j → IsDown old j × (has (table_at N.tables j).pins (input_count N + t) ≡ false))
      → flags ≡ set mid t true → IsFlaggedIn (record { net = with_bypass N t; gone = gone }) flags
  flagged-bypass gone old mid flags h mid_count apart is =
      let count = length-map N.tables (reading_past (input_count N + t) (pin_at (table_at N.tables t) 0) (is_inverter (table_at N.tables t))) in
      record {
        count = ap length is ∙ length-set mid t true ∙ mid_count ∙ h.count ∙ sym count;
        rests = λ j inside stays down.
            let below : j < table_count N = omega (arith, count, inside) in
            let now : IsDown (set mid t true) j = subst (λ fs. IsDown fs j) is down in
            let differs : (j ≡ t → ⊥) = λ same. false≢true (sym now ∙ ap (λ k. get_or (set mid t true) k true) same ∙ get_or-set_same mid t true true (omega (arith, h.count, mid_count))) in
            let before = apart j below (sym (get_or-set_other mid t j true true differs) ∙ now) in
            like-rule (λ s. s) N j (with_bypass N t) j (bypass-like j below differs before.1) ∙ h.rests j below stays before.0;
      }

-- the flags after a bypass, by the terms of the code
pub flagged-bypassed : (N : NetValue) (t from to : ℕ) (inverted : Bool) (table : TableValue) (pins : List ℕ) (seen tables : List TableValue) (gone old mid flags : List Bool)
    → IsSound N → t < table_count N → is_bypassed N t ≡ true → from ≡ input_count N + t → table ≡ table_at N.tables t → pins ≡ table.pins → to ≡ get_or pins 0 0
    → inverted ≡ is_inverter table → seen ≡ N.tables → tables ≡ map (reading_past from to inverted) N.tables → IsFlaggedIn (record { net = N; gone = gone }) old → length mid ≡ length old
    → ((j : ℕ) → j < length seen → IsDown mid j → IsDown old j × (has (table_at seen j).pins from ≡ false))
    → flags ≡ set mid t true → IsFlaggedIn (record { net = record N { tables = tables }; gone = gone }) flags
flagged-bypassed N t from to inverted table pins seen tables gone old mid flags sound within rule source at own target turned all is h count apart raised =
    let past : tables ≡ (with_bypass N t).tables =
    is ∙ ap (λ f. map (reading_past f to inverted) N.tables) source
    ∙ ap (λ p. map (reading_past (input_count N + t) p inverted) N.tables) (target ∙ ap (λ (ps : List ℕ). get_or ps 0 0) (own ∙ ap (λ (u : TableValue). u.pins) at))
    ∙ ap (λ b. map (reading_past (input_count N + t) (pin_at (table_at N.tables t) 0) b) N.tables) (turned ∙ ap is_inverter at) in
    subst (λ ts. IsFlaggedIn (record { net = record N { tables = ts }; gone = gone }) flags) (sym past)
    (flagged-bypass N t sound within rule gone old mid flags h count
    (λ j inside down.
    let both = apart j (omega (arith, ap length all, inside)) down in
    (both.0, ap (has (table_at N.tables j).pins) (sym source) ∙ ap (λ ts. has (table_at ts j).pins from) (sym all) ∙ both.1))
    raised)

pub own_pin : (N : NetValue) (t from to : ℕ) (table : TableValue) (pins : List ℕ) → IsSound N → t < table_count N → is_bypassed N t ≡ true → from ≡ input_count N + t → table ≡ table_at N.tables t
    → pins ≡ table.pins → to ≡ get_or pins 0 0 → to ≡ from → ⊥
own_pin N t from to table pins sound within rule source at own target same =
    other_pin N t sound within rule (sym (target ∙ ap (λ (ps : List ℕ). get_or ps 0 0) (own ∙ ap (λ (u : TableValue). u.pins) at)) ∙ same ∙ source)
