-- What a rule makes of a draft, against what it makes of the net that is left.
use Rattle.std.proofs.Common.{◌≡◌, ℕ, ◌+◌, ◌-◌, ◌<◌, ◌≤◌, Bool, true, false, cond, not, Option, Some, None, List, [], ◌∷◌, map, length, refl, ap, sym, subst, ◌∙◌, arith}
use Rattle.std.specs.Prelude.{◌&&◌, nat_le, All}
use Rattle.std.proofs.lemmas.Bool.{and_parts, leb-true, not-true, false≢true}
use Rattle.std.proofs.lemmas.List.{get_or-map}
use Rattle.std.proofs.lemmas.List.Elements.{All-get_or}
use Rattle.semantics.specs.Net.{TableValue, NetValue, no_table, table_at, input_count, table_count, constant_table, IsSound, IsTable}
use Rattle.semantics.specs.Value.{table_value}
use Rattle.semantics.specs.Replaced.{with_table}
use Rattle.semantics.specs.Renamed.{renamed}
use Rattle.chain_semantics.specs.TidyRules.{is_empty, has, is_read, is_constant_signal, constant_pin, constant_value, dashed_pin, repeated_pin, is_constant, is_bypassed, is_unread, is_inverter}
use Rattle.chain_semantics.specs.TidyRules.{has_one_literal, pin_at, without_pin, with_pin_fixed, first_place_of, with_pins_joined, made_canonical, reading_past}
use Rattle.chain_semantics.proofs.TidyRows.{first_place}
use Rattle.chain_semantics.proofs.TidyTables.{fixed-narrower, dashed-narrower, joined-narrower, canonical-narrower, constant-narrower}
use Rattle.chain_semantics.proofs.TidyReplacing.{replaced-sound}
use Rattle.chain_semantics.proofs.TidyBypass.{bypass-sound, one_literal-pin}
use Rattle.net_tidy.specs.declared.rule.Rule.{Rule}
use Rattle.net_tidy.specs.declared.rule.Rule.TheVariants.{ConstantPin, DashedPin, RepeatedPin, Constant, Bypass, Removal}
use Rattle.net_tidy.specs.Rule.{first_rule, rule_at, made_by}
use Rattle.net_tidy.specs.Flags.{IsFirstRule}
use Rattle.net_tidy.specs.Places.{DraftValue, rank, signals_gone, dense, Stays, emptied, drafted, IsFirstRuleIn}
use Rattle.net_tidy.proofs.Stepping.{constant_pin_found, dashed_pin_found, repeated_pin_found}
use Rattle.net_tidy.proofs.Ranks.{place, place_distinct, place_rank, place_table}
use Rattle.net_tidy.proofs.Dense.{IsPacked, at_stays, at_place, first_packed, packed_set, packed_past, packed_removed, dense_is, fixed_renamed, joined_renamed, without_renamed, constant_renamed}
use Rattle.net_tidy.proofs.Dense.{place_of_renamed, none_of_pins, set_same}

-- the condition of the rule that was found
is_constant_rule : (a b c : Option ℕ) (d e f : Bool) → first_rule a b c d e f ≡ Some Constant → d ≡ true
is_constant_rule (Some p) b c d e f h = cc
is_constant_rule None (Some p) c d e f h = cc
is_constant_rule None None (Some p) d e f h = cc
is_constant_rule None None None true e f h = refl
is_constant_rule None None None false true f h = cc
is_constant_rule None None None false false true h = cc
is_constant_rule None None None false false false h = cc

is_bypass_rule : (a b c : Option ℕ) (d e f : Bool) → first_rule a b c d e f ≡ Some Bypass → e ≡ true
is_bypass_rule (Some p) b c d e f h = cc
is_bypass_rule None (Some p) c d e f h = cc
is_bypass_rule None None (Some p) d e f h = cc
is_bypass_rule None None None true e f h = cc
is_bypass_rule None None None false true f h = refl
is_bypass_rule None None None false false true h = cc
is_bypass_rule None None None false false false h = cc

is_removal_rule : (a b c : Option ℕ) (d e f : Bool) → first_rule a b c d e f ≡ Some Removal → f ≡ true
is_removal_rule (Some p) b c d e f h = cc
is_removal_rule None (Some p) c d e f h = cc
is_removal_rule None None (Some p) d e f h = cc
is_removal_rule None None None true e f h = cc
is_removal_rule None None None false true f h = cc
is_removal_rule None None None false false true h = refl
is_removal_rule None None None false false false h = cc

constant_found : (N : NetValue) (i : ℕ) → rule_at N i ≡ Some Constant → is_constant (table_at N.tables i) ≡ true
constant_found N i e =
    is_constant_rule (constant_pin (input_count N) N.tables (table_at N.tables i)) (dashed_pin (table_at N.tables i)) (repeated_pin (table_at N.tables i)) (is_constant (table_at N.tables i))
    (is_bypassed N i) (is_unread N i) e

bypass_found : (N : NetValue) (i : ℕ) → rule_at N i ≡ Some Bypass → is_bypassed N i ≡ true
bypass_found N i e =
    is_bypass_rule (constant_pin (input_count N) N.tables (table_at N.tables i)) (dashed_pin (table_at N.tables i)) (repeated_pin (table_at N.tables i)) (is_constant (table_at N.tables i))
    (is_bypassed N i) (is_unread N i) e

removal_found : (N : NetValue) (i : ℕ) → rule_at N i ≡ Some Removal → is_unread N i ≡ true
removal_found N i e =
    is_removal_rule (constant_pin (input_count N) N.tables (table_at N.tables i)) (dashed_pin (table_at N.tables i)) (repeated_pin (table_at N.tables i)) (is_constant (table_at N.tables i))
    (is_bypassed N i) (is_unread N i) e

-- ---- a draft stays sound

cost_of_pins : (pins : List ℕ) (more : ℕ) → is_empty pins ≡ false → 0 < length pins + more
cost_of_pins [] more e = absurd (false≢true (sym e))
cost_of_pins (p ∷ pins) more e = omega arith

sound_emptied : (N : NetValue) (i : ℕ) (b : Bool) → IsSound N → i < table_count N → is_empty (table_at N.tables i).pins ≡ b → IsSound (with_table N i (emptied (table_at N.tables i)))
sound_emptied N i true sound within e =
    let same : emptied (table_at N.tables i) ≡ table_at N.tables i = ap (λ b. cond b (table_at N.tables i) (constant_table (table_at N.tables i).name false)) e in
    subst IsSound (sym (ap (with_table N i) same ∙ ap (λ (ts : List TableValue). record N { tables = ts }) (set_same N.tables i no_table within))) sound
sound_emptied N i false sound within e =
    let same : emptied (table_at N.tables i) ≡ constant_table (table_at N.tables i).name false = ap (λ b. cond b (table_at N.tables i) (constant_table (table_at N.tables i).name false)) e in
    let formed : IsTable (table_at N.tables i) = All-get_or IsTable N.tables i no_table within sound.tables_formed in
    subst (λ t. IsSound (with_table N i t)) (sym same)
    (replaced-sound N i (constant_table (table_at N.tables i).name false) sound within
    (constant-narrower (table_at N.tables i) false formed (cost_of_pins (table_at N.tables i).pins _ e) (λ f. absurd (false≢true f))))

pub sound_drafted : (D : DraftValue) (i : ℕ) (rule : Rule) → IsSound D.net → i < table_count D.net → rule_at D.net i ≡ Some rule → IsSound (drafted D i rule).net
sound_drafted D i (ConstantPin q) sound within e =
    replaced-sound D.net i (with_pin_fixed q (constant_value (input_count D.net) D.net.tables (pin_at (table_at D.net.tables i) q)) (table_at D.net.tables i)) sound within
    (fixed-narrower (table_at D.net.tables i) q (constant_value (input_count D.net) D.net.tables (pin_at (table_at D.net.tables i) q))
    (All-get_or IsTable D.net.tables i no_table within sound.tables_formed) (constant_pin_found D.net i q (ConstantPin q) e refl).0)
sound_drafted D i (DashedPin q) sound within e =
    replaced-sound D.net i (without_pin q (table_at D.net.tables i)) sound within
    (dashed-narrower (table_at D.net.tables i) q (All-get_or IsTable D.net.tables i no_table within sound.tables_formed) (dashed_pin_found D.net i q (DashedPin q) e refl))
sound_drafted D i (RepeatedPin q) sound within e =
    let found = repeated_pin_found D.net i q (RepeatedPin q) e refl in
    replaced-sound D.net i (with_pins_joined (first_place_of (table_at D.net.tables i).pins (pin_at (table_at D.net.tables i) q)) q (table_at D.net.tables i)) sound within
    (joined-narrower (table_at D.net.tables i) (first_place_of (table_at D.net.tables i).pins (pin_at (table_at D.net.tables i) q)) q
    (All-get_or IsTable D.net.tables i no_table within sound.tables_formed)
    (first_place (table_at D.net.tables i).pins (pin_at (table_at D.net.tables i) q) q found.1).0 found.0)
sound_drafted D i Constant sound within e =
    replaced-sound D.net i (made_canonical (table_at D.net.tables i)) sound within
    (canonical-narrower (table_at D.net.tables i) (All-get_or IsTable D.net.tables i no_table within sound.tables_formed) (constant_found D.net i e))
sound_drafted D i Bypass sound within e = bypass-sound D.net i sound within (bypass_found D.net i e)
sound_drafted D i Removal sound within e = sound_emptied D.net i (is_empty (table_at D.net.tables i).pins) sound within refl

-- ---- the same step of the net

bare : (f : ℕ → ℕ) (t : TableValue) → t.pins ≡ [] → renamed f t ≡ t
bare f t e = ap (λ (pins : List ℕ). record t { pins = pins }) (ap (map f) e ∙ sym e)

module _ (D : DraftValue) (ts : List TableValue) (os : List ℕ) (h : IsPacked D ts os) where
  same_value : (s : ℕ) → s < input_count D.net + length ts → is_constant_signal (input_count D.net) ts s ≡ true
      → constant_value (input_count D.net) D.net.tables (place (signals_gone (input_count D.net) D.gone) s) ≡ constant_value (input_count D.net) ts s
  same_value s below e =
      let both = and_parts (nat_le (input_count D.net) s) (is_empty (table_at ts (s - input_count D.net)).pins) e in
      let past : input_count D.net ≤ s = leb-true (input_count D.net) s both.0 in
      let of : input_count D.net + (s - input_count D.net) ≡ s = omega (arith, past) in
      let is : place (signals_gone (input_count D.net) D.gone) s ≡ input_count D.net + place D.gone (s - input_count D.net) =
      ap (place (signals_gone (input_count D.net) D.gone)) (sym of) ∙ place_table (input_count D.net) D.gone (s - input_count D.net) in
      let back : place (signals_gone (input_count D.net) D.gone) s - input_count D.net ≡ place D.gone (s - input_count D.net) = omega (arith, is) in
      let none : (table_at ts (s - input_count D.net)).pins ≡ [] = none_of_pins (table_at ts (s - input_count D.net)).pins both.1 in
      ap (λ k. table_value (table_at D.net.tables k) (λ p. false)) back
      ∙ ap (λ t. table_value t (λ p. false)) (at_place D ts os h (s - input_count D.net) (omega (arith, below, of)))
      ∙ ap (λ t. table_value t (λ p. false)) (bare (place (signals_gone (input_count D.net) D.gone)) (table_at ts (s - input_count D.net)) none)

  same_pin : (i q : ℕ) → i < table_count D.net → Stays D.gone i → q < length (table_at ts (rank D.gone i)).pins
      → pin_at (table_at D.net.tables i) q ≡ place (signals_gone (input_count D.net) D.gone) (pin_at (table_at ts (rank D.gone i)) q)
  same_pin i q within stays low =
      ap (λ t. pin_at t q) (at_stays D ts os h i within stays)
      ∙ get_or-map (place (signals_gone (input_count D.net) D.gone)) (table_at ts (rank D.gone i)).pins q 0 0 low

  module _ (sound : IsSound (record { model = D.net.model; inputs = D.net.inputs; tables = ts; outputs = os })) (i : ℕ) (within : i < table_count D.net) (stays : Stays D.gone i)
      (inside : rank D.gone i < length ts) where
    pub packed_step : (rule : Rule) → rule_at (record { model = D.net.model; inputs = D.net.inputs; tables = ts; outputs = os }) (rank D.gone i) ≡ Some rule
        → IsPacked (drafted D i rule) (made_by (record { model = D.net.model; inputs = D.net.inputs; tables = ts; outputs = os }) (rank D.gone i) rule).tables
        (made_by (record { model = D.net.model; inputs = D.net.inputs; tables = ts; outputs = os }) (rank D.gone i) rule).outputs
    packed_step (ConstantPin q) e =
        let found = constant_pin_found (record { model = D.net.model; inputs = D.net.inputs; tables = ts; outputs = os }) (rank D.gone i) q (ConstantPin q) e refl in
        let signal : pin_at (table_at ts (rank D.gone i)) q < input_count D.net + length ts =
        (All-get_or (λ (v : TableValue). All (λ p. p < input_count D.net + length ts) v.pins) ts (rank D.gone i) no_table inside sound.pins_are_signals) q 0 found.0 in
        let value : constant_value (input_count D.net) D.net.tables (pin_at (table_at D.net.tables i) q) ≡ constant_value (input_count D.net) ts (pin_at (table_at ts (rank D.gone i)) q) =
        ap (constant_value (input_count D.net) D.net.tables) (same_pin i q within stays found.0) ∙ same_value (pin_at (table_at ts (rank D.gone i)) q) signal found.1 in
        packed_set D ts os h i within stays (with_pin_fixed q (constant_value (input_count D.net) D.net.tables (pin_at (table_at D.net.tables i) q)) (table_at D.net.tables i))
        (with_pin_fixed q (constant_value (input_count D.net) ts (pin_at (table_at ts (rank D.gone i)) q)) (table_at ts (rank D.gone i)))
        (ap (λ b. with_pin_fixed q b (table_at D.net.tables i)) value
        ∙ ap (with_pin_fixed q (constant_value (input_count D.net) ts (pin_at (table_at ts (rank D.gone i)) q))) (at_stays D ts os h i within stays)
        ∙ fixed_renamed (place (signals_gone (input_count D.net) D.gone)) q (constant_value (input_count D.net) ts (pin_at (table_at ts (rank D.gone i)) q)) (table_at ts (rank D.gone i)))
    packed_step (DashedPin q) e =
        packed_set D ts os h i within stays (without_pin q (table_at D.net.tables i)) (without_pin q (table_at ts (rank D.gone i)))
        (ap (without_pin q) (at_stays D ts os h i within stays) ∙ without_renamed (place (signals_gone (input_count D.net) D.gone)) q (table_at ts (rank D.gone i)))
    packed_step (RepeatedPin q) e =
        let found = repeated_pin_found (record { model = D.net.model; inputs = D.net.inputs; tables = ts; outputs = os }) (rank D.gone i) q (RepeatedPin q) e refl in
        let first : first_place_of (table_at D.net.tables i).pins (pin_at (table_at D.net.tables i) q) ≡ first_place_of (table_at ts (rank D.gone i)).pins (pin_at (table_at ts (rank D.gone i)) q) =
        ap (first_place_of (table_at D.net.tables i).pins) (same_pin i q within stays found.0)
        ∙ ap (λ (t : TableValue). first_place_of t.pins (place (signals_gone (input_count D.net) D.gone) (pin_at (table_at ts (rank D.gone i)) q))) (at_stays D ts os h i within stays)
        ∙ place_of_renamed (place (signals_gone (input_count D.net) D.gone)) (place_distinct (signals_gone (input_count D.net) D.gone)) (table_at ts (rank D.gone i)).pins
        (pin_at (table_at ts (rank D.gone i)) q) in
        packed_set D ts os h i within stays (with_pins_joined (first_place_of (table_at D.net.tables i).pins (pin_at (table_at D.net.tables i) q)) q (table_at D.net.tables i))
        (with_pins_joined (first_place_of (table_at ts (rank D.gone i)).pins (pin_at (table_at ts (rank D.gone i)) q)) q (table_at ts (rank D.gone i)))
        (ap (λ p. with_pins_joined p q (table_at D.net.tables i)) first
        ∙ ap (with_pins_joined (first_place_of (table_at ts (rank D.gone i)).pins (pin_at (table_at ts (rank D.gone i)) q)) q) (at_stays D ts os h i within stays)
        ∙ joined_renamed (place (signals_gone (input_count D.net) D.gone)) (first_place_of (table_at ts (rank D.gone i)).pins (pin_at (table_at ts (rank D.gone i)) q)) q (table_at ts (rank D.gone i)))
    packed_step Constant e =
        packed_set D ts os h i within stays (made_canonical (table_at D.net.tables i)) (made_canonical (table_at ts (rank D.gone i)))
        (ap made_canonical (at_stays D ts os h i within stays)
        ∙ constant_renamed (place (signals_gone (input_count D.net) D.gone)) (table_at ts (rank D.gone i)).name
        (not (is_empty (table_at ts (rank D.gone i)).rows) && (table_at ts (rank D.gone i)).plane))
    packed_step Bypass e =
        let rule = bypass_found (record { model = D.net.model; inputs = D.net.inputs; tables = ts; outputs = os }) (rank D.gone i) e in
        let one : has_one_literal (table_at ts (rank D.gone i)) ≡ true =
        (and_parts (has_one_literal (table_at ts (rank D.gone i))) (not (has os (input_count D.net + rank D.gone i)))
        (and_parts (has_one_literal (table_at ts (rank D.gone i)) && not (has os (input_count D.net + rank D.gone i))) (is_read ts (input_count D.net + rank D.gone i)) rule).0).0 in
        let low : 0 < length (table_at ts (rank D.gone i)).pins = one_literal-pin (table_at ts (rank D.gone i)).pins (table_at ts (rank D.gone i)).rows one in
        let from : place (signals_gone (input_count D.net) D.gone) (input_count D.net + rank D.gone i) ≡ input_count D.net + i =
        place_table (input_count D.net) D.gone (rank D.gone i)
        ∙ ap (λ k. input_count D.net + k) (place_rank D.gone i (let w = within in omega (arith, w, h.count)) stays) in
        let to = same_pin i 0 within stays low in
        let turned : is_inverter (table_at D.net.tables i) ≡ is_inverter (table_at ts (rank D.gone i)) = ap is_inverter (at_stays D ts os h i within stays) in
        subst (λ (T : List TableValue). IsPacked (record D { net = record D.net { tables = T } })
        (map (reading_past (input_count D.net + rank D.gone i) (pin_at (table_at ts (rank D.gone i)) 0) (is_inverter (table_at ts (rank D.gone i)))) ts) os)
        (ap (λ a. map (reading_past a (place (signals_gone (input_count D.net) D.gone) (pin_at (table_at ts (rank D.gone i)) 0)) (is_inverter (table_at ts (rank D.gone i)))) D.net.tables) from
        ∙ ap (λ b. map (reading_past (input_count D.net + i) b (is_inverter (table_at ts (rank D.gone i)))) D.net.tables) (sym to)
        ∙ ap (λ b. map (reading_past (input_count D.net + i) (pin_at (table_at D.net.tables i) 0) b) D.net.tables) (sym turned))
        (packed_past D ts os (input_count D.net + rank D.gone i) (pin_at (table_at ts (rank D.gone i)) 0) (is_inverter (table_at ts (rank D.gone i))) h)
    packed_step Removal e =
        let rule = removal_found (record { model = D.net.model; inputs = D.net.inputs; tables = ts; outputs = os }) (rank D.gone i) e in
        let both = and_parts (not (has os (input_count D.net + rank D.gone i))) (not (is_read ts (input_count D.net + rank D.gone i))) rule in
        packed_removed D ts os i h within stays (not-true (is_read ts (input_count D.net + rank D.gone i)) both.1) (not-true (has os (input_count D.net + rank D.gone i)) both.0)

-- the net that is left has what the rule makes of it
same_frame : (D : DraftValue) (ts : List TableValue) (os : List ℕ) (i r : ℕ) (rule : Rule)
    → record {
      model = (drafted D i rule).net.model;
      inputs = (drafted D i rule).net.inputs;
      tables = (made_by (record { model = D.net.model; inputs = D.net.inputs; tables = ts; outputs = os }) r rule).tables;
      outputs = (made_by (record { model = D.net.model; inputs = D.net.inputs; tables = ts; outputs = os }) r rule).outputs;
    } ≡ made_by (record { model = D.net.model; inputs = D.net.inputs; tables = ts; outputs = os }) r rule
same_frame D ts os i r (ConstantPin q) = refl
same_frame D ts os i r (DashedPin q) = refl
same_frame D ts os i r (RepeatedPin q) = refl
same_frame D ts os i r Constant = refl
same_frame D ts os i r Bypass = refl
same_frame D ts os i r Removal = refl

pub record IsStepped (D : DraftValue) (i : ℕ) (rule : Rule) : Type 0 where
  pub first : IsFirstRule (dense D) (rank D.gone i) rule
  pub made : dense (drafted D i rule) ≡ made_by (dense D) (rank D.gone i) rule
  pub packed : IsPacked (drafted D i rule) (dense (drafted D i rule)).tables (dense (drafted D i rule)).outputs

pub repacked : (D : DraftValue) (ts : List TableValue) (os : List ℕ) → IsPacked D ts os → IsPacked D (dense D).tables (dense D).outputs
repacked D ts os h = subst (λ (N : NetValue). IsPacked D N.tables N.outputs) (sym (dense_is D ts os h)) h

pub stepped : (D : DraftValue) (i : ℕ) (rule : Rule) → IsPacked D (dense D).tables (dense D).outputs → IsSound (dense D) → IsFirstRuleIn D i rule → IsStepped D i rule
stepped D i rule h sound found =
    let first : IsFirstRule (dense D) (rank D.gone i) rule = first_packed D (dense D).tables (dense D).outputs h sound i rule found in
    let step = packed_step D (dense D).tables (dense D).outputs h sound i found.within found.stays first.within rule first.is in
    record {
      first = first;
      made = dense_is (drafted D i rule) (made_by (dense D) (rank D.gone i) rule).tables (made_by (dense D) (rank D.gone i) rule).outputs step
          ∙ same_frame D (dense D).tables (dense D).outputs i (rank D.gone i) rule;
      packed = repacked (drafted D i rule) (made_by (dense D) (rank D.gone i) rule).tables (made_by (dense D) (rank D.gone i) rule).outputs step;
    }
