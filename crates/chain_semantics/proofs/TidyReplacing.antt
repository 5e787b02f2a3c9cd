-- Rules 1 to 4: one table replaced by a narrower one of the same value.
use Rattle.std.proofs.Common.{◌≡◌, ◌≢◌, ℕ, ◌+◌, ◌<◌, ◌≤◌, Bool, true, List, [], ◌∷◌, ◌++◌, map, length, set, refl, ap, sym, subst, ◌∙◌, inl, inr, arith}
use Rattle.std.specs.Prelude.{All, AllPairs, Contains}
use Rattle.std.specs.List.{sum_by, AllByRecursion}
use Rattle.std.proofs.lemmas.Bool.{cases_eq, cases_lt}
use Rattle.std.proofs.lemmas.List.{length-set, get_or-set_same, map-id}
use Rattle.std.proofs.lemmas.List.Elements.{All-set, All-get_or, All-contains, All-from_recursion, recursion_from_All}
use Rattle.std.proofs.lemmas.List.Sums.{sum_by-set}
use Rattle.std.proofs.Math.Seq.{map-set_same}
use Rattle.semantics.specs.Net.{TableValue, NetValue, no_table, table_at, input_count, table_count, signal_count, signal_names, name_of, table_literals, IsTable, IsSound, IsAcyclic}
use Rattle.semantics.specs.Value.{Assignment, table_value, value_of, outputs_of}
use Rattle.semantics.proofs.Values.{value_law}
use Rattle.semantics.specs.Replaced.{replaced, with_table}
use Rattle.semantics.proofs.Members.{each_weaker, member_holds}
use Rattle.semantics.proofs.Depends.{table_at-other}
use Rattle.semantics.proofs.Grounding.{narrower-acyclic}
use Rattle.semantics.proofs.Replaced.{replaced-same}
use Rattle.chain_semantics.specs.TidyRules.{is_read, is_canonical}
use Rattle.chain_semantics.proofs.TidyMeasure.{table_cost, one_if, count_below}
use Rattle.chain_semantics.specs.TidyLevels.{greatest, level_of, pin_levels, is_bare, triple_of, IsBelow}
use Rattle.chain_semantics.proofs.TidyLevelling.{levels, levels-fall, tables-le}
use Rattle.chain_semantics.proofs.TidyTriples.{below-bare, cost_cases, no_length, canonical-pins, bare-canonical, bare-other, levels-by_pins}
use Rattle.chain_semantics.proofs.TidyMapped.{all-pins}
use Rattle.chain_semantics.specs.TidyLaws.{DoesNotGrow}
use Rattle.chain_semantics.proofs.TidyTables.{IsNarrower}
use Rattle.chain_semantics.proofs.TidyReading.{IsReadBy, read-by, by-read, count_below-le}
use Rattle.chain_semantics.proofs.TidyGood.{IsGoodStep}

pub map-same : {X : Type 0} (f g : ℕ → X) (xs : List ℕ) → AllByRecursion (λ s. f s ≡ g s) xs → map f xs ≡ map g xs
map-same f g [] h = refl
map-same f g (x ∷ xs) h = let here = h.0 in let rest = map-same f g xs h.1 in cc

-- the outputs' values follow from the values of all signals
pub outputs-same : (f g : Assignment) (bound : ℕ) (outputs : List ℕ) → All (λ s. s < bound) outputs → ((s : ℕ) → s < bound → f s ≡ g s) → map f outputs ≡ map g outputs
outputs-same f g bound outputs h same =
    map-same f g outputs (each_weaker (λ s. s < bound) (λ s. f s ≡ g s) outputs same (recursion_from_All (λ s. s < bound) outputs h))

sum-falls : (f : TableValue → ℕ) (tables : List TableValue) (i : ℕ) (new : TableValue) → i < length tables → f new ≤ f (table_at tables i) → sum_by f (set tables i new) ≤ sum_by f tables
sum-falls f tables i new h less = omega (arith, sum_by-set f tables i new no_table h)

module _ (N : NetValue) (i : ℕ) (new : TableValue) (sound : IsSound N) (within : i < table_count N) (narrower : IsNarrower (table_at N.tables i) new) where
  same_count : signal_count N ≡ signal_count (with_table N i new)
  same_count = ap (λ k. input_count N + k) (sym (length-set N.tables i new))

  same_names : signal_names (with_table N i new) ≡ signal_names N
  same_names = ap (λ names. N.inputs ++ names) (map-set_same (λ t. t.name) N.tables i new no_table narrower.name)

  acyclic' : IsAcyclic (input_count N) (replaced N.tables i new)
  acyclic' = narrower-acyclic (input_count N) N.tables i new sound.acyclic within narrower.reads

  new_pins : All (λ s. s < signal_count N) new.pins
  new_pins = All-from_recursion (λ s. s < signal_count N) new.pins
      (each_weaker (Contains (table_at N.tables i).pins) (λ s. s < signal_count N) new.pins
      (λ s c. All-contains (λ p. p < signal_count N) (table_at N.tables i).pins s (All-get_or (λ t. All (λ p. p < signal_count N) t.pins) N.tables i no_table within sound.pins_are_signals) c)
      narrower.reads)

  pub replaced-sound : IsSound (with_table N i new)
  replaced-sound = record {
    model_named = sound.model_named;
    inputs_named = sound.inputs_named;
    tables_formed = All-set IsTable N.tables i new narrower.formed sound.tables_formed;
    names_differ = subst (AllPairs ◌≢◌) (sym same_names) sound.names_differ;
    has_output = sound.has_output;
    outputs_are_signals = subst (λ k. All (λ s. s < k) N.outputs) same_count sound.outputs_are_signals;
    pins_are_signals = subst (λ k. All (λ t. All (λ s. s < k) t.pins) (replaced N.tables i new)) same_count
        (All-set (λ t. All (λ s. s < signal_count N) t.pins) N.tables i new new_pins sound.pins_are_signals);
    acyclic = acyclic';
  }

  pub replaced-grows : DoesNotGrow N (with_table N i new)
  replaced-grows = record {
    tables = omega (arith, length-set N.tables i new);
    literals = sum-falls table_literals N.tables i new within narrower.literals;
    rows = sum-falls (λ t. length t.rows) N.tables i new within narrower.rows;
    pins = sum-falls (λ t. length t.pins) N.tables i new within narrower.pins;
    table_pins = λ most h. All-set (λ t. length t.pins ≤ most) N.tables i new
        (let old : length (table_at N.tables i).pins ≤ most = All-get_or (λ t. length t.pins ≤ most) N.tables i no_table within h in omega (arith, narrower.pins)) h;
  }

  -- what is read now was read before
  read_before : (s : ℕ) → is_read (replaced N.tables i new) s ≡ true → is_read N.tables s ≡ true
  read_before s e =
      let by : IsReadBy (replaced N.tables i new) s = read-by (replaced N.tables i new) s e in
      let inside : by.place < table_count N = omega (arith, by.within, length-set N.tables i new) in
      elim (cases_eq by.place i) [
        | inl same ↦
            let is_new : table_at (replaced N.tables i new) by.place ≡ new = ap (table_at (replaced N.tables i new)) same ∙ get_or-set_same N.tables i new no_table within in
            by-read N.tables s (record {
              place = i;
              within = within;
              pin = member_holds (Contains (table_at N.tables i).pins) new.pins s narrower.reads (subst (λ t. Contains t.pins s) is_new by.pin);
            })
        | inr ne ↦ by-read N.tables s (record {
          place = by.place;
          within = inside;
          pin = subst (λ t. Contains t.pins s) (table_at-other N.tables i by.place new ne) by.pin;
        })
      ]

  -- where the pins of the new table are as many, it has none, and neither had the old one
  same_pins : is_canonical new ≡ true → length new.pins ≡ length (table_at N.tables i).pins → new.pins ≡ (table_at N.tables i).pins
  same_pins canonical count =
      let none : new.pins ≡ [] = canonical-pins new canonical in
      let empty : length new.pins ≡ 0 = ap length none in
      none ∙ sym (no_length (table_at N.tables i).pins (omega arith))

  levels_same : new.pins ≡ (table_at N.tables i).pins
      → pin_levels (level_of (input_count N) (replaced N.tables i new)) (replaced N.tables i new) ≤ pin_levels (level_of (input_count N) N.tables) N.tables
  levels_same same =
      let old_level : (ℕ → ℕ) = level_of (input_count N) N.tables in
      let new_level : (ℕ → ℕ) = level_of (input_count N) (replaced N.tables i new) in
      let pins_at = λ (j : ℕ) (h : j < length (replaced N.tables i new)).
      elim (cases_eq j i) as (λ _. greatest (level_of (input_count N) N.tables) (table_at (replaced N.tables i new) j).pins ≤ greatest (level_of (input_count N) N.tables) (table_at N.tables j).pins) [
        | inl at ↦
            let is_new : table_at (replaced N.tables i new) j ≡ new = ap (table_at (replaced N.tables i new)) at ∙ get_or-set_same N.tables i new no_table within in
            let pins : (table_at (replaced N.tables i new) j).pins ≡ (table_at N.tables j).pins = ap (λ t. t.pins) is_new ∙ same ∙ ap (λ k. (table_at N.tables k).pins) (sym at) in
            let e = ap (greatest (level_of (input_count N) N.tables)) pins in omega (arith, e)
        | inr ne ↦ let e = ap (λ t. greatest (level_of (input_count N) N.tables) t.pins) (table_at-other N.tables i j new ne) in omega (arith, e)
      ] in
      let fall = levels-fall (input_count N) N.tables (replaced N.tables i new) old_level new_level (levels (input_count N) N.tables sound.acyclic)
      (levels (input_count N) (replaced N.tables i new) acyclic') (length-set N.tables i new) pins_at acyclic' in
      let sum = tables-le old_level new_level (λ s. s) (λ t. t) (λ t. sym (map-id t.pins)) N.tables
      (all-pins (λ s. new_level s ≤ old_level s) (input_count N) N.tables sound.acyclic (λ s h. fall s (omega (arith, same_count)))) in
      let stays : pin_levels new_level (replaced N.tables i new) ≡ pin_levels new_level N.tables
      = levels-by_pins new_level (replaced N.tables i new) N.tables (map-set_same (λ t. t.pins) N.tables i new no_table same) in
      let id : pin_levels new_level (map (λ t. t) N.tables) ≡ pin_levels new_level N.tables = ap (pin_levels new_level) (map-id N.tables) in
      omega (arith, sum)

  pub replaced-below : IsBelow (triple_of (with_table N i new)) (triple_of N)
  replaced-below =
      elim (cases_lt (length new.pins) (length (table_at N.tables i).pins)) [
        | inl less ↦ inl (omega (arith, length-set N.tables i new, sum_by-set (λ t. length t.pins) N.tables i new no_table within))
        | inr more ↦
            let cost = cost_cases (is_canonical new) (is_canonical (table_at N.tables i)) (omega (arith, narrower.cost, narrower.pins)) in
            let same : new.pins ≡ (table_at N.tables i).pins = same_pins cost.0 (omega (arith, narrower.pins)) in
            below-bare (triple_of (with_table N i new)) (triple_of N)
            (omega (arith, length-set N.tables i new, sum_by-set (λ t. length t.pins) N.tables i new no_table within, narrower.pins))
            (levels_same same)
            (omega (
              arith,
              sum_by-set (λ t. one_if (is_bare t)) N.tables i new no_table within,
              bare-canonical new cost.0,
              bare-other (table_at N.tables i) (sym same ∙ canonical-pins new cost.0) cost.1,
            ))
      ]

  pub replaced-good : ((x : List Bool) → table_value new (value_of (input_count N) N.tables x) ≡ table_value (table_at N.tables i) (value_of (input_count N) N.tables x))
      → IsGoodStep N (with_table N i new)
  unfolding outputs_of
  replaced-good same = record {
    keeps = record {
      sound = replaced-sound;
      model = refl;
      ports = record { inputs = refl; outputs = ap (λ names. map (name_of names) N.outputs) (sym same_names) };
      values = λ x. outputs-same (value_of (input_count N) N.tables x) (value_of (input_count N) (replaced N.tables i new) x) (signal_count N) N.outputs sound.outputs_are_signals
          (λ s h. sym (replaced-same (input_count N) N.tables i new x sound.acyclic acyclic' (same x ∙ sym ((value_law (input_count N) N.tables x sound.acyclic).consistent.table i within)) s h));
    };
    no_growth = replaced-grows;
    falls =
        let reads = subst (λ k. count_below (is_read (replaced N.tables i new)) k ≤ count_below (is_read N.tables) (signal_count N)) same_count
        (count_below-le (is_read (replaced N.tables i new)) (is_read N.tables) (signal_count N) (λ s h. read_before s)) in
        omega (arith, length-set N.tables i new, sum_by-set table_cost N.tables i new no_table within, narrower.cost, reads);
    triple = replaced-below;
  }
