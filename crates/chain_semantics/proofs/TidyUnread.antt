-- Rule 6: a table that is no output and that no table reads is left out.
use Rattle.std.proofs.Common.{◌≡◌, ◌≢◌, ℕ, suc, ◌+◌, ◌-◌, ◌<◌, ◌≤◌, true, false, not, List, [], ◌∷◌, ◌++◌, map, length, get_or, refl, ap, sym, subst, ◌∙◌, inl, inr, arith}
use Rattle.std.specs.Prelude.{◌&&◌, All, AllPairs, Contains}
use Rattle.std.specs.List.{sum_by, AllByRecursion, remove}
use Rattle.std.proofs.lemmas.Bool.{cases_lt, lt-ltb, le-ltb, and_parts, not-true}
use Rattle.std.proofs.lemmas.Simd.{map-map}
use Rattle.std.proofs.lemmas.List.{length-map, length-append}
use Rattle.std.proofs.lemmas.List.Edits.{length-remove, get_or-remove_below, get_or-remove_above, remove-append_right}
use Rattle.std.proofs.lemmas.List.Elements.{All-map, All-weaker, All-contains, All-from_recursion}
use Rattle.std.proofs.lemmas.List.Quantifiers.{all_pairs_remove}
use Rattle.std.proofs.lemmas.List.Sums.{sum_by-remove}
use Rattle.semantics.specs.Texts.{Bytes}
use Rattle.semantics.specs.Net.{TableValue, NetValue, no_table, table_at, input_count, table_count, signal_count, signal_names, name_of, table_literals, IsTable, IsSound, IsAcyclic}
use Rattle.semantics.specs.Value.{value_of, outputs_of}
use Rattle.semantics.specs.Embedding.{StandsAt, IsEmbedded}
use Rattle.semantics.specs.Renamed.{renamed, lowered, raised, without}
use Rattle.semantics.proofs.Depends.{each_member}
use Rattle.semantics.proofs.Without.{without-embedded, without-acyclic, without-values}
use Rattle.chain_semantics.specs.TidyRules.{is_empty, is_canonical, is_canonical_rows, is_output, is_read, is_unread, without_table}
use Rattle.chain_semantics.proofs.TidyMeasure.{table_cost, unless, count_below}
use Rattle.chain_semantics.specs.TidyLaws.{DoesNotGrow}
use Rattle.chain_semantics.proofs.TidyReading.{has_not, IsReadBy, read-by, by-read, unread, count_below-without}
use Rattle.chain_semantics.proofs.TidyGood.{IsGoodStep}
use Rattle.chain_semantics.proofs.TidyReplacing.{map-same}
use Rattle.chain_semantics.proofs.TidyMapped.{sum-map-le, All-remove, map-remove, acyclic-pins, Contains-map}

pub lowered-below : (gone s : ℕ) → s ≤ gone → lowered gone s ≡ s
lowered-below gone s h = rw (le-ltb gone s h) refl

pub lowered-above : (gone s : ℕ) → gone < s → lowered gone s ≡ s - 1
lowered-above gone s h = rw (lt-ltb gone s h) refl

pub raised-below : (gone s : ℕ) → s < gone → raised gone s ≡ s
raised-below gone s h = rw (lt-ltb s gone h) refl

pub raised-above : (gone s : ℕ) → gone ≤ s → raised gone s ≡ s + 1
raised-above gone s h = rw (le-ltb s gone h) refl

pub raised-lowered : (gone s : ℕ) → (s ≡ gone → ⊥) → raised gone (lowered gone s) ≡ s
raised-lowered gone s ne =
    elim (cases_lt gone s) [
      | inl above ↦ let back : (s - 1) + 1 ≡ s = omega arith in ap (raised gone) (lowered-above gone s above) ∙ raised-above gone (s - 1) (omega arith) ∙ back
      | inr below ↦ ap (raised gone) (lowered-below gone s below) ∙ raised-below gone s (omega arith)
    ]

lowered-within : (gone s bound : ℕ) → (s ≡ gone → ⊥) → s < bound → gone < bound → lowered gone s + 1 < bound
lowered-within gone s bound ne h g =
    elim (cases_lt gone s) [
      | inl above ↦ omega (arith, lowered-above gone s above)
      | inr below ↦ omega (arith, lowered-below gone s below)
    ]

-- what stands at another place
get_or-lowered : (names : List Bytes) (gone s : ℕ) → gone < length names → (s ≡ gone → ⊥) → get_or (remove names gone) (lowered gone s) [] ≡ get_or names s []
get_or-lowered names gone s h ne =
    elim (cases_lt gone s) [
      | inl above ↦
          let back : (s - 1) + 1 ≡ s = omega arith in
          ap (λ k. get_or (remove names gone) k []) (lowered-above gone s above) ∙ get_or-remove_above names gone [] (s - 1) (omega arith) h ∙ ap (λ k. get_or names k []) back
      | inr below ↦ ap (λ k. get_or (remove names gone) k []) (lowered-below gone s below) ∙ get_or-remove_below names gone [] s (omega arith) h
    ]

empty_map : (f : ℕ → ℕ) (pins : List ℕ) → is_empty (map f pins) ≡ is_empty pins
empty_map f [] = refl
empty_map f (s ∷ pins) = refl

renamed-cost : (f : ℕ → ℕ) (t : TableValue) → table_cost (renamed f t) ≤ table_cost t
renamed-cost f t =
    let same : unless (is_canonical (renamed f t)) ≡ unless (is_canonical t) = ap (λ b. unless (b && t.plane && is_canonical_rows t.rows)) (empty_map f t.pins) in
    omega (arith, length-map t.pins f)

renamed-formed : (f : ℕ → ℕ) (t : TableValue) → IsTable t → IsTable (renamed f t)
renamed-formed f t h = record {
  named = h.named;
  widths = subst (λ k. All (λ marks. length marks ≡ k) t.rows) (sym (length-map t.pins f)) h.widths;
  plane = h.plane;
}

module _ (N : NetValue) (i : ℕ) (sound : IsSound N) (within : i < table_count N) (e : is_unread N i ≡ true) where
  gone : ℕ
  gone = input_count N + i

  left : List TableValue
  left = without (input_count N) N.tables i

  parts : (is_output N (input_count N + i) ≡ false) × (is_read N.tables (input_count N + i) ≡ false)
  parts =
      let both = and_parts (not (is_output N (input_count N + i))) (not (is_read N.tables (input_count N + i))) e in
      (not-true (is_output N (input_count N + i)) both.0, not-true (is_read N.tables (input_count N + i)) both.1)

  pub no_reader : (j : ℕ) → j < length N.tables → ¬ Contains (table_at N.tables j).pins (input_count N + i)
  no_reader = unread N.tables (input_count N + i) parts.1

  fewer : length (without (input_count N) N.tables i) + 1 ≡ table_count N
  fewer = omega (arith, length-map (remove N.tables i) (renamed (lowered (input_count N + i))), length-remove N.tables i within)

  acyclic' : IsAcyclic (input_count N) (without (input_count N) N.tables i)
  acyclic' = without-acyclic (input_count N) N.tables i within no_reader sound.acyclic

  names : signal_names (without_table N i) ≡ remove (signal_names N) (input_count N + i)
  names =
      let place : (input_count N + i) - input_count N ≡ i = omega arith in
      ap (λ k. N.inputs ++ k) (map-map (λ t. t.name) (renamed (lowered (input_count N + i))) (remove N.tables i) ∙ map-remove (λ t. t.name) N.tables i)
      ∙ ap (λ k. N.inputs ++ remove (map (λ t. t.name) N.tables) k) (sym place)
      ∙ sym (remove-append_right N.inputs (map (λ t. t.name) N.tables) (input_count N) (input_count N + i) refl (omega arith))

  names_count : length (signal_names N) ≡ signal_count N
  names_count = omega (arith, length-append N.inputs (map (λ t. t.name) N.tables), length-map N.tables (λ t. t.name))

  -- for each output
  pub each_output : (P : ℕ → Type 0) → ((s : ℕ) → (s ≡ input_count N + i → ⊥) → s < signal_count N → P s) → AllByRecursion P N.outputs
  each_output P f = each_member P N.outputs
      (λ s c. f s (λ same. has_not N.outputs (input_count N + i) parts.0 (subst (Contains N.outputs) same c))
      (All-contains (λ p. p < signal_count N) N.outputs s sound.outputs_are_signals c))

  pub without-sound : IsSound (without_table N i)
  without-sound = record {
    model_named = sound.model_named;
    inputs_named = sound.inputs_named;
    tables_formed = All-map IsTable (renamed (lowered (input_count N + i))) (remove N.tables i)
        (All-weaker IsTable (λ t. IsTable (renamed (lowered (input_count N + i)) t)) (λ t h. renamed-formed (lowered (input_count N + i)) t h) (remove N.tables i)
        (All-remove IsTable N.tables i sound.tables_formed));
    names_differ = subst (AllPairs ◌≢◌) (sym names) (all_pairs_remove ◌≢◌ (signal_names N) (input_count N + i) (omega (arith, names_count)) sound.names_differ);
    has_output = omega (arith, length-map N.outputs (lowered (input_count N + i)), sound.has_output);
    outputs_are_signals = All-map (λ s. s < signal_count (without_table N i)) (lowered (input_count N + i)) N.outputs
        (All-from_recursion (λ s. lowered (input_count N + i) s < signal_count (without_table N i)) N.outputs
        (each_output (λ s. lowered (input_count N + i) s < signal_count (without_table N i))
        (λ s ne h. omega (arith, fewer, lowered-within (input_count N + i) s (signal_count N) ne h (omega arith)))));
    pins_are_signals = acyclic-pins (input_count N) (without (input_count N) N.tables i) acyclic';
    acyclic = acyclic';
  }

  sum_falls : (f : TableValue → ℕ) → ((t : TableValue) → f (renamed (lowered (input_count N + i)) t) ≤ f t) → sum_by f (without (input_count N) N.tables i) ≤ sum_by f N.tables
  sum_falls f less =
      omega (arith, sum-map-le f (renamed (lowered (input_count N + i))) less (remove N.tables i), sum_by-remove f N.tables i no_table within)

  pub without-grows : DoesNotGrow N (without_table N i)
  without-grows = record {
    tables = omega (arith, fewer);
    literals = sum_falls table_literals (λ t. omega arith);
    rows = sum_falls (λ t. length t.rows) (λ t. omega arith);
    pins = sum_falls (λ t. length t.pins) (λ t. omega (arith, length-map t.pins (lowered (input_count N + i))));
    table_pins = λ most h. All-map (λ t. length t.pins ≤ most) (renamed (lowered (input_count N + i))) (remove N.tables i)
        (All-weaker (λ t. length t.pins ≤ most) (λ t. length (map (lowered (input_count N + i)) t.pins) ≤ most)
        (λ t less. omega (arith, length-map t.pins (lowered (input_count N + i)))) (remove N.tables i)
        (All-remove (λ t. length t.pins ≤ most) N.tables i h));
  }

  -- what is read now was read before, under its old number
  pub read_before : (s : ℕ) → is_read (without (input_count N) N.tables i) s ≡ true → is_read N.tables (raised (input_count N + i) s) ≡ true
  read_before s r =
      let by : IsReadBy (without (input_count N) N.tables i) s = read-by (without (input_count N) N.tables i) s r in
      let embedded : IsEmbedded (input_count N) (without (input_count N) N.tables i) (input_count N) N.tables (raised (input_count N + i))
      = without-embedded (input_count N) N.tables i within no_reader in
      let at : StandsAt (raised (input_count N + i)) (table_at (without (input_count N) N.tables i) by.place) (input_count N) N.tables (raised (input_count N + i) (input_count N + by.place))
      = embedded.table by.place by.within in
      by-read N.tables (raised (input_count N + i) s) (record {
        place = at.place;
        within = at.within;
        pin = subst (λ pins. Contains pins (raised (input_count N + i) s)) (sym at.pins)
            (Contains-map (raised (input_count N + i)) (table_at (without (input_count N) N.tables i) by.place).pins s by.pin);
      })

  pub without-good : IsGoodStep N (without_table N i)
  unfolding outputs_of
  without-good = record {
    keeps = record {
      sound = without-sound;
      model = refl;
      ports = record {
        inputs = refl;
        outputs =
            map-same (name_of (signal_names N)) (λ s. name_of (signal_names (without_table N i)) (lowered (input_count N + i) s)) N.outputs
            (each_output (λ s. name_of (signal_names N) s ≡ name_of (signal_names (without_table N i)) (lowered (input_count N + i) s))
            (λ s ne h. sym (ap (λ k. name_of k (lowered (input_count N + i) s)) names ∙ get_or-lowered (signal_names N) (input_count N + i) s (omega (arith, names_count)) ne)))
            ∙ sym (map-map (name_of (signal_names (without_table N i))) (lowered (input_count N + i)) N.outputs);
      };
      values = λ x.
          map-same (value_of (input_count N) N.tables x) (λ s. value_of (input_count N) (without (input_count N) N.tables i) x (lowered (input_count N + i) s)) N.outputs
          (each_output (λ s. value_of (input_count N) N.tables x s ≡ value_of (input_count N) (without (input_count N) N.tables i) x (lowered (input_count N + i) s))
          (λ s ne h.
          ap (value_of (input_count N) N.tables x) (sym (raised-lowered (input_count N + i) s ne))
          ∙ without-values (input_count N) N.tables i within no_reader sound.acyclic x (lowered (input_count N + i) s) (lowered-within (input_count N + i) s (signal_count N) ne h (omega arith))))
          ∙ sym (map-map (value_of (input_count N) (without (input_count N) N.tables i) x) (lowered (input_count N + i)) N.outputs);
    };
    no_growth = without-grows;
    falls =
        let count : suc (signal_count (without_table N i)) ≡ signal_count N = omega (arith, fewer) in
        let reads : count_below (is_read (without (input_count N) N.tables i)) (signal_count (without_table N i)) ≤ count_below (is_read N.tables) (signal_count N) =
        subst (λ k. count_below (is_read (without (input_count N) N.tables i)) (signal_count (without_table N i)) ≤ count_below (is_read N.tables) k) count
        (count_below-without (is_read (without (input_count N) N.tables i)) (is_read N.tables) (input_count N + i) (signal_count (without_table N i))
        (λ s low r. ap (is_read N.tables) (sym (raised-below (input_count N + i) s low)) ∙ read_before s r)
        (λ s high r. ap (is_read N.tables) (sym (raised-above (input_count N + i) s high)) ∙ read_before s r)) in
        omega (arith, fewer, sum_falls table_cost (renamed-cost (lowered (input_count N + i))), reads);
    triple = inl (omega (arith, fewer, sum_falls (λ t. length t.pins) (λ t. omega (arith, length-map t.pins (lowered (input_count N + i))))));
  }
