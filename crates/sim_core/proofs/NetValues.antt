-- The rows of a net's signals, table after table, and with a table turned over.
use Rattle.std.proofs.Common.{◌≡◌, ◌≢◌, ℕ, ◌+◌, ◌-◌, ◌*◌, ◌<◌, ◌≤◌, ◌/◌, ◌%◌, ◌^◌, ◌==◌, eqb, IsTrue, ◌↔◌, ◌⊎◌, replicate, Bool, true, false, not, cond, ◌&&◌, ◌||◌, List, [], ◌∷◌, ◌++◌, length}
use Rattle.std.proofs.Common.{get_or, set, take, drop, Contains, refl, ap, sym, subst, ◌∙◌, inl, inr, arith, get_or-set_same, get_or-set_other}
use Rattle.std.specs.List.{list_any}
use Rattle.std.proofs.Math.ListN.{length-set}
use Rattle.std.proofs.lemmas.Bool.{cases_eq, cases_lt, true≢false, and_parts, and_cases, not-true, not-false, eq-eqb, eqb-true}
use Rattle.std.proofs.lemmas.List.{drop_more, drop_all, take_more, take_at, get_or_past, length_push, get_or_push, get_or_append_left, get_or-replicate, length-replicate}
use Rattle.std.proofs.lemmas.Nat.Bits.{bit_at-zero, bit_at_ones}
use Rattle.std.proofs.lemmas.List.Elements.{Contains-push, Contains-push_cases, Contains-append_left}
use Rattle.semantics.specs.declared.mark.Mark.{Mark}
use Rattle.semantics.specs.Net.{TableValue, NetValue, table_at, input_count, table_count, signal_count, IsAcyclic}
use Rattle.semantics.specs.Value.{Assignment, mark_matches, row_matches, table_value, value_of}
use Rattle.semantics.specs.Dependence.{DependsOn, itself}
use Rattle.semantics.specs.Order.{IsKnown, IsNext, IsOrderOf}
use Rattle.semantics.proofs.Values.{value_law, table_value-same}
use Rattle.semantics.proofs.Members.{each_weaker}
use Rattle.semantics.proofs.Grounding.{next-value}
use Rattle.chain_semantics.specs.Flips.{flipped_values, IsFlipped}
use Rattle.chain_semantics.proofs.Flipped.{flipped-is, flipped-apart}
use Rattle.net_core.proofs.InOrder.{HoldsBefore, next_at, holds_none, holds_more}
use Rattle.lane_bits.specs.Rows.{row_bit, turned, word_count}
use Rattle.lane_bits.specs.Patterns.{IsRowOf}
use Rattle.lane_bits.proofs.Bits.{word_bit}
use Rattle.sim_core.specs.Simulation.{vector_at, IsRowOfValues}
use Rattle.sim_core.specs.NetRows.{row_at, values_of, AreWide, HaveRows, HaveFlipped, FlipValue, IsNetSimulation, IsTableRow, IsOppositeRow}

-- ---- rows of tables

and_assoc : (x y z : Bool) → ((x && y) && z) ≡ (x && (y && z))
and_assoc true y z = refl
and_assoc false y z = refl

or_assoc : (x y z : Bool) → ((x || y) || z) ≡ (x || (y || z))
or_assoc true y z = refl
or_assoc false y z = refl

pub and_true : (x : Bool) → (x && true) ≡ x
and_true true = refl
and_true false = refl

or_false : (x : Bool) → (x || false) ≡ x
or_false true = refl
or_false false = refl

-- one more pin of a row
pub cube_step : (marks : List Mark) (pins : List ℕ) (v : Assignment) (i : ℕ) (all new : Bool) (d : Mark) → i < length marks → length marks ≡ length pins
    → new ≡ (all && mark_matches (get_or marks i d) (v (get_or pins i 0))) → (all && row_matches (drop i marks) (drop i pins) v) ≡ row_matches marks pins v
    → (new && row_matches (drop (i + 1) marks) (drop (i + 1) pins) v) ≡ row_matches marks pins v
cube_step marks pins v i all new d low same here before =
    let rest : Bool = row_matches (drop (i + 1) marks) (drop (i + 1) pins) v in
    let whole : row_matches (drop i marks) (drop i pins) v ≡ (mark_matches (get_or marks i d) (v (get_or pins i 0)) && rest) =
    rw (drop_more marks i d low, drop_more pins i 0 (omega arith)) refl in
    ap (λ x. x && rest) here
    ∙ and_assoc all (mark_matches (get_or marks i d) (v (get_or pins i 0))) rest
    ∙ ap (λ x. all && x) (sym whole)
    ∙ before

pub cube_end : (marks : List Mark) (pins : List ℕ) (v : Assignment) (i : ℕ) (all : Bool) → length marks ≤ i
    → (all && row_matches (drop i marks) (drop i pins) v) ≡ row_matches marks pins v → all ≡ row_matches marks pins v
cube_end marks pins v i all past before = sym (and_true all) ∙ ap (λ l. all && row_matches l (drop i pins) v) (sym (drop_all i marks past)) ∙ before

-- one more row
pub cover_step : (test : List Mark → Bool) (cubes : List (List Mark)) (i : ℕ) (any here new : Bool) (marks : List Mark) → i < length cubes → marks ≡ get_or cubes i marks
    → new ≡ (any || here) → here ≡ test marks → (any || list_any test (drop i cubes)) ≡ list_any test cubes → (new || list_any test (drop (i + 1) cubes)) ≡ list_any test cubes
cover_step test cubes i any here new marks low read is value before =
    let rest : Bool = list_any test (drop (i + 1) cubes) in
    let whole : list_any test (drop i cubes) ≡ (test marks || rest) =
    ap (list_any test) (drop_more cubes i marks low) ∙ ap (λ m. test m || rest) (sym read) in
    ap (λ x. x || rest) (is ∙ ap (λ x. any || x) value)
    ∙ or_assoc any (test marks) rest
    ∙ ap (λ x. any || x) (sym whole)
    ∙ before

pub cover_end : (test : List Mark → Bool) (cubes : List (List Mark)) (i : ℕ) (any : Bool) → length cubes ≤ i → (any || list_any test (drop i cubes)) ≡ list_any test cubes → any ≡ list_any test cubes
cover_end test cubes i any past before = sym (or_false any) ∙ ap (λ l. any || list_any test l) (sym (drop_all i cubes past)) ∙ before

pub plane_turned : (plane any : Bool) → turned (not plane) any ≡ cond any plane (not plane)
plane_turned true true = refl
plane_turned true false = refl
plane_turned false true = refl
plane_turned false false = refl

-- ---- lists of rows

pub row_put : (rows : List (List ℕ)) (i : ℕ) (row : List ℕ) → i < length rows → row_at (set rows i row) i ≡ row
row_put rows i row low = get_or-set_same rows i row [] low

pub row_other : (rows : List (List ℕ)) (i s : ℕ) (row : List ℕ) → s ≢ i → row_at (set rows i row) s ≡ row_at rows s
row_other rows i s row other = get_or-set_other rows i s row [] other

pub wide_set : (words : ℕ) (rows : List (List ℕ)) (i : ℕ) (row : List ℕ) → AreWide words rows → length row ≡ words → AreWide words (set rows i row)
wide_set words rows i row wide long s low =
    elim (cases_eq s i) [
      | inl e ↦
          let inside : i < length rows = omega (arith, low, e, length-set rows i row) in
          ap length (ap (λ k. row_at (set rows i row) k) e ∙ row_put rows i row inside) ∙ long
      | inr other ↦ ap length (row_other rows i s row other) ∙ wide s (omega (arith, low, length-set rows i row))
    ]

pub wide_push : (words : ℕ) (rows : List (List ℕ)) (row : List ℕ) → AreWide words rows → length row ≡ words → AreWide words (rows ++ row ∷ [])
wide_push words rows row wide long s low =
    elim (cases_eq s (length rows)) [
      | inl e ↦ ap length (get_or_push rows row [] s (sym e)) ∙ long
      | inr other ↦
          let early : s < length rows = omega (arith, low, other, length_push rows row) in
          ap length (get_or_append_left rows (row ∷ []) [] s early) ∙ wide s early
    ]

-- a list of which one row is set, by the terms of the code
pub wide_step : (words : ℕ) (rows new : List (List ℕ)) (place : ℕ) → new ≡ set rows place (row_at new place) → length (row_at new place) ≡ words → AreWide words rows → AreWide words new
wide_step words rows new place is long wide = subst (AreWide words) (sym is) (wide_set words rows place (row_at new place) wide long)

pub other_step : (rows new : List (List ℕ)) (place s : ℕ) → new ≡ set rows place (row_at new place) → s ≢ place → row_at new s ≡ row_at rows s
other_step rows new place s is other = ap (λ (r : List (List ℕ)). row_at r s) is ∙ row_other rows place s (row_at new place) other

-- equal words
pub full_word : (word : ℕ) (bit : Bool) → word ≡ 2 ^ 64 - 1 → bit ≡ true → (b : ℕ) → b < 64 → word_bit word b ≡ bit
full_word word bit is set b low = ap (λ w. word_bit w b) is ∙ ap (λ n. n == 1) (bit_at_ones 64 b low) ∙ sym set

pub zero_word : (word : ℕ) (bit : Bool) → word ≡ 0 → bit ≡ false → (b : ℕ) → b < 64 → word_bit word b ≡ bit
zero_word word bit is clear b low = ap (λ w. word_bit w b) is ∙ ap (λ n. n == 1) (bit_at-zero b) ∙ sym clear

pub filled_bit : (bit : Bool) (word n : ℕ) (row : List ℕ) (p : ℕ) → row ≡ replicate n word → p < 64 * length row → ((b : ℕ) → b < 64 → word_bit word b ≡ bit) → row_bit row p ≡ bit
unfolding row_bit
filled_bit bit word n row p is low bits =
    let inside : p / 64 < n = omega (arith, low, ap length is, length-replicate n word) in
    ap (λ w. word_bit w (p % 64)) (ap (λ r. get_or r (p / 64) 0) is ∙ get_or-replicate n (p / 64) word 0 inside) ∙ bits (p % 64) (omega arith)

-- ---- the inputs

pub input_row : (vectors : List (List Bool)) (i : ℕ) (row : List ℕ) → IsRowOf vectors i row → IsRowOfValues vectors (λ x. get_or x i false) row
input_row vectors i row is = record {
  words = is.words;
  bits = λ p low. is.bits p;
  clear = λ p past. is.bits p ∙ ap (λ (x : List Bool). get_or x i false) (get_or_past vectors p [] past);
}

pub inputs_more : (vectors : List (List Bool)) (m : ℕ) (rows : List (List ℕ)) (row : List ℕ) → m < length rows → IsRowOf vectors m row → HaveRows vectors (λ x s. get_or x s false) m rows
    → HaveRows vectors (λ x s. get_or x s false) (m + 1) (set rows m row)
inputs_more vectors m rows row room is before s low =
    elim (cases_eq s m) [
      | inl e ↦
          subst (λ k. IsRowOfValues vectors (λ x. get_or x k false) (row_at (set rows m row) k)) (sym e)
          (subst (IsRowOfValues vectors (λ x. get_or x m false)) (sym (row_put rows m row room)) (input_row vectors m row is))
      | inr other ↦ subst (IsRowOfValues vectors (λ x. get_or x s false)) (sym (row_other rows m s row other)) (before s (omega (arith, low, other)))
    ]

-- ---- table after table

-- a row has a signal's values
abbrev pub IsSignalRow : List (List Bool) → (List Bool → Assignment) → ℕ → List ℕ → Type 0
IsSignalRow vectors values s row = IsRowOfValues vectors (λ x. values x s) row

same_values : (vectors : List (List Bool)) (f g : List Bool → Bool) (row : List ℕ) → ((x : List Bool) → f x ≡ g x) → IsRowOfValues vectors f row → IsRowOfValues vectors g row
same_values vectors f g row same is = record { words = is.words; bits = λ p low. is.bits p low ∙ same (vector_at vectors p); clear = is.clear }

-- the row of a table whose pins' rows have their values
table_values : (vectors : List (List Bool)) (count : ℕ) (t : TableValue) (values : List Bool → Assignment) (rows : List (List ℕ)) (row : List ℕ) (f : List Bool → Bool) → length vectors ≡ count
    → IsTableRow t count rows row
    → ((p : ℕ) → p < length vectors → table_value t (values_of rows p) ≡ f (vector_at vectors p)) → IsRowOfValues vectors f row
table_values vectors count t values rows row f same is value = record {
  words = is.words ∙ ap word_count (sym same);
  bits = λ p low. is.bits p (omega (arith, low, same)) ∙ value p low;
  clear = λ p past. is.clear p (omega (arith, past, same));
}

-- the rows of the inputs, of the first k tables of the order and of table t are computed again; the other
-- rows are as they were
pub record IsFlipping (N : NetValue) (vectors : List (List Bool)) (order : List ℕ) (t : ℕ) (start : List (List ℕ)) (k : ℕ) (rows : List (List ℕ)) : Type 0 where
  pub known : HoldsBefore (IsSignalRow vectors (λ x. flipped_values (input_count N) N.tables x t)) [] (input_count N) order k rows
  pub turned_over : IsRowOfValues vectors (λ x. flipped_values (input_count N) N.tables x t (input_count N + t)) (row_at rows (input_count N + t))
  pub rest : (s : ℕ) → input_count N ≤ s → ¬ Contains (take k order) (s - input_count N) → s ≢ input_count N + t → row_at rows s ≡ row_at start s

module _ (N : NetValue) (vectors : List (List Bool)) (count : ℕ) (same : length vectors ≡ count) (order : List ℕ) (acyclic : IsAcyclic (input_count N) N.tables)
    (is : IsOrderOf (input_count N) N.tables order) where
  abbrev n : ℕ
  n = input_count N

  pub rows_none : (rows : List (List ℕ)) → HaveRows vectors (λ x s. get_or x s false) n rows → HoldsBefore (IsSignalRow vectors (value_of n N.tables)) [] n order 0 rows
  rows_none rows inputs =
      holds_none n N.tables order is (IsSignalRow vectors (value_of n N.tables)) [] rows
      (λ s low. same_values vectors (λ x. get_or x s false) (λ x. value_of n N.tables x s) (row_at rows s) (λ x. sym ((value_law n N.tables x acyclic).consistent.input s low)) (inputs s low))

  pub rows_more : (rows : List (List ℕ)) (k i : ℕ) (row : List ℕ) → k < length order → i ≡ get_or order k 0 → signal_count N ≤ length rows → IsTableRow (table_at N.tables i) count rows row
      → HoldsBefore (IsSignalRow vectors (value_of n N.tables)) [] n order k rows → HoldsBefore (IsSignalRow vectors (value_of n N.tables)) [] n order (k + 1) (set rows (n + i) row)
  rows_more rows k i row low at room found before =
      let next : IsNext n N.tables (take k order) i = next_at n N.tables order is k i low at in
      holds_more n N.tables order is (IsSignalRow vectors (value_of n N.tables)) [] rows k i row low at room
      (table_values vectors count (table_at N.tables i) (value_of n N.tables) rows row (λ x. value_of n N.tables x (n + i)) same found
      (λ p within. next-value n N.tables (vector_at vectors p) (take k order) i (values_of rows p) acyclic next (λ s known. (before s known).bits p within)))
      before

  -- one more row, by the terms of the code
  pub rows_step : (rows new : List (List ℕ)) (k i place : ℕ) (table : TableValue) → k < length order → i ≡ get_or order k 0 → place ≡ n + i → signal_count N ≤ length rows → table ≡ table_at N.tables i
      → new ≡ set rows place (row_at new place) → IsTableRow table count rows (row_at new place)
      → HoldsBefore (IsSignalRow vectors (value_of n N.tables)) [] n order k rows → HoldsBefore (IsSignalRow vectors (value_of n N.tables)) [] n order (k + 1) new
  rows_step rows new k i place table low at here room read set_is found before =
      let made : IsTableRow (table_at N.tables i) count rows (row_at new place) = subst (λ (u : TableValue). IsTableRow u count rows (row_at new place)) read found in
      subst (HoldsBefore (IsSignalRow vectors (value_of n N.tables)) [] n order (k + 1)) (ap (λ j. set rows j (row_at new place)) (sym here) ∙ sym set_is)
      (rows_more rows k i (row_at new place) low at room made before)

  -- ---- a table is turned over

  module _ (t : ℕ) (table : t < table_count N) (start : List (List ℕ)) (values : HaveRows vectors (value_of n N.tables) (signal_count N) start) where
    law : (x : List Bool) → IsFlipped n N.tables x t (flipped_values n N.tables x t)
    law x = flipped-is n N.tables x t acyclic table

    pub flipping_none : (row : List ℕ) → signal_count N ≤ length start → IsOppositeRow count (row_at start (n + t)) row → IsFlipping N vectors order t start 0 (set start (n + t) row)
    flipping_none row room opposite = record {
      known = holds_none n N.tables order is (IsSignalRow vectors (λ x. flipped_values n N.tables x t)) [] (set start (n + t) row)
          (λ s low.
          let other : s ≢ n + t = (λ e. omega (arith, low, e)) in
          subst (IsRowOfValues vectors (λ x. flipped_values n N.tables x t s)) (sym (row_other start (n + t) s row other))
          (same_values vectors (λ x. value_of n N.tables x s) (λ x. flipped_values n N.tables x t s) (row_at start s)
          (λ x. (value_law n N.tables x acyclic).consistent.input s low ∙ sym ((law x).input s low)) (values s (omega (arith, low)))));
      turned_over = subst (IsRowOfValues vectors (λ x. flipped_values n N.tables x t (n + t))) (sym (row_put start (n + t) row (omega (arith, room, table))))
          (record {
            words = opposite.words ∙ ap word_count (sym same);
            bits = λ p low. opposite.bits p (omega (arith, low, same)) ∙ ap not ((values (n + t) (omega (arith, table))).bits p low) ∙ sym ((law (vector_at vectors p)).itself);
            clear = λ p past. opposite.clear p (omega (arith, past, same));
          });
      rest = λ s high new other. row_other start (n + t) s row other;
    }

    pub flipping_start : (new : List (List ℕ)) (place : ℕ) → place ≡ n + t → signal_count N ≤ length start → new ≡ set start place (row_at new place)
        → IsOppositeRow count (row_at start place) (row_at new place) → IsFlipping N vectors order t start 0 new
    flipping_start new place here room set_is opposite =
        subst (IsFlipping N vectors order t start 0) (ap (λ j. set start j (row_at new place)) (sym here) ∙ sym set_is)
        (flipping_none (row_at new place) room (subst (λ j. IsOppositeRow count (row_at start j) (row_at new place)) here opposite))

    module _ (k i : ℕ) (rows : List (List ℕ)) (low : k < length order) (at : i ≡ get_or order k 0) (before : IsFlipping N vectors order t start k rows) where
      next : IsNext n N.tables (take k order) i
      next = next_at n N.tables order is k i low at

      grown : take (k + 1) order ≡ take k order ++ i ∷ []
      grown = take_more order k 0 low ∙ ap (λ j. take k order ++ j ∷ []) (sym at)

      still_new : (s : ℕ) → ¬ Contains (take (k + 1) order) (s - n) → ¬ Contains (take k order) (s - n)
      still_new s new c = new (subst (λ l. Contains l (s - n)) (sym grown) (Contains-append_left (take k order) (i ∷ []) (s - n) c))

      not_next : (s : ℕ) → n ≤ s → ¬ Contains (take (k + 1) order) (s - n) → s ≢ n + i
      not_next s high new e =
          let place : i ≡ s - n = omega (arith, e) in
          new (subst (λ j. Contains (take (k + 1) order) j) place (subst (λ l. Contains l i) (sym grown) (Contains-push (take k order) i)))

      -- what is known with one more table, where its row is right as it stands
      known_kept : IsRowOfValues vectors (λ x. flipped_values n N.tables x t (n + i)) (row_at rows (n + i))
          → HoldsBefore (IsSignalRow vectors (λ x. flipped_values n N.tables x t)) [] n order (k + 1) rows
      known_kept here s known =
          elim (cases_lt s n) [
            | inl input ↦ before.known s (inl input)
            | inr high ↦ elim known [
              | inl input ↦ before.known s (inl input)
              | inr c ↦ elim (Contains-push_cases (take k order) i (s - n) (subst (λ l. Contains l (s - n)) grown c)) [
                | inl old ↦ before.known s (inr old)
                | inr e ↦
                    let place : s ≡ n + i = omega (arith, e, high) in
                    subst (λ u. IsRowOfValues vectors (λ x. flipped_values n N.tables x t u) (row_at rows u)) (sym place) here
              ]
            ]
          ]

      pub flipping_same : i ≡ t → IsFlipping N vectors order t start (k + 1) rows
      flipping_same e = record {
        known = known_kept (subst (λ u. IsRowOfValues vectors (λ x. flipped_values n N.tables x t (n + u)) (row_at rows (n + u))) (sym e) before.turned_over);
        turned_over = before.turned_over;
        rest = λ s high new other. before.rest s high (still_new s new) other;
      }

      pub flipping_apart : i ≢ t → ¬ DependsOn n N.tables t (n + i) → IsFlipping N vectors order t start (k + 1) rows
      flipping_apart other free =
          let place : (n + i) - n ≡ i = omega arith in
          let apart : n + i ≢ n + t = (λ e. other (omega (arith, e))) in
          let as_before : row_at rows (n + i) ≡ row_at start (n + i) =
          before.rest (n + i) (omega arith) (subst (λ j. ¬ Contains (take k order) j) (sym place) next.new) apart in
          record {
            known = known_kept (subst (IsRowOfValues vectors (λ x. flipped_values n N.tables x t (n + i))) (sym as_before)
                (same_values vectors (λ x. value_of n N.tables x (n + i)) (λ x. flipped_values n N.tables x t (n + i)) (row_at start (n + i))
                (λ x. sym (flipped-apart n N.tables x t acyclic table (n + i) (omega (arith, next.table)) free)) (values (n + i) (omega (arith, next.table)))));
            turned_over = before.turned_over;
            rest = λ s high new apart. before.rest s high (still_new s new) apart;
          }

      pub flipping_more : (row : List ℕ) → i ≢ t → signal_count N ≤ length rows → IsTableRow (table_at N.tables i) count rows row → IsFlipping N vectors order t start (k + 1) (set rows (n + i) row)
      flipping_more row other room found =
          let apart : n + t ≢ n + i = (λ e. other (omega (arith, e))) in
          record {
            known = holds_more n N.tables order is (IsSignalRow vectors (λ x. flipped_values n N.tables x t)) [] rows k i row low at room
                (table_values vectors count (table_at N.tables i) (λ x. flipped_values n N.tables x t) rows row (λ x. flipped_values n N.tables x t (n + i)) same found
                (λ p within.
                table_value-same (table_at N.tables i) (values_of rows p) (flipped_values n N.tables (vector_at vectors p) t)
                (each_weaker (IsKnown n (take k order)) (λ s. values_of rows p s ≡ flipped_values n N.tables (vector_at vectors p) t s) (table_at N.tables i).pins
                (λ s known. (before.known s known).bits p within) next.reads)
                ∙ sym ((law (vector_at vectors p)).others i next.table other)))
                before.known;
            turned_over = subst (IsRowOfValues vectors (λ x. flipped_values n N.tables x t (n + t))) (sym (row_other rows (n + i) (n + t) row apart)) before.turned_over;
            rest = λ s high new elsewhere. row_other rows (n + i) s row (not_next s high new) ∙ before.rest s high (still_new s new) elsewhere;
          }

      pub flipping_kept : (i ≡ t) ⊎ (¬ DependsOn n N.tables t (n + i)) → IsFlipping N vectors order t start (k + 1) rows
      flipping_kept (inl e) = flipping_same e
      flipping_kept (inr free) = elim (cases_eq i t) [ inl e ↦ flipping_same e | inr other ↦ flipping_apart other free ]

      pub flipping_step : (new : List (List ℕ)) (place : ℕ) (read : TableValue) → place ≡ n + i → i ≢ t → signal_count N ≤ length rows → read ≡ table_at N.tables i
          → new ≡ set rows place (row_at new place) → IsTableRow read count rows (row_at new place) → IsFlipping N vectors order t start (k + 1) new
      flipping_step new place read here other room same_table set_is found =
          let made : IsTableRow (table_at N.tables i) count rows (row_at new place) = subst (λ (u : TableValue). IsTableRow u count rows (row_at new place)) same_table found in
          subst (IsFlipping N vectors order t start (k + 1)) (ap (λ j. set rows j (row_at new place)) (sym here) ∙ sym set_is)
          (flipping_more (row_at new place) other room made)

-- ---- the marks

pub is_other : (i t : ℕ) (mark found : Bool) → found ≡ (not (eqb i t) && mark) → found ≡ true → i ≢ t
is_other i t mark found is holds e =
    let parts = and_parts (not (eqb i t)) mark (sym is ∙ holds) in
    let apart : eqb i t ≡ false = not-true (eqb i t) parts.0 in
    true≢false (sym (eq-eqb i t e) ∙ apart)

pub is_marked : (i t : ℕ) (mark found : Bool) → found ≡ (not (eqb i t) && mark) → found ≡ true → mark ≡ true
is_marked i t mark found is holds = (and_parts (not (eqb i t)) mark (sym is ∙ holds)).1

-- an unmarked signal is not a marked one
pub unmarked_other : (marks : List Bool) (place s : ℕ) → get_or marks place false ≡ true → get_or marks s false ≡ false → s ≢ place
unmarked_other marks place s set clear e = true≢false (sym set ∙ ap (λ j. get_or marks j false) (sym e) ∙ clear)

pub table_marked : (N : NetValue) (t place : ℕ) (marks : List Bool) → t < table_count N → place ≡ input_count N + t
    → ((s : ℕ) → s < signal_count N → IsTrue (get_or marks s false) ↔ DependsOn (input_count N) N.tables t s) → get_or marks place false ≡ true
table_marked N t place marks low here marked =
    subst (λ j. get_or marks j false ≡ true) (sym here) ((marked (input_count N + t) (omega (arith, low))).1 (itself refl))

-- why the next table is not found again
pub left_out : (N : NetValue) (t i place : ℕ) (marks : List Bool) (found : Bool) → i < table_count N → place ≡ input_count N + i
    → ((s : ℕ) → s < signal_count N → IsTrue (get_or marks s false) ↔ DependsOn (input_count N) N.tables t s)
    → found ≡ (not (eqb i t) && get_or marks place false) → found ≡ false → (i ≡ t) ⊎ (¬ DependsOn (input_count N) N.tables t (input_count N + i))
left_out N t i place marks found low here marked is skip =
    elim (and_cases (not (eqb i t)) (get_or marks place false) (sym is ∙ skip)) [
      | inl e ↦ inl (eqb-true i t (not-false (eqb i t) e))
      | inr clear ↦
          let free : get_or marks (input_count N + i) false ≡ false = subst (λ j. get_or marks j false ≡ false) here clear in
          inr (λ path. true≢false (sym ((marked (input_count N + i) (omega (arith, low))).1 path) ∙ free))
    ]

-- ---- the rows behind a flip, by the terms of the code

module _ (N : NetValue) (t len count : ℕ) (rows flipped restored found start new : List (List ℕ)) (s : FlipValue) (long : length flipped ≡ len) (same_length : length restored ≡ length flipped)
    (restored_is : restored ≡ found) (found_is : found ≡ rows) (start_is : start ≡ take len (restored ++ drop (length restored) flipped)) (as_many : length new ≡ length start)
    (counts : count ≡ s.count) (held : rows ≡ s.rows)
    (flips : (vectors : List (List Bool)) → length vectors ≡ count → HaveRows vectors (value_of (input_count N) N.tables) (signal_count N) start → HaveFlipped N vectors t new) where
  begun : start ≡ restored
  begun = start_is ∙ take_at restored (drop (length restored) flipped) len (same_length ∙ long)

  pub flips_written : (vectors : List (List Bool)) → IsNetSimulation N vectors s
      → HaveFlipped N vectors t (take len (new ++ drop (length new) (take len (restored ++ drop (length restored) flipped))))
  flips_written vectors is =
      let written : take len (new ++ drop (length new) (take len (restored ++ drop (length restored) flipped))) ≡ new =
      take_at new (drop (length new) (take len (restored ++ drop (length restored) flipped))) len (as_many ∙ ap length begun ∙ same_length ∙ long) in
      subst (HaveFlipped N vectors t) (sym written)
      (flips vectors (sym (counts ∙ is.is_for.count))
      (subst (HaveRows vectors (value_of (input_count N) N.tables) (signal_count N)) (sym (begun ∙ restored_is ∙ found_is ∙ held)) is.rows))
