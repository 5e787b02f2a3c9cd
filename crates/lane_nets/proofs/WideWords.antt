-- Wide words lane by lane.
use Rattle.std.proofs.Common.{◌≡◌, ℕ, zero, suc, ◌+◌, ◌-◌, ◌*◌, ◌<◌, ◌≤◌, Bool, true, false, not, cond, ◌&&◌, Fits, w64, List, [], ◌∷◌, length, map, get_or, set, take, drop}
use Rattle.std.proofs.Common.{refl, ap, sym, ◌∙◌, inl, inr, arith, get_or-set_same, get_or-set_other}
use Rattle.std.specs.Int.{bit_not}
use Rattle.std.specs.Prelude.{bit_and}
use Rattle.std.proofs.lemmas.Bool.{cases_eq}
use Rattle.std.specs.Simd.Lanes.{zip2, Each1, chunk}
use Rattle.std.proofs.lemmas.Simd.{get_or-zip2, get_or-chunk, Each1-get_or}
use Rattle.std.proofs.lemmas.List.{get_or-map, get_or-take, get_or-drop, length-take}
use Rattle.semantics.specs.Net.{TableValue, NetValue, table_at, input_count, signal_count, IsAcyclic, IsSound}
use Rattle.semantics.specs.declared.mark.Mark.{Mark}
use Rattle.semantics.specs.Value.{mark_matches, row_matches, table_value, value_of}
use Rattle.semantics.specs.Order.{IsNext, IsOrderOf}
use Rattle.semantics.proofs.Values.{value_law}
use Rattle.semantics.proofs.Grounding.{next-value}
use Rattle.net_core.proofs.InOrder.{HoldsBefore, next_at, holds_none, holds_more}
use Rattle.lane_bits.specs.Rows.{row_bit}
use Rattle.lane_bits.specs.Patterns.{pattern_bit}
use Rattle.lane_nets.specs.Words.{word_bit, values_at, HasInputs}
use Rattle.lane_nets.specs.Wide.{lane_words, IsWideBlock, AreWideOutputs}
use Rattle.lane_nets.proofs.BlockErrors.{output_block_is}
use Rattle.lane_nets.proofs.RowBits.{row_bit-word}
use Rattle.lane_nets.proofs.WordBits.{not_bit, row_step}

pub lane_words_get : (wides : List (List ℕ)) (j s : ℕ) → get_or (lane_words wides j) s 0 ≡ get_or (get_or wides s []) j 0
lane_words_get [] j s = refl
lane_words_get (wide ∷ wides) j zero = refl
lane_words_get (wide ∷ wides) j (suc s) = lane_words_get wides j s

pub lane_words-set : (wides : List (List ℕ)) (i : ℕ) (wide : List ℕ) (j : ℕ) → lane_words (set wides i wide) j ≡ set (lane_words wides j) i (get_or wide j 0)
lane_words-set [] i wide j = refl
lane_words-set (w ∷ wides) zero wide j = refl
lane_words-set (w ∷ wides) (suc i) wide j = ap (λ l. get_or w j 0 ∷ l) (lane_words-set wides i wide j)

pub lane_words-length : (wides : List (List ℕ)) (j : ℕ) → length (lane_words wides j) ≡ length wides
lane_words-length [] j = refl
lane_words-length (w ∷ wides) j = ap suc (lane_words-length wides j)

-- an operator on one lane
pub zip2-lane : (f : ℕ → ℕ → ℕ) (xs ys : List ℕ) (j : ℕ) → length xs ≡ 8 → length ys ≡ 8 → j < 8 → get_or (zip2 f xs ys) j 0 ≡ f (get_or xs j 0) (get_or ys j 0)
zip2-lane f xs ys j left right low = get_or-zip2 f xs ys j 0 0 0 (omega (arith, left, low)) (omega (arith, right, low))

pub not-lane : (xs : List ℕ) (j b : ℕ) → length xs ≡ 8 → Each1 (Fits w64) xs → j < 8 → b < 64 → word_bit (get_or (map (bit_not w64) xs) j 0) b ≡ not (word_bit (get_or xs j 0) b)
not-lane xs j b long fits lane low =
    let within : j < length xs = omega (arith, long, lane) in
    ap (λ w. word_bit w b) (get_or-map (bit_not w64) xs j 0 0 within) ∙ not_bit (get_or xs j 0) b (Each1-get_or (Fits w64) xs j 0 within fits).fits low

pub plane_kept : (bit plane : Bool) → plane ≡ true → bit ≡ cond bit plane (not plane)
plane_kept true plane is = sym is
plane_kept false plane is = ap not (sym is)

pub plane_turned : (bit plane : Bool) → plane ≡ false → not bit ≡ cond bit plane (not plane)
plane_turned true plane is = sym is
plane_turned false plane is = ap not (sym is)

-- one more pin of a row
pub wide_row_step : (marks : List Mark) (pins : List ℕ) (wides : List (List ℕ)) (j i b all pin : ℕ) (d : Mark) → i < length marks → length marks ≡ length pins
    → word_bit pin b ≡ mark_matches (get_or marks i d) (word_bit (get_or (get_or wides (get_or pins i 0) []) j 0) b)
    → (word_bit all b && row_matches (drop i marks) (drop i pins) (values_at (lane_words wides j) b)) ≡ row_matches marks pins (values_at (lane_words wides j) b)
    → (word_bit (bit_and all pin) b && row_matches (drop (i + 1) marks) (drop (i + 1) pins) (values_at (lane_words wides j) b)) ≡ row_matches marks pins (values_at (lane_words wides j) b)
wide_row_step marks pins wides j i b all pin d low widths here before =
    row_step marks pins (lane_words wides j) i b all pin d low widths
    (here ∙ ap (λ w. mark_matches (get_or marks i d) (word_bit w b)) (sym (lane_words_get wides j (get_or pins i 0)))) before

-- eight words of a row
pub wide_part : (row : List ℕ) (from j : ℕ) → 8 ≤ length (take (length row - from) (drop from row)) → j < 8
    → get_or (chunk 0 8 (take (length row - from) (drop from row))) j 0 ≡ get_or row (from + j) 0
wide_part row from j long lane =
    let rest : List ℕ = take (length row - from) (drop from row) in
    let at : 0 + j ≡ j = omega arith in
    get_or-chunk 0 8 rest j 0 lane ∙ ap (λ n. get_or rest n 0) at ∙ get_or-take (length row - from) (drop from row) j 0 (omega (arith, long, lane, length-take (length row - from) (drop from row))) ∙
    get_or-drop from row j 0

-- ---- table after table

-- in each lane, at each pattern the wide word has the signal's value, where the inputs have theirs in the words at the start
abbrev pub IsWideFrom : NetValue → List (List ℕ) → ℕ → List ℕ → Type 0
IsWideFrom N start s wide =
    (j b : ℕ) (x : List Bool) → j < 8 → b < 64 → HasInputs N (lane_words start j) b x → word_bit (get_or wide j 0) b ≡ value_of (input_count N) N.tables x s

pub wides_none : (N : NetValue) (order : List ℕ) (start : List (List ℕ)) → IsOrderOf (input_count N) N.tables order → IsAcyclic (input_count N) N.tables
    → HoldsBefore (IsWideFrom N start) [] (input_count N) order 0 start
wides_none N order start is acyclic =
    holds_none (input_count N) N.tables order is (IsWideFrom N start) [] start
    (λ s low j b x lane below inputs.
    ap (λ w. word_bit w b) (sym (lane_words_get start j s)) ∙ inputs s low ∙ sym ((value_law (input_count N) N.tables x acyclic).consistent.input s low))

pub wides_more : (N : NetValue) (order : List ℕ) (start wides : List (List ℕ)) (k i : ℕ) (wide : List ℕ) (table : TableValue) → IsOrderOf (input_count N) N.tables order
    → IsAcyclic (input_count N) N.tables → k < length order → i ≡ get_or order k 0 → signal_count N ≤ length wides → table ≡ table_at N.tables i
    → ((j b : ℕ) → j < 8 → b < 64 → word_bit (get_or wide j 0) b ≡ table_value table (values_at (lane_words wides j) b))
    → HoldsBefore (IsWideFrom N start) [] (input_count N) order k wides → HoldsBefore (IsWideFrom N start) [] (input_count N) order (k + 1) (set wides (input_count N + i) wide)
wides_more N order start wides k i wide table is acyclic low at room read value before =
    let n : ℕ = input_count N in
    let next : IsNext n N.tables (take k order) i = next_at n N.tables order is k i low at in
    holds_more n N.tables order is (IsWideFrom N start) [] wides k i wide low at room
    (λ j b x lane below inputs.
    value j b lane below ∙ ap (λ (u : TableValue). table_value u (values_at (lane_words wides j) b)) read
    ∙ next-value n N.tables x (take k order) i (values_at (lane_words wides j) b) acyclic next
    (λ s known. ap (λ w. word_bit w b) (lane_words_get wides j s) ∙ before s known j b x lane below inputs))
    before

-- ---- blocks

pub wide_inputs_more : (vectors : List (List Bool)) (wides : List (List ℕ)) (row wide : List ℕ) (q n : ℕ) → n < length wides → ((p : ℕ) → row_bit row p ≡ pattern_bit vectors n p)
    → ((j : ℕ) → j < 8 → get_or wide j 0 ≡ get_or row (8 * q + j) 0)
    → ((j b s : ℕ) → j < 8 → b < 64 → s < n → values_at (lane_words wides j) b s ≡ pattern_bit vectors s (64 * (8 * q + j) + b))
    → (j b s : ℕ) → j < 8 → b < 64 → s < n + 1 → values_at (lane_words (set wides n wide) j) b s ≡ pattern_bit vectors s (64 * (8 * q + j) + b)
wide_inputs_more vectors wides row wide q n room bits is before j b s lane low within =
    let here : get_or (lane_words (set wides n wide) j) s 0 ≡ get_or (set (lane_words wides j) n (get_or wide j 0)) s 0 = ap (λ l. get_or l s 0) (lane_words-set wides n wide j) in
    elim (cases_eq s n) [
      | inl e ↦
          let found : get_or (set (lane_words wides j) n (get_or wide j 0)) s 0 ≡ get_or row (8 * q + j) 0 =
          ap (λ k. get_or (set (lane_words wides j) n (get_or wide j 0)) k 0) e
          ∙ get_or-set_same (lane_words wides j) n (get_or wide j 0) 0 (omega (arith, room, lane_words-length wides j)) ∙ is j lane in
          ap (λ w. word_bit w b) (here ∙ found) ∙ sym (row_bit-word row (8 * q + j) b low) ∙ bits (64 * (8 * q + j) + b)
          ∙ ap (λ k. pattern_bit vectors k (64 * (8 * q + j) + b)) (sym e)
      | inr other ↦
          ap (λ w. word_bit w b) (here ∙ get_or-set_other (lane_words wides j) n s (get_or wide j 0) 0 other) ∙ before j b s lane low (omega arith)
    ]

-- ---- outputs

lane-signals : (wides : List (List ℕ)) (j : ℕ) (outputs : List ℕ) → lane_words (map (λ s. get_or wides s []) outputs) j ≡ map (λ s. get_or (lane_words wides j) s 0) outputs
lane-signals wides j [] = refl
lane-signals wides j (s ∷ outputs) = (λ i. sym (lane_words_get wides j s) i ∷ lane-signals wides j outputs i)

-- the outputs, from the values of the signals
pub table_outputs : (N : NetValue) (vectors : List (List Bool)) (q : ℕ) (wides outputs : List (List ℕ)) → IsSound N → IsWideBlock N vectors q wides
    → outputs ≡ map (λ s. get_or wides s []) N.outputs → AreWideOutputs N vectors q outputs
table_outputs N vectors q wides outputs sound block is j lane =
    output_block_is N vectors (8 * q + j) (lane_words wides j) (lane_words outputs j) sound (block j lane) (ap (λ (l : List (List ℕ)). lane_words l j) is ∙ lane-signals wides j N.outputs)
