-- Errors in blocks of patterns, and what is found from block to block.
use Rattle.std.proofs.Common.{◌≡◌, ◌↔◌, ℕ, ◌+◌, ◌*◌, ◌-◌, ◌/◌, ◌%◌, ◌<◌, ◌≤◌, min, Bool, true, false, List, [], ◌∷◌, ◌++◌, length, map, slice_index, IsTrue, refl, ap, sym, ◌∙◌, subst, inl, inr, arith}
use Rattle.std.proofs.lemmas.Bool.{cases_eq, cases_lt}
use Rattle.std.proofs.lemmas.List.{length-map, get_or_push, get_or_append_left}
use Rattle.semantics.specs.Net.{NetValue, IsSound}
use Rattle.semantics.specs.Value.{outputs_of}
use Rattle.semantics.specs.declared.metric.Metric.{Metric}
use Rattle.semantics.specs.Error.{error_of, net_error}
use Rattle.lane_bits.specs.Patterns.{PatternSet}
use Rattle.lane_bits.specs.Rows.{row_bit, HasNoneSet, IsFirstSet}
use Rattle.lane_nets.specs.Words.{values_at}
use Rattle.lane_nets.specs.Blocks.{vector_at, row_at, IsBlock}
use Rattle.lane_nets.specs.Lanes.{lane_at, output_words, IsOutputBlock}
use Rattle.lane_nets.specs.Wide.{lane_words, AreWideOutputs, wides_at}
use Rattle.lane_nets.specs.Errors.{IsFirstOver, IsGreatestSoFar}
use Rattle.lane_nets.proofs.RowBits.{outputs_from_values}
use Rattle.lane_nets.proofs.Greatest.{greatest_kept}

-- ---- outputs

lane-outputs : (words : List ℕ) (b : ℕ) (outputs : List ℕ) → lane_at (map (slice_index words) outputs) b ≡ map (values_at words b) outputs
lane-outputs words b [] = refl
lane-outputs words b (s ∷ outputs) = ap (λ l. values_at words b s ∷ l) (lane-outputs words b outputs)

pub outputs_lane : (N M : NetValue) (words outputs : List ℕ) (b : ℕ) → M ≡ N → outputs ≡ output_words M words → lane_at outputs b ≡ map (values_at words b) N.outputs
outputs_lane N M words outputs b same is =
    ap (λ l. lane_at l b) is ∙ lane-outputs words b M.outputs ∙ ap (λ (K : NetValue). map (values_at words b) K.outputs) same

module _ (N : NetValue) (vectors : List (List Bool)) (rows : List (List ℕ)) (k : ℕ) (row : List ℕ) (long : length rows ≡ k) where
  pub widths_more : length row ≡ length N.outputs → ((j : ℕ) → j < k → length (row_at rows j) ≡ length N.outputs)
      → (j : ℕ) → j < k + 1 → length (row_at (rows ++ row ∷ []) j) ≡ length N.outputs
  widths_more here before j low =
      elim (cases_eq j k) [
        | inl e ↦ rw e (ap length (get_or_push rows row [] k long) ∙ here)
        | inr other ↦ rw (get_or_append_left rows (row ∷ []) [] j (omega arith)) (before j (omega arith))
      ]

  pub rows_more : IsOutputBlock N vectors k row → ((j b : ℕ) → j < k → b < 64 → lane_at (row_at rows j) b ≡ outputs_of N (vector_at vectors (64 * j + b)))
      → (j b : ℕ) → j < k + 1 → b < 64 → lane_at (row_at (rows ++ row ∷ []) j) b ≡ outputs_of N (vector_at vectors (64 * j + b))
  rows_more block before j b low within =
      elim (cases_eq j k) [
        | inl e ↦ rw e (ap (λ l. lane_at l b) (get_or_push rows row [] k long) ∙ block.lanes b within)
        | inr other ↦ rw (get_or_append_left rows (row ∷ []) [] j (omega arith)) (before j b (omega arith) within)
      ]

pub length-output_words : (N : NetValue) (words row : List ℕ) → row ≡ output_words N words → length row ≡ length N.outputs
length-output_words N words row is = ap length is ∙ length-map N.outputs (slice_index words)

pub output_block_is : (N : NetValue) (vectors : List (List Bool)) (k : ℕ) (words row : List ℕ) → IsSound N → IsBlock N vectors k words → row ≡ output_words N words
    → IsOutputBlock N vectors k row
output_block_is N vectors k words row sound block is = record {
  width = length-output_words N words row is;
  lanes = λ b low. outputs_lane N N words row b refl is ∙ outputs_from_values N words b (vector_at vectors (64 * k + b)) sound (block.values b low);
}

-- ---- the errors of a wide block

-- the outputs at pattern p of a wide block
abbrev pub lane_of : List (List ℕ) → ℕ → List Bool
lane_of wides p = lane_at (lane_words wides (p / 64)) (p % 64)

pub wide_width : (N : NetValue) (vectors : List (List Bool)) (q : ℕ) (outputs : List (List ℕ)) → AreWideOutputs N vectors q outputs → length outputs ≡ length N.outputs
wide_width N vectors q outputs are = sym (length-map outputs (λ (w : List ℕ). slice_index w 0)) ∙ (are 0 (omega arith)).width

module _ (metric : Metric) (E N : NetValue) (vectors : List (List Bool)) (q : ℕ) (exact outputs : List (List ℕ)) (right : AreWideOutputs E vectors q exact)
    (block : AreWideOutputs N vectors q outputs) where
  pub error_in_block : (p : ℕ) → p < 512 → error_of metric (lane_of exact p) (lane_of outputs p) ≡ net_error metric E N (vector_at vectors (512 * q + p))
  unfolding net_error
  error_in_block p low =
      let lane : p / 64 < 8 = omega (arith, low) in
      let below : p % 64 < 64 = omega arith in
      let at : 64 * (8 * q + p / 64) + p % 64 ≡ 512 * q + p = omega arith in
      (λ i. error_of metric ((right (p / 64) lane).lanes (p % 64) below i) ((block (p / 64) lane).lanes (p % 64) below i))
      ∙ ap (λ (n : ℕ). error_of metric (outputs_of E (vector_at vectors n)) (outputs_of N (vector_at vectors n))) at

  module _ (level left : ℕ) (over : List ℕ) (left_is : left ≡ min (length vectors - 512 * q) 512)
      (bits : (p : ℕ) → p < 512 → IsTrue (row_bit over p) ↔ (level < error_of metric (lane_of exact p) (lane_of outputs p)))
      (before : (k : ℕ) → k < 512 * q → k < length vectors → net_error metric E N (vector_at vectors k) ≤ level) where
    within_block : (k : ℕ) → 512 * q ≤ k → k < 512 * (q + 1) → row_bit over (k - 512 * q) ≡ false → net_error metric E N (vector_at vectors k) ≤ level
    within_block k from low clear =
        let p : ℕ = k - 512 * q in
        let at : 512 * q + p ≡ k = omega (arith, from) in
        let fits : p < 512 = omega (arith, from, low) in
        let here = error_in_block p fits in
        elim (cases_lt level (net_error metric E N (vector_at vectors k))) [
          | inl more ↦
              let set : row_bit over p ≡ true = (bits p fits).1 (omega (arith, here, more, ap (λ (n : ℕ). net_error metric E N (vector_at vectors n)) at)) in
              absurd (let none = clear in cc)
          | inr less ↦ less
        ]

    pub first_in_block : (p : ℕ) → IsFirstSet over left p → IsFirstOver (net_error metric E N) level vectors (512 * q + p)
    first_in_block p first =
        let low : p < 512 = omega (arith, first.within, left_is) in
        record {
          within = omega (arith, first.within, left_is);
          over = (let more = (bits p low).0 first.set in omega (arith, more, error_in_block p low));
          first = λ k less.
              elim (cases_lt k (512 * q)) [
                | inl earlier ↦ before k earlier (omega (arith, less, first.within, left_is))
                | inr later ↦ within_block k later (omega (arith, less, low)) (first.before (k - 512 * q) (omega (arith, less, later)))
              ];
        }

    pub none_in_block : HasNoneSet over left → (k : ℕ) → k < 512 * (q + 1) → k < length vectors → net_error metric E N (vector_at vectors k) ≤ level
    none_in_block none k low inside =
        elim (cases_lt k (512 * q)) [
          | inl earlier ↦ before k earlier inside
          | inr later ↦ within_block k later low (none (k - 512 * q) (omega (arith, low, inside, later, left_is)))
        ]

-- the outputs of a wide block, out of those that are held
pub wide_held : (N M : NetValue) (s t : PatternSet) (q : ℕ) (held outputs : List (List ℕ)) → M ≡ N → s ≡ t → outputs ≡ held → AreWideOutputs M s.vectors q held
    → AreWideOutputs N t.vectors q outputs
wide_held N M s t q held outputs net set is are =
    subst (λ (K : NetValue). AreWideOutputs K t.vectors q outputs) net
    (subst (λ (u : PatternSet). AreWideOutputs M u.vectors q outputs) set (subst (λ (l : List (List ℕ)). AreWideOutputs M s.vectors q l) (sym is) are))

pub wide_rows_more : (N : NetValue) (vectors : List (List Bool)) (rows : List (List (List ℕ))) (q : ℕ) (row : List (List ℕ)) → length rows ≡ q → AreWideOutputs N vectors q row
    → ((k : ℕ) → k < q → AreWideOutputs N vectors k (wides_at rows k)) → (k : ℕ) → k < q + 1 → AreWideOutputs N vectors k (wides_at (rows ++ row ∷ []) k)
wide_rows_more N vectors rows q row long here before k low =
    elim (cases_eq k q) [
      | inl e ↦
          let at : wides_at (rows ++ row ∷ []) k ≡ row = ap (wides_at (rows ++ row ∷ [])) e ∙ get_or_push rows row [] q long in
          subst (λ (l : List (List ℕ)). AreWideOutputs N vectors k l) (sym at) (subst (λ n. AreWideOutputs N vectors n row) (sym e) here)
      | inr other ↦
          let at : wides_at (rows ++ row ∷ []) k ≡ wides_at rows k = get_or_append_left rows (row ∷ []) [] k (omega (arith, low, other, long)) in
          subst (λ (l : List (List ℕ)). AreWideOutputs N vectors k l) (sym at) (before k (omega (arith, low, other)))
    ]

-- ---- the greatest error

pub block_taken : (f : ℕ → ℕ) (from b p at most new_at new_most least here : ℕ) → p ≡ from + b → f (from + b) ≡ here
    → ((g : ℕ → ℕ) → g p ≡ here → IsGreatestSoFar g p at most → IsGreatestSoFar g (p + 1) new_at new_most × (most ≤ new_most))
    → IsGreatestSoFar f (from + b) at most × (least ≤ most) → IsGreatestSoFar f (from + (b + 1)) new_at new_most × (least ≤ new_most)
block_taken f from b p at most new_at new_most least here is value next before =
    let step = next f (ap f is ∙ value) (subst (λ n. IsGreatestSoFar f n at most) (sym is) before.0) in
    let bound : p + 1 ≡ from + (b + 1) = omega (arith, is) in
    (subst (λ n. IsGreatestSoFar f n new_at new_most) bound step.0, omega (arith, step.1, before.1))

pub block_kept : (f : ℕ → ℕ) (from b at most least here : ℕ) → f (from + b) ≡ here → here ≤ least → IsGreatestSoFar f (from + b) at most × (least ≤ most)
    → IsGreatestSoFar f (from + (b + 1)) at most × (least ≤ most)
block_kept f from b at most least here value low before =
    let bound : from + b + 1 ≡ from + (b + 1) = omega arith in
    (subst (λ n. IsGreatestSoFar f n at most) bound (greatest_kept f (from + b) at most here before.0 (sym value) (omega (arith, low, before.1))), before.1)

pub block_skipped : (f : ℕ → ℕ) (from count at most : ℕ) → ((p : ℕ) → p < count → f (from + p) ≤ most) → IsGreatestSoFar f from at most → IsGreatestSoFar f (from + count) at most
block_skipped f from count at most low h = record {
  within = λ some. omega (arith, h.within some);
  attained = h.attained;
  greatest = λ k below.
      elim (cases_lt k from) [
        | inl earlier ↦ h.greatest k earlier
        | inr later ↦
            let place : from + (k - from) ≡ k = omega (arith, later) in
            subst (λ n. f n ≤ most) place (low (k - from) (omega (arith, below, later)))
      ];
  first = h.first;
}

pub block_all : (f : ℕ → ℕ) (q count used at most new_at new_most : ℕ) → 512 * q < count → used ≡ min (count - 512 * q) 512
    → (IsGreatestSoFar f (512 * q) at most → IsGreatestSoFar f (512 * q + used) new_at new_most)
    → IsGreatestSoFar f (min (512 * q) count) at most → IsGreatestSoFar f (min (512 * (q + 1)) count) new_at new_most
block_all f q count used at most new_at new_most within is step before =
    let start : min (512 * q) count ≡ 512 * q = omega (arith, within) in
    let end : 512 * q + used ≡ min (512 * (q + 1)) count = omega (arith, within, is) in
    subst (λ n. IsGreatestSoFar f n new_at new_most) end (step (subst (λ n. IsGreatestSoFar f n at most) start before))

-- a pattern that is not over the level
pub not_over : (row : List ℕ) (p level e here : ℕ) → e ≡ here → (IsTrue (row_bit row p) ↔ (level < e)) → row_bit row p ≡ false → here ≤ level
not_over row p level e here same bits clear =
    elim (cases_lt level e) [
      | inl more ↦ absurd (let set : row_bit row p ≡ true = bits.1 more in cc)
      | inr less ↦ omega (arith, same, less)
    ]
