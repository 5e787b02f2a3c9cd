-- The rows of the patterns at which the bound is exceeded, bit by bit.
use Rattle.std.proofs.Common.{◌≡◌, ◌↔◌, ℕ, ◌+◌, ◌*◌, ◌<◌, ◌≤◌, Bool, ltb, List, [], ◌∷◌, ◌++◌, map, length, get_or, set, take, IsTrue, refl, ap, sym, subst, ◌∙◌, inl, inr, arith, get_or-set_same}
use Rattle.std.proofs.Common.{get_or-set_other}
use Rattle.std.specs.Prelude.{bit_and}
use Rattle.std.proofs.lemmas.Bool.{cases_eq, and_parts, and_from, lt-ltb, ltb-true}
use Rattle.std.proofs.Math.Seq.{take-append_seam}
use Rattle.std.proofs.lemmas.List.{get_or_push, get_or_append_left}
use Rattle.semantics.specs.Net.{NetValue, input_count, HasSamePorts, IsSound}
use Rattle.semantics.specs.Value.{outputs_of}
use Rattle.semantics.specs.Error.{error_of, net_error}
use Rattle.semantics.specs.declared.metric.Metric.{Metric}
use Rattle.chain_semantics.specs.Flips.{flipped_values, flipped_outputs}
use Rattle.chain_semantics.specs.Care.{IsCaredFor, Exceeds}
use Rattle.chain_semantics.proofs.MovedFlips.{map-same}
use Rattle.lane_bits.specs.Rows.{word_count}
use Rattle.lane_bits.proofs.Bits.{and_bit}
use Rattle.lane_nets.specs.Words.{word_bit, values_at, HasValues}
use Rattle.lane_nets.specs.Blocks.{vector_at, row_at, IsRowWhere, IsBlock, AreBlocksOf, IsWordWhere}
use Rattle.lane_nets.specs.Lanes.{lane_at, output_words, AreOutputWordsOf}
use Rattle.lane_nets.proofs.RowBits.{outputs_from_values, row_where}
use Rattle.lane_nets.proofs.BlockErrors.{outputs_lane}
use Rattle.lane_nets.proofs.FirstOver.{same_outputs}
use Rattle.care_masks.specs.Filled.{FitsOutputs}
use Rattle.care_masks.specs.Flips.{HasFlippedValues}

-- the exact outputs of nets with the same ports
pub outputs_fit : (E N : NetValue) (vectors : List (List Bool)) (count : ℕ) (outputs : List (List ℕ)) → HasSamePorts E N → count ≡ length vectors
    → AreOutputWordsOf E vectors outputs → FitsOutputs N count outputs
outputs_fit E N vectors count outputs ports is are = record {
  blocks = are.count ∙ (λ j. word_count (sym is j));
  widths = λ k low. are.widths k low ∙ sym (same_outputs E N ports);
}

-- ---- one word

-- the bits of the words of a block where the error exceeds the level at a pattern
abbrev pub TellsOver : Metric → NetValue → ℕ → ℕ → List (List ℕ) → ℕ → List ℕ → ℕ → Type 0
TellsOver metric N level count outputs k words word =
    (b : ℕ) → b < 64 → IsTrue (word_bit word b) ↔ ((64 * k + b < count) × (level < error_of metric (lane_at (row_at outputs k) b) (map (values_at words b) N.outputs)))

-- where the error exceeds the level at the patterns that are used
abbrev pub TellsOverUsed : Metric → NetValue → ℕ → List ℕ → List ℕ → ℕ → ℕ → Type 0
TellsOverUsed metric N level words exact used word =
    (b : ℕ) → b < 64 → IsTrue (word_bit word b) ↔ (IsTrue (word_bit used b) × (level < error_of metric (lane_at exact b) (map (values_at words b) N.outputs)))

pub over_of_used : (metric : Metric) (N : NetValue) (level : ℕ) (words exact approx : List ℕ) (over used : ℕ) → approx ≡ output_words N words
    → ((b : ℕ) → b < 64 → IsTrue (word_bit over b) ↔ (level < error_of metric (lane_at exact b) (lane_at approx b)))
    → TellsOverUsed metric N level words exact used (bit_and over used)
over_of_used metric N level words exact approx over used approx_is bits b low =
    let same : error_of metric (lane_at exact b) (lane_at approx b) ≡ error_of metric (lane_at exact b) (map (values_at words b) N.outputs) =
    ap (error_of metric (lane_at exact b)) (outputs_lane N N words approx b refl approx_is) in
    let iff = bits b low in (
      λ set.
          let parts = and_parts (word_bit over b) (word_bit used b) (sym (and_bit over used b) ∙ set) in
          (parts.1, omega (arith, same, iff.0 parts.0)),
      λ h. and_bit over used b ∙ and_from (word_bit over b) (word_bit used b) (iff.1 (omega (arith, same, h.1))) h.0,
    )

-- of a set of patterns, the used ones are the first `count`
pub tells_over : (metric : Metric) (N : NetValue) (level count k : ℕ) (outputs : List (List ℕ)) (words exact : List ℕ) (word used : ℕ) → exact ≡ row_at outputs k
    → TellsOverUsed metric N level words exact used word → ((b : ℕ) → b < 64 → word_bit used b ≡ ltb (64 * k + b) count) → TellsOver metric N level count outputs k words word
tells_over metric N level count k outputs words exact word used exact_is bits use_is b low =
    let same : error_of metric (lane_at exact b) (map (values_at words b) N.outputs) ≡ error_of metric (lane_at (row_at outputs k) b) (map (values_at words b) N.outputs) =
    ap (λ l. error_of metric (lane_at l b) (map (values_at words b) N.outputs)) exact_is in
    let iff = bits b low in (
      λ set.
          let parts = iff.0 set in
          (omega (arith, ltb-true (64 * k + b) count (sym (use_is b low) ∙ parts.0)), omega (arith, same, parts.1)),
      λ h. iff.1 (use_is b low ∙ lt-ltb (64 * k + b) count h.0, (let more = h.1 in omega (arith, same, more))),
    )

pub outputs_from_flipped : (N : NetValue) (t : ℕ) (words : List ℕ) (b : ℕ) (x : List Bool) → IsSound N → HasFlippedValues N t words b x → map (values_at words b) N.outputs ≡ flipped_outputs N x t
unfolding flipped_outputs
outputs_from_flipped N t words b x sound values =
    map-same (values_at words b) (flipped_values (input_count N) N.tables x t) N.outputs (λ k d low. values _ (sound.outputs_are_signals k d low))

-- the bits of the same word, where P is told by the errors of these outputs
word_where : (metric : Metric) (E N : NetValue) (level count k : ℕ) (vectors : List (List Bool)) (outputs : List (List ℕ)) (words : List ℕ) (word : ℕ) (P : List Bool → Type 0)
    → length vectors ≡ count → AreOutputWordsOf E vectors outputs → k < length outputs → TellsOver metric N level count outputs k words word
    → ((b : ℕ) → b < 64 → (level < error_of metric (outputs_of E (vector_at vectors (64 * k + b))) (map (values_at words b) N.outputs)) ↔ P (vector_at vectors (64 * k + b)))
    → IsWordWhere vectors P k word
word_where metric E N level count k vectors outputs words word P long are inside bits tells b low =
    let right : lane_at (row_at outputs k) b ≡ outputs_of E (vector_at vectors (64 * k + b)) = are.are k b inside low in
    let same : error_of metric (lane_at (row_at outputs k) b) (map (values_at words b) N.outputs)
    ≡ error_of metric (outputs_of E (vector_at vectors (64 * k + b))) (map (values_at words b) N.outputs) = (λ j. error_of metric (right j) (map (values_at words b) N.outputs)) in (
      λ set. (let h = (bits b low).0 set in (omega (arith, h.0, long), (tells b low).0 (omega (arith, same, h.1)))),
      λ h. (bits b low).1 (omega (arith, h.0, long), (let more = (tells b low).1 h.1 in omega (arith, same, more))),
    )

pub cared_at : (metric : Metric) (E N : NetValue) (bound t b : ℕ) (x : List Bool) (words : List ℕ) → IsSound N → HasFlippedValues N t words b x
    → (bound < error_of metric (outputs_of E x) (map (values_at words b) N.outputs)) ↔ IsCaredFor metric E bound N t x
cared_at metric E N bound t b x words sound values =
    let left : map (values_at words b) N.outputs ≡ flipped_outputs N x t = outputs_from_flipped N t words b x sound values in
    let same : error_of metric (outputs_of E x) (map (values_at words b) N.outputs) ≡ error_of metric (outputs_of E x) (flipped_outputs N x t) =
    (λ j. error_of metric (outputs_of E x) (left j)) in
    (λ h. omega (arith, same, h), λ h. omega (arith, same, h))

pub exceeds_at : (metric : Metric) (E N : NetValue) (bound b : ℕ) (x : List Bool) (words : List ℕ) → IsSound N → HasValues N words b x
    → (bound < error_of metric (outputs_of E x) (map (values_at words b) N.outputs)) ↔ Exceeds metric E bound N x
unfolding net_error
exceeds_at metric E N bound b x words sound values =
    let left : map (values_at words b) N.outputs ≡ outputs_of N x = outputs_from_values N words b x sound values in
    let same : error_of metric (outputs_of E x) (map (values_at words b) N.outputs) ≡ error_of metric (outputs_of E x) (outputs_of N x) =
    (λ j. error_of metric (outputs_of E x) (left j)) in
    (λ h. omega (arith, same, h), λ h. omega (arith, same, h))

-- ---- a row that is found word by word

-- the first k words of the row tell where P holds, whatever the patterns and the exact net are
abbrev pub HoldWordsWhere : NetValue → ℕ → List (List ℕ) → List (List ℕ) → (NetValue → List Bool → Type 0) → List ℕ → ℕ → Type 0
HoldWordsWhere N count outputs blocks P row k =
    (exact : NetValue) (vectors : List (List Bool)) → length vectors ≡ count → AreOutputWordsOf exact vectors outputs → AreBlocksOf N vectors blocks
    → (j : ℕ) → j < k → IsWordWhere vectors (P exact) j (get_or row j 0)

word_set : (vectors : List (List Bool)) (P : List Bool → Type 0) (row : List ℕ) (k word : ℕ) → k < length row → IsWordWhere vectors P k word
    → ((j : ℕ) → j < k → IsWordWhere vectors P j (get_or row j 0)) → (j : ℕ) → j < k + 1 → IsWordWhere vectors P j (get_or (set row k word) j 0)
word_set vectors P row k word room here before j low =
    elim (cases_eq j k) [
      | inl e ↦ rw (e, get_or-set_same row k word 0 room) here
      | inr other ↦ rw (get_or-set_other row k j word 0 other) (before j (omega arith))
    ]

module _ (metric : Metric) (N : NetValue) (bound count : ℕ) (outputs blocks : List (List ℕ)) (sound : IsSound N) (same : length blocks ≡ length outputs) where
  -- one more word of the patterns that are cared for at table t
  pub cared_more : (t : ℕ) (row old words : List ℕ) (k word : ℕ) → k < length blocks → k < length row → old ≡ row_at blocks k
      → ((b : ℕ) (x : List Bool) → b < 64 → HasValues N old b x → HasFlippedValues N t words b x) → TellsOver metric N bound count outputs k words word
      → HoldWordsWhere N count outputs blocks (λ exact. IsCaredFor metric exact bound N t) row k
      → HoldWordsWhere N count outputs blocks (λ exact. IsCaredFor metric exact bound N t) (set row k word) (k + 1)
  cared_more t row old words k word low room old_is flipped bits before exact vectors long outputs_are blocks_are =
      let block : IsBlock N vectors k old = subst (IsBlock N vectors k) (sym old_is) (blocks_are.each k low) in
      word_set vectors (IsCaredFor metric exact bound N t) row k word room
      (word_where metric exact N bound count k vectors outputs words word (IsCaredFor metric exact bound N t) long outputs_are (omega (arith, low, same)) bits
      (λ b within.
      cared_at metric exact N bound t b (vector_at vectors (64 * k + b)) words sound (flipped b (vector_at vectors (64 * k + b)) within (block.values b within))))
      (before exact vectors long outputs_are blocks_are)

  -- one more word of the patterns at which the net itself exceeds the bound
  pub exceeding_more : (row words : List ℕ) (k word : ℕ) → k < length blocks → k < length row → words ≡ row_at blocks k → TellsOver metric N bound count outputs k words word
      → HoldWordsWhere N count outputs blocks (λ exact. Exceeds metric exact bound N) row k
      → HoldWordsWhere N count outputs blocks (λ exact. Exceeds metric exact bound N) (set row k word) (k + 1)
  exceeding_more row words k word low room words_are bits before exact vectors long outputs_are blocks_are =
      let block : IsBlock N vectors k words = subst (IsBlock N vectors k) (sym words_are) (blocks_are.each k low) in
      word_set vectors (Exceeds metric exact bound N) row k word room
      (word_where metric exact N bound count k vectors outputs words word (Exceeds metric exact bound N) long outputs_are (omega (arith, low, same)) bits
      (λ b within. exceeds_at metric exact N bound b (vector_at vectors (64 * k + b)) words sound (block.values b within)))
      (before exact vectors long outputs_are blocks_are)

-- all words
pub row_all : (N : NetValue) (count : ℕ) (outputs blocks : List (List ℕ)) (P : NetValue → List Bool → Type 0) (row : List ℕ) (k : ℕ) → length row ≡ length blocks → length blocks ≤ k
    → HoldWordsWhere N count outputs blocks P row k
    → (exact : NetValue) (vectors : List (List Bool)) → length vectors ≡ count → AreOutputWordsOf exact vectors outputs → AreBlocksOf N vectors blocks → IsRowWhere vectors (P exact) row
row_all N count outputs blocks P row k room past each exact vectors long outputs_are blocks_are =
    row_where vectors (P exact) row (room ∙ blocks_are.count) (λ j low. each exact vectors long outputs_are blocks_are j (omega (arith, room, past, low)))

-- a row that was written to its end
pub row_written : (P : List ℕ → Type 0) (made new rest : List ℕ) (len : ℕ) → made ≡ take len (new ++ rest) → len ≡ length new → P new → P made
row_written P made new rest len made_is whole here = subst P (sym (made_is ∙ ap (λ n. take n (new ++ rest)) whole ∙ take-append_seam new rest)) here

-- one more row
pub rows_more : (Q : ℕ → List ℕ → Type 0) (rows : List (List ℕ)) (k : ℕ) (new : List ℕ) → length rows ≡ k → Q k new → ((t : ℕ) → t < k → Q t (row_at rows t))
    → (t : ℕ) → t < k + 1 → Q t (row_at (rows ++ new ∷ []) t)
rows_more Q rows k new long here before t low =
    elim (cases_eq t k) [
      | inl e ↦ rw (e, get_or_push rows new [] k long) here
      | inr other ↦ rw (get_or_append_left rows (new ∷ []) [] t (omega arith)) (before t (omega arith))
    ]
