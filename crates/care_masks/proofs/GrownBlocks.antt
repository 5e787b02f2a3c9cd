-- Blocks of patterns that are made one after another, and the words of what is cared for, as far as they are asked for.
use Rattle.std.proofs.Common.{◌≡◌, ◌↔◌, ℕ, ◌+◌, ◌*◌, ◌/◌, ◌^◌, ◌<◌, ◌≤◌, Bool, true, false, zero, suc, ltb, List, [], ◌∷◌, ◌++◌, map, length, get_or, set, take, IsTrue, refl, ap, sym, subst, ◌∙◌}
use Rattle.std.proofs.Common.{inl, inr, arith, get_or-set_same, get_or-set_other}
use Rattle.std.specs.List.{AllByRecursion}
use Rattle.std.proofs.lemmas.Bool.{cases_eq, lt-ltb, ltb-true}
use Rattle.std.proofs.lemmas.List.{get_or_push, get_or_append_left, length_push, get_or-take, length-take, length-map, length-set, get_or-map}
use Rattle.semantics.specs.Net.{NetValue, input_count, table_count, IsSound}
use Rattle.semantics.specs.Value.{outputs_of}
use Rattle.semantics.specs.Error.{error_of}
use Rattle.semantics.specs.declared.metric.Metric.{Metric}
use Rattle.chain_semantics.specs.declared.moves.Move.{Move}
use Rattle.chain_semantics.specs.Moves.{table_of}
use Rattle.chain_semantics.specs.Care.{IsCaredFor, Exceeds, Changes, IsBrokenAt}
use Rattle.chain_semantics.specs.MoveLaws.{IsMoveOf}
use Rattle.chain_semantics.proofs.MovedFlips.{move-broken}
use Rattle.lane_bits.specs.Rows.{word_count}
use Rattle.lane_nets.specs.Words.{word_bit, values_at, HasValues}
use Rattle.lane_nets.specs.Blocks.{vector_at, row_at, IsBlock, AreBlocksOf, IsWordWhere}
use Rattle.lane_nets.specs.Lanes.{lane_at, IsOutputBlock}
use Rattle.lane_nets.proofs.WordBits.{zero_bit}
use Rattle.care_masks.specs.Flips.{HasFlippedValues}
use Rattle.care_masks.specs.Overlaps.{AreOverlapsOf}
use Rattle.care_masks.specs.Growing.{GrowingValue, IsFrontOf, IsBlockOf, AreBlocksFor, AreCareWords, FitsRoom, AreGrowing, vectors_in_blocks}
use Rattle.care_masks.specs.declared.judged_nets.Judged.{Judged}
use Rattle.care_masks.specs.declared.growing_blocks.Block.{Block}
use Rattle.care_masks.specs.declared.growing_blocks.Room.{Room}
use Rattle.care_masks.proofs.Breaking.{TellsBroken}
use Rattle.care_masks.proofs.CareBits.{TellsOverUsed, cared_at, exceeds_at}
use Rattle.care_masks.proofs.Filling.{vectors-back}

-- ---- one word

module _ (metric : Metric) (E N : NetValue) (bound k count : ℕ) (vectors : List (List Bool)) (words outputs : List ℕ) (word used : ℕ) (long : length vectors ≡ count)
    (outputs_are : IsOutputBlock E vectors k outputs) (use_is : (b : ℕ) → b < 64 → word_bit used b ≡ ltb (64 * k + b) count)
    (bits : TellsOverUsed metric N bound words outputs used word) where
  word_told : (P : List Bool → Type 0)
      → ((b : ℕ) → b < 64 → (bound < error_of metric (outputs_of E (vector_at vectors (64 * k + b))) (map (values_at words b) N.outputs)) ↔ P (vector_at vectors (64 * k + b)))
      → IsWordWhere vectors P k word
  word_told P tells b low =
      let same : error_of metric (lane_at outputs b) (map (values_at words b) N.outputs)
      ≡ error_of metric (outputs_of E (vector_at vectors (64 * k + b))) (map (values_at words b) N.outputs) =
      ap (λ l. error_of metric l (map (values_at words b) N.outputs)) (outputs_are.lanes b low) in (
        λ set.
            let h = (bits b low).0 set in
            (omega (arith, ltb-true (64 * k + b) count (sym (use_is b low) ∙ h.0), long), (tells b low).0 (omega (arith, same, h.1))),
        λ h. (bits b low).1 (use_is b low ∙ lt-ltb (64 * k + b) count (omega (arith, h.0, long)), (let more = (tells b low).1 h.1 in omega (arith, same, more))),
      )

  pub exceeding_told : IsSound N → IsBlock N vectors k words → IsWordWhere vectors (Exceeds metric E bound N) k word
  exceeding_told sound block =
      word_told (Exceeds metric E bound N) (λ b low. exceeds_at metric E N bound b (vector_at vectors (64 * k + b)) words sound (block.values b low))

  pub cared_told : (t : ℕ) (old : List ℕ) → IsSound N → IsBlock N vectors k old
      → ((b : ℕ) (x : List Bool) → b < 64 → HasValues N old b x → HasFlippedValues N t words b x) → IsWordWhere vectors (IsCaredFor metric E bound N t) k word
  cared_told t old sound block flipped =
      word_told (IsCaredFor metric E bound N t)
      (λ b low.
      cared_at metric E N bound t b (vector_at vectors (64 * k + b)) words sound (flipped b (vector_at vectors (64 * k + b)) low (block.values b low)))

-- ---- where a move breaks the bound in a block

module _ (metric : Metric) (E N : NetValue) (bound : ℕ) (m : Move) (sound : IsSound N) (is : IsMoveOf N m) (vectors : List (List Bool)) (k : ℕ) (words : List ℕ) (exceeds : ℕ)
    (block : IsBlock N vectors k words) (exceeded : IsWordWhere vectors (Exceeds metric E bound N) k exceeds) where
  pub broken_told : (care word : ℕ) → IsWordWhere vectors (IsCaredFor metric E bound N (table_of m)) k care
      → ((b : ℕ) (x : List Bool) → b < 64 → HasValues N words b x → TellsBroken N m x (word_bit care b) (word_bit exceeds b) (word_bit word b))
      → (b : ℕ) → b < 64 → (word_bit word b ≡ true) ↔ ((64 * k + b < length vectors) × IsBrokenAt metric E bound N m (vector_at vectors (64 * k + b)))
  broken_told care word cared tells b low =
      let x : List Bool = vector_at vectors (64 * k + b) in
      let iff = tells b x low (block.values b low) in
      let law = move-broken N m x sound is metric E bound in (
        λ set. elim (iff.0 set) [
          | inl changed ↦ (let h = (cared b low).0 changed.1 in (h.0, law.1 (inl (changed.0, h.1))))
          | inr left ↦ (let h = (exceeded b low).0 left.1 in (h.0, law.1 (inr (left.0, h.1))))
        ],
        λ h. elim (law.0 h.1) [
          | inl changed ↦ iff.1 (inl (changed.0, (cared b low).1 (h.0, changed.1)))
          | inr left ↦ iff.1 (inr (left.0, (exceeded b low).1 (h.0, left.1)))
        ],
      )

  -- a move that changes nothing in the block
  pub left_told : (differs : ℕ) → differs ≡ 0 → ((b : ℕ) (x : List Bool) → b < 64 → HasValues N words b x → IsTrue (word_bit differs b) ↔ Changes N m x)
      → (b : ℕ) → b < 64 → (word_bit exceeds b ≡ true) ↔ ((64 * k + b < length vectors) × IsBrokenAt metric E bound N m (vector_at vectors (64 * k + b)))
  left_told differs none tells b low =
      let x : List Bool = vector_at vectors (64 * k + b) in
      let law = move-broken N m x sound is metric E bound in
      let clear : word_bit differs b ≡ false = ap (λ w. word_bit w b) none ∙ zero_bit b in
      let same : ¬ Changes N m x = λ changes. (let set : word_bit differs b ≡ true = (tells b x low (block.values b low)).1 changes in cc) in (
        λ set. (let h = (exceeded b low).0 set in (h.0, law.1 (inr (same, h.1)))),
        λ h. elim (law.0 h.1) [
          | inl changed ↦ absurd (same changed.0)
          | inr left ↦ (exceeded b low).1 (h.0, left.1)
        ],
      )

-- where the rows overlap, read from a block
pub overlaps_read : (N : NetValue) (held words held_overlaps overlaps : List ℕ) → words ≡ held → overlaps ≡ held_overlaps → AreOverlapsOf N held held_overlaps → AreOverlapsOf N words overlaps
overlaps_read N held words held_overlaps overlaps words_are overlaps_are h =
    subst (λ w. AreOverlapsOf N w overlaps) (sym words_are) (subst (AreOverlapsOf N held) (sym overlaps_are) h)

-- ---- one more block, and one more word

pub blocks_more : (j : Judged) (vectors : List (List Bool)) (blocks : List Block) (k : ℕ) (new : Block) → length blocks ≡ k → IsBlockOf j vectors k new → AreBlocksFor j vectors blocks
    → AreBlocksFor j vectors (blocks ++ new ∷ [])
blocks_more j vectors blocks k new long here before i d low =
    elim (cases_eq i k) [
      | inl e ↦ rw (e, get_or_push blocks new d k long) here
      | inr other ↦
          let within : i < length blocks = omega (arith, length_push blocks new, low, long) in
          rw (get_or_append_left blocks (new ∷ []) d i within) (before i d within)
    ]

pub care_more : (j : Judged) (vectors : List (List Bool)) (t : ℕ) (row : List ℕ) (k word : ℕ) → length row ≡ k
    → IsWordWhere vectors (IsCaredFor j.metric j.nets.exact j.bound j.nets.approx t) k word → AreCareWords j vectors t row → AreCareWords j vectors t (row ++ word ∷ [])
care_more j vectors t row k word long here before i low =
    elim (cases_eq i k) [
      | inl e ↦ rw (e, get_or_push row word 0 k long) here
      | inr other ↦
          let within : i < length row = omega (arith, length_push row word, low, long) in
          rw (get_or_append_left row (word ∷ []) 0 i within) (before i within)
    ]

-- ---- longer lists of patterns

-- the patterns of block k stand in both lists
pub record AgreeAt (old new : List (List Bool)) (k : ℕ) : Type 0 where
  pub in_old : 64 * k + 64 ≤ length old
  pub in_new : 64 * k + 64 ≤ length new
  pub same : (b : ℕ) → b < 64 → vector_at new (64 * k + b) ≡ vector_at old (64 * k + b)

word_kept : (old new : List (List Bool)) (P : List Bool → Type 0) (k word : ℕ) → AgreeAt old new k → IsWordWhere old P k word → IsWordWhere new P k word
word_kept old new P k word agree h b low = (
  λ set. (let was = (h b low).0 set in (omega (arith, agree.in_new), subst P (sym (agree.same b low)) was.1)),
  λ is. (h b low).1 (omega (arith, agree.in_old), subst P (agree.same b low) is.1),
)

block_kept : (j : Judged) (old new : List (List Bool)) (k : ℕ) (block : Block) → AgreeAt old new k → IsBlockOf j old k block → IsBlockOf j new k block
block_kept j old new k block agree h = record {
  values = record {
    width = h.values.width;
    values = λ b low. subst (HasValues j.nets.approx block.words b) (sym (agree.same b low)) (h.values.values b low);
  };
  outputs = record {
    width = h.outputs.width;
    lanes = λ b low. h.outputs.lanes b low ∙ ap (outputs_of j.nets.exact) (sym (agree.same b low));
  };
  exceeds = word_kept old new (Exceeds j.metric j.nets.exact j.bound j.nets.approx) k block.exceeds agree h.exceeds;
  overlaps = h.overlaps;
}

front_agrees : (old new : List (List Bool)) (k : ℕ) → IsFrontOf old new → 64 * k + 64 ≤ length old → AgreeAt old new k
front_agrees old new k front within = record {
  in_old = within;
  in_new = omega (arith, front.shorter);
  same = λ b low. front.same (64 * k + b) (omega arith);
}

-- the blocks that the old patterns fill
pub blocks_kept : (j : Judged) (old new : List (List Bool)) (blocks : List Block) (full : ℕ) → IsFrontOf old new → full ≡ length old / 64 → AreBlocksFor j old blocks
    → AreBlocksFor j new (take full blocks)
blocks_kept j old new blocks full front is h k d low =
    let below : k < full = omega (arith, length-take full blocks, low) in
    let within : k < length blocks = omega (arith, length-take full blocks, low) in
    rw (get_or-take full blocks k d below) (block_kept j old new k (get_or blocks k d) (front_agrees old new k front (omega arith)) (h k d within))

pub care_kept : (j : Judged) (old new : List (List Bool)) (t : ℕ) (row : List ℕ) (full : ℕ) → IsFrontOf old new → full ≡ length old / 64 → AreCareWords j old t row
    → AreCareWords j new t (take full row)
care_kept j old new t row full front is h k low =
    let below : k < full = omega (arith, length-take full row, low) in
    let within : k < length row = omega (arith, length-take full row, low) in
    rw (get_or-take full row k 0 below)
    (word_kept old new (IsCaredFor j.metric j.nets.exact j.bound j.nets.approx t) k (get_or row k 0) (front_agrees old new k front (omega arith)) (h k within))

-- ---- the vectors, read back

no_block : Block
no_block = record { words = []; outputs = []; exceeds = 0; overlaps = [] }

pub blocks_of_words : (j : Judged) (vectors : List (List Bool)) (blocks : List Block) → length blocks ≡ word_count (length vectors) → AreBlocksFor j vectors blocks
    → AreBlocksOf j.nets.approx vectors (map (λ (b : Block). b.words) blocks)
blocks_of_words j vectors blocks count h = record {
  count = length-map blocks (λ (b : Block). b.words) ∙ count;
  each = λ k low.
      let within : k < length blocks = omega (arith, length-map blocks (λ (b : Block). b.words), low) in
      subst (IsBlock j.nets.approx vectors k) (sym (get_or-map (λ (b : Block). b.words) blocks k no_block [] within)) (h k no_block within).values;
}

pub vectors_are_back : (j : Judged) (vectors : List (List Bool)) (count : ℕ) (blocks : List Block) → IsSound j.nets.approx → count ≡ length vectors → length blocks ≡ word_count count
    → AreBlocksFor j vectors blocks → AllByRecursion (λ x. length x ≡ input_count j.nets.approx) vectors → vectors_in_blocks (input_count j.nets.approx) count blocks ≡ vectors
vectors_are_back j vectors count blocks sound is fit h widths =
    ap (λ k. vectors_in_blocks (input_count j.nets.approx) k blocks) is
    ∙ vectors-back j.nets.approx vectors (map (λ (b : Block). b.words) blocks) sound.acyclic (blocks_of_words j vectors blocks (fit ∙ ap word_count is) h) widths

-- ---- the fields

-- one more row is asked for
pub growing_set : (j : Judged) (count : ℕ) (held : List Block) (rows : List (List ℕ)) (old new : Room) (t : ℕ) (row : List ℕ) → AreGrowing j count held rows old
    → t < table_count j.nets.approx → length row ≤ length held → AreCareWords j (vectors_in_blocks (input_count j.nets.approx) count held) t row → FitsRoom j new
    → AreGrowing j count held (set rows t row) new
growing_set j count held rows old new t row h within short cared room = record {
  fit = h.fit;
  blocks = h.blocks;
  tables = length-set rows t row ∙ h.tables;
  few = λ i low.
      elim (cases_eq i t) [
        | inl e ↦ rw (e, get_or-set_same rows t row [] (omega (arith, within, h.tables))) short
        | inr other ↦ rw (get_or-set_other rows t i row [] other) (h.few i low)
      ];
  care = λ i low.
      elim (cases_eq i t) [
        | inl e ↦
            subst (λ n. AreCareWords j (vectors_in_blocks (input_count j.nets.approx) count held) n (row_at (set rows t row) n)) (sym e)
            (subst (AreCareWords j (vectors_in_blocks (input_count j.nets.approx) count held) t) (sym (get_or-set_same rows t row [] (omega (arith, within, h.tables)))) cared)
        | inr other ↦ subst (AreCareWords j (vectors_in_blocks (input_count j.nets.approx) count held) i) (sym (get_or-set_other rows t i row [] other)) (h.care i low)
      ];
  room = room;
}

-- longer patterns
pub growing_grown : (j : Judged) (count full : ℕ) (old new : List (List Bool)) (held : List Block) (rows : List (List ℕ)) (spare : Room) → IsSound j.nets.approx → count ≡ length new → count < 2 ^ 64
    → length held ≡ word_count (length new) → AreBlocksFor j new held → AllByRecursion (λ x. length x ≡ input_count j.nets.approx) new → IsFrontOf old new → full ≡ length old / 64
    → length rows ≡ table_count j.nets.approx → ((t : ℕ) → t < table_count j.nets.approx → AreCareWords j old t (row_at rows t)) → FitsRoom j spare
    → AreGrowing j count held (map (take full) rows) spare
growing_grown j count full old new held rows spare sound is few fit known widths front full_is tables cared room =
    let as_many : length held ≡ word_count count = fit ∙ ap word_count (sym is) in
    let back : vectors_in_blocks (input_count j.nets.approx) count held ≡ new = vectors_are_back j new count held sound is as_many known widths in
    let row : (t : ℕ) → t < table_count j.nets.approx → row_at (map (take full) rows) t ≡ take full (row_at rows t) =
    λ t low. get_or-map (take full) rows t [] [] (omega (arith, low, tables)) in
    record {
      fit = record {
        few = few;
        as_many = as_many;
        words = λ k d low. (known k d low).values.width;
        outputs = λ k d low. (known k d low).outputs.width;
        overlaps = λ k d low. (known k d low).overlaps.as_many;
      };
      blocks = subst (λ vs. AreBlocksFor j vs held) (sym back) known;
      tables = length-map rows (take full) ∙ tables;
      few = λ t low. omega (arith, ap length (row t low), length-take full (row_at rows t), full_is, front.shorter, fit);
      care = λ t low.
          subst (λ vs. AreCareWords j vs t (row_at (map (take full) rows) t)) (sym back)
          (subst (AreCareWords j new t) (sym (row t low)) (care_kept j old new t (row_at rows t) full front full_is (cared t low)));
      room = room;
    }

no_words : (rows : List (List ℕ)) (t : ℕ) → length (row_at (map (take 0) rows) t) ≡ 0
no_words [] t = refl
no_words (row ∷ rows) zero = refl
no_words (row ∷ rows) (suc t) = no_words rows t

-- no pattern
pub growing_none : (j : Judged) (held : List Block) (rows : List (List ℕ)) (spare : Room) → held ≡ [] → length rows ≡ table_count j.nets.approx → FitsRoom j spare
    → AreGrowing j 0 held (map (take 0) rows) spare
growing_none j held rows spare none tables room =
    let empty : length held ≡ 0 = ap length none in
    record {
      fit = record {
        few = omega arith;
        as_many = empty;
        words = λ k d low. absurd (omega (arith, low, empty));
        outputs = λ k d low. absurd (omega (arith, low, empty));
        overlaps = λ k d low. absurd (omega (arith, low, empty));
      };
      blocks = λ k d low. absurd (omega (arith, low, empty));
      tables = length-map rows (take 0) ∙ tables;
      few = λ t low. omega (arith, no_words rows t);
      care = λ t low k inside. absurd (omega (arith, inside, no_words rows t));
      room = room;
    }

pub grown_view : (old : GrowingValue) (j : Judged) (before vectors new : List (List Bool))
    → record { exact = j.nets.exact; net = j.nets.approx; metric = j.metric; bound = j.bound; vectors = before } ≡ old → vectors ≡ new
    → record { exact = j.nets.exact; net = j.nets.approx; metric = j.metric; bound = j.bound; vectors = vectors } ≡ record old { vectors = new }
grown_view old j before vectors new is back =
    λ i. record { exact = (is i).exact; net = (is i).net; metric = (is i).metric; bound = (is i).bound; vectors = back i }
