-- Sets of vectors in rows of bits.
use Rattle.std.proofs.Common.{◌≡◌, ◌≢◌, ◌⊎◌, ℕ, ◌+◌, ◌/◌, ◌<◌, ◌≤◌, Bool, true, false, ◌&&◌, ◌||◌, List, [], ◌∷◌, ◌++◌, length, get_or, take, drop, All, replicate, refl, ap, sym, subst, ◌∙◌, inl}
use Rattle.std.proofs.Common.{inr, arith}
use Rattle.std.proofs.lemmas.Bool.{cases_lt, eq-eqb, ne_eqb}
use Rattle.std.proofs.lemmas.List.{ext_get_or, get_or-map, get_or_past, get_or-replicate, length-map, length-replicate, length-take-le, take_at}
use Rattle.std.proofs.lemmas.List.Elements.{All-from_get_or, recursion_from_All}
use Rattle.std.proofs.lemmas.List.FromFn.{length-map-range_with_len, get_or-map-range_with_len, map-range_with_len_more}
use Rattle.lane_bits.specs.Rows.{row_bit, word_count}
use Rattle.lane_bits.specs.Patterns.{PatternSet, IsPatternSet, pattern_bit, IsRowOf, vector_at, vectors_in}
use Rattle.lane_bits.specs.Store.{IsRowFor, AreRowsOf, IsGrownFrom, row_at, AreReadied, AreSetAt}
use Rattle.lane_bits.proofs.Bits.{row_bit-nil, row_bit-take}

-- ---- vectors by their places

pub length-vectors_in : (rows : List (List ℕ)) (count : ℕ) → length (vectors_in rows count) ≡ count
length-vectors_in rows count = length-map-range_with_len (vector_at rows) 0 count

pub vector-at : (rows : List (List ℕ)) (count p : ℕ) → p < count → get_or (vectors_in rows count) p [] ≡ vector_at rows p
vector-at rows count p low = get_or-map-range_with_len (vector_at rows) 0 count p p [] low (omega arith)

pub bit-at : (rows : List (List ℕ)) (i p : ℕ) → i < length rows → get_or (vector_at rows p) i false ≡ row_bit (row_at rows i) p
bit-at rows i p low = get_or-map (λ row. row_bit row p) rows i [] false low

pub length-vector_at : (rows : List (List ℕ)) (p : ℕ) → length (vector_at rows p) ≡ length rows
length-vector_at rows p = length-map rows (λ row. row_bit row p)

-- rows with the same bits at a place hold the same vector there
same_vector : (old new : List (List ℕ)) (p : ℕ) → length new ≡ length old → ((i : ℕ) → i < length old → row_bit (row_at new i) p ≡ row_bit (row_at old i) p)
    → vector_at new p ≡ vector_at old p
same_vector old new p same bits =
    ext_get_or false (vector_at new p) (vector_at old p) (length-vector_at new p ∙ same ∙ sym (length-vector_at old p))
    (λ i low.
    let within : i < length new = omega (arith, length-vector_at new p) in
    bit-at new i p within ∙ bits i (omega arith) ∙ sym (bit-at old i p (omega arith)))

same_vectors : (old new : List (List ℕ)) (count : ℕ) → length new ≡ length old
    → ((i : ℕ) → i < length old → (p : ℕ) → p < count → row_bit (row_at new i) p ≡ row_bit (row_at old i) p) → vectors_in new count ≡ vectors_in old count
same_vectors old new count same bits =
    ext_get_or [] (vectors_in new count) (vectors_in old count) (length-vectors_in new count ∙ sym (length-vectors_in old count))
    (λ p low.
    let within : p < count = omega (arith, length-vectors_in new count) in
    vector-at new count p within ∙ same_vector old new p same (λ i l. bits i l p within) ∙ sym (vector-at old count p within))

-- ---- what every set is

module _ (inputs count : ℕ) (rows : List (List ℕ)) (h : AreRowsOf inputs count rows) where
  -- there is a row for each input wherever there is a vector
  pub all_rows : (p : ℕ) → p < count → length rows ≡ inputs
  all_rows p low = elim h.each [ inl full ↦ full | inr none ↦ absurd (omega (arith, none.0)) ]

  pub set_formed : IsPatternSet (record { inputs = inputs; vectors = vectors_in rows count })
  set_formed = record {
    few = h.few;
    widths = recursion_from_All (λ x. length x ≡ inputs) (vectors_in rows count)
        (All-from_get_or (λ x. length x ≡ inputs) (vectors_in rows count) []
        (λ p low.
        let within : p < count = omega (arith, length-vectors_in rows count) in
        ap length (vector-at rows count p within) ∙ length-vector_at rows p ∙ all_rows p within));
  }

  pub room_at : (p : ℕ) → p < count → All (λ row. p / 64 < length row) rows
  room_at p low = λ k d within. omega (arith, (h.formed k d within).room)

  pub row-of : (input : ℕ) → input < length rows → (row : List ℕ) → row ≡ take (word_count count) (row_at rows input) → IsRowOf (vectors_in rows count) input row
  row-of input within row is =
      let formed = h.formed input [] within in
      record {
        words = ap length is ∙ length-take-le (word_count count) (row_at rows input) formed.room ∙ ap word_count (sym (length-vectors_in rows count));
        bits = λ p. ap (λ r. row_bit r p) is ∙ row_bit-take (row_at rows input) (word_count count) (λ q past. formed.clear q (omega arith)) p ∙ in_vectors p formed;
      }
    where
      in_vectors : (p : ℕ) → IsRowFor count (row_at rows input) → row_bit (row_at rows input) p ≡ pattern_bit (vectors_in rows count) input p
      in_vectors p formed =
          elim (cases_lt p count) [
            | inl low ↦ sym (ap (λ x. get_or x input false) (vector-at rows count p low) ∙ bit-at rows input p within)
            | inr past ↦ formed.clear p past ∙ sym (ap (λ x. get_or x input false) (get_or_past (vectors_in rows count) p [] (omega (arith, length-vectors_in rows count))))
          ]

-- ---- a vector is added

nil_formed : IsRowFor 0 []
nil_formed = record { room = omega arith; clear = λ p past. row_bit-nil p }

formed_at : (inputs count : ℕ) (rows : List (List ℕ)) → AreRowsOf inputs count rows → (i : ℕ) → i < inputs → IsRowFor count (row_at rows i)
formed_at inputs count rows h i low =
    elim h.each [
      | inl full ↦ h.formed i [] (omega arith)
      | inr none ↦ subst (λ r. IsRowFor count (row_at r i)) (sym none.1) (subst (λ n. IsRowFor n []) (sym none.0) nil_formed)
    ]

grown_formed : (count : ℕ) (old new : List ℕ) → IsGrownFrom old new → IsRowFor count old → IsRowFor count new
grown_formed count old new grown formed = record { room = omega (arith, grown.longer, formed.room); clear = λ p past. grown.bits p ∙ formed.clear p past }

pub no_rows : {X : Type 0} (rows : List X) → rows ≡ [] → length rows ≡ 0
no_rows rows none = ap length none

module _ (inputs count : ℕ) (old new : List (List ℕ)) (h : AreRowsOf inputs count old) (r : AreReadied inputs old new) where
  at_most : length new ≤ inputs
  at_most = elim r.count [ inl full ↦ omega arith | inr none ↦ omega (arith, no_rows new none.1) ]

  either : (length new ≡ inputs) ⊎ ((count ≡ 0) × (new ≡ []))
  either =
      elim r.count [
        | inl full ↦ inl full
        | inr none ↦ elim h.each [
          | inl full ↦ inl (omega (arith, full, no_rows old none.0, no_rows new none.1))
          | inr first ↦ inr (first.0, none.1)
        ]
      ]

  pub readied_rows : AreRowsOf inputs count new
  readied_rows = record {
    few = h.few;
    each = either;
    formed = All-from_get_or (IsRowFor count) new [] (λ i low. grown_formed count (row_at old i) (row_at new i) (r.each i) (formed_at inputs count old h i (omega (arith, at_most))));
  }

  no_vectors : count ≡ 0 → vectors_in new count ≡ vectors_in old count
  no_vectors none = ap (vectors_in new) none ∙ sym (ap (vectors_in old) none)

  same_rows : vectors_in new count ≡ vectors_in old count
  same_rows =
      elim h.each [
        | inl full ↦ elim r.count [
          | inl now_full ↦ same_vectors old new count (omega arith) (λ i low p within. (r.each i).bits p)
          | inr none ↦ ap (λ rows. vectors_in rows count) none.1 ∙ sym (ap (λ rows. vectors_in rows count) none.0)
        ]
        | inr none ↦ no_vectors none.0
      ]

  pub readied_set : ◌≡◌ {A = PatternSet} (record { inputs = inputs; vectors = vectors_in new count }) (record { inputs = inputs; vectors = vectors_in old count })
  readied_set = λ i. record { inputs = inputs; vectors = same_rows i }

-- a row with words for `count` bits lacks at most one word for one bit more
pub room_before : (inputs count : ℕ) (rows : List (List ℕ)) → AreRowsOf inputs count rows → (i : ℕ) → i < inputs → word_count (count + 1) ≤ length (row_at rows i) + 1
room_before inputs count rows h i low = omega (arith, (formed_at inputs count rows h i low).room)

-- all rows of those that stand after the first ones were made
pub room_first : (inputs words : ℕ) (old rows : List (List ℕ)) → ((i : ℕ) → i < inputs → words ≤ length (row_at old i) + 1) → old ≡ [] → rows ≡ replicate inputs []
    → All (λ row. words ≤ length row + 1) rows
room_first inputs words old rows room none is =
    subst (All (λ row. words ≤ length row + 1)) (sym is)
    (All-from_get_or (λ row. words ≤ length row + 1) (replicate inputs []) []
    (λ i low.
    let within : i < inputs = omega (arith, length-replicate {A = List ℕ} inputs []) in
    let few = subst (λ r. words ≤ length (row_at r i) + 1) none (room i within) in
    subst (λ r. words ≤ length r + 1) (sym (get_or-replicate {A = List ℕ} inputs i [] [] within)) few))

pub room_later : (inputs words : ℕ) (old rows : List (List ℕ)) → ((i : ℕ) → i < inputs → words ≤ length (row_at old i) + 1) → length old ≡ inputs → rows ≡ old
    → All (λ row. words ≤ length row + 1) rows
room_later inputs words old rows room full is =
    subst (All (λ row. words ≤ length row + 1)) (sym is)
    (All-from_get_or (λ row. words ≤ length row + 1) old [] (λ i low. room i (omega arith)))

module _ (inputs count : ℕ) (rows new : List (List ℕ)) (x : List Bool) (h : AreRowsOf inputs count rows) (full : length rows ≡ inputs)
    (room : All (λ row. word_count (count + 1) ≤ length row) rows) (width : length x ≡ inputs) (s : AreSetAt count x rows new) where
  other_bit : (i : ℕ) → i < length rows → (q : ℕ) → q ≢ count → row_bit (row_at new i) q ≡ row_bit (row_at rows i) q
  other_bit i low q other = s.bits i low q ∙ ap (λ t. (t && get_or x i false) || row_bit (row_at rows i) q) (ne_eqb q count other)

  new_bit : (i : ℕ) → i < length rows → row_bit (row_at new i) count ≡ get_or x i false
  new_bit i low =
      s.bits i low count
      ∙ ap (λ t. (t && get_or x i false) || row_bit (row_at rows i) count) (eq-eqb count count refl)
      ∙ ap (λ b. get_or x i false || b) ((h.formed i [] low).clear count (omega arith))
      ∙ or_false (get_or x i false)
    where
      or_false : (b : Bool) → (b || false) ≡ b
      or_false true = refl
      or_false false = refl

  set_row : (i : ℕ) → i < length rows → IsRowFor (count + 1) (row_at new i)
  set_row i low = record {
    room = omega (arith, room i [] low, s.lengths i low);
    clear = λ q past. other_bit i low q (λ e. omega arith) ∙ (h.formed i [] low).clear q (omega arith);
  }

  pub added_rows : AreRowsOf inputs (count + 1) new
  added_rows = record {
    few = h.few;
    each = inl (omega (arith, s.same));
    formed = All-from_get_or (IsRowFor (count + 1)) new [] (λ i low. set_row i (omega (arith, s.same)));
  }

  new_vector : vector_at new count ≡ x
  new_vector =
      ext_get_or false (vector_at new count) x (omega (arith, length-vector_at new count, s.same))
      (λ i low. bit-at new i count (omega (arith, length-vector_at new count)) ∙ new_bit i (omega (arith, length-vector_at new count, s.same)))

  pub added_vectors : vectors_in new (count + 1) ≡ vectors_in rows count ++ x ∷ []
  added_vectors =
      map-range_with_len_more (vector_at new) 0 count count (omega arith)
      ∙ (λ i. same_vectors rows new count s.same (λ j low p below. other_bit j low p (λ e. omega arith)) i ++ new_vector i ∷ [])

-- ---- the set behind a vector, by the terms of its code

pub written_back : {X : Type 0} (rows new : List X) (len : ℕ) → length rows ≡ len → length new ≡ length rows → take len (new ++ drop (length new) rows) ≡ new
written_back rows new len is same = take_at new (drop (length new) rows) len (same ∙ is)

module _ (inputs count next len : ℕ) (old ready : List (List ℕ)) (set : PatternSet) (h : AreRowsOf inputs count old) (r : AreReadied inputs old ready)
    (is : ◌≡◌ {A = PatternSet} (record { inputs = inputs; vectors = vectors_in old count }) set) (long : length ready ≡ len) where
  pub refused_set : ◌≡◌ {A = PatternSet} (record { inputs = inputs; vectors = vectors_in ready count }) set
  refused_set = readied_set inputs count old ready h r ∙ is

  module _ (more : next ≡ count + 1) (full : length ready ≡ inputs) (room : All (λ row. word_count next ≤ length row) ready)
      (x : List Bool) (width : length x ≡ set.inputs) (before after : List (List ℕ)) (here : before ≡ ready) (s : AreSetAt count x before after) where
    room_now : All (λ row. word_count (count + 1) ≤ length row) ready
    room_now = subst (λ n. All (λ row. word_count n ≤ length row) ready) more room

    set_now : AreSetAt count x ready after
    set_now = subst (λ rows. AreSetAt count x rows after) here s

    width_now : length x ≡ inputs
    width_now = width ∙ sym (ap (λ v. v.inputs) is)

    rows_now : take len (after ++ drop (length after) ready) ≡ after
    rows_now = written_back ready after len long set_now.same

    pub next_rows : AreRowsOf inputs next (take len (after ++ drop (length after) ready))
    next_rows =
        let added = added_rows inputs count ready after x (readied_rows inputs count old ready h r) full room_now width_now set_now in
        rw (rows_now, more) added

    pub next_set : ◌≡◌ {A = PatternSet} (record { inputs = inputs; vectors = vectors_in (take len (after ++ drop (length after) ready)) next })
        (record { inputs = set.inputs; vectors = set.vectors ++ x ∷ [] })
    next_set =
        let vectors : vectors_in (take len (after ++ drop (length after) ready)) next ≡ vectors_in old count ++ x ∷ [] =
        (λ i. vectors_in (rows_now i) (more i))
        ∙ added_vectors inputs count ready after x (readied_rows inputs count old ready h r) full room_now width_now set_now
        ∙ ap (λ s. s.vectors ++ x ∷ []) (readied_set inputs count old ready h r) in
        (λ i. record { inputs = inputs; vectors = vectors i })
        ∙ ap (λ (v : PatternSet). record { inputs = v.inputs; vectors = v.vectors ++ x ∷ [] }) is
