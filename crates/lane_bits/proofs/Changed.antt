-- Words that are changed one by one, or eight at a time.
use Rattle.std.proofs.Common.{◌≡◌, ◌≢◌, ℕ, zero, suc, ◌+◌, ◌*◌, ◌/◌, ◌%◌, ◌-◌, ◌<◌, ◌≤◌, ◌==◌, false, List, [], ◌∷◌, length, get_or, set, replicate, refl, ap, sym, subst, ◌∙◌, inl, inr, arith}
use Rattle.std.proofs.Common.{get_or-set_same, get_or-set_other}
use Rattle.std.specs.Prelude.{bit_and, bit_or, bit_xor}
use Rattle.std.specs.Int.{bit_at}
use Rattle.std.specs.Simd.Lanes.{zip2, chunk, put_chunk, fold_l}
use Rattle.std.proofs.lemmas.Bool.{cases_lt}
use Rattle.std.proofs.lemmas.Simd.{length-chunk, get_or-chunk, length-zip2, get_or-zip2, length-replicate, get_or-replicate, get_or-put_chunk_below, get_or-put_chunk_at, get_or-put_chunk_above}
use Rattle.std.proofs.lemmas.Nat.Bits.{bit_at_or, bit_at-zero, same_from_bits}
use Rattle.lane_bits.specs.Rows.{row_bit}
use Rattle.lane_bits.specs.Changed.{AreChanged}

pub changed_none : (f : ℕ → ℕ → ℕ) (from : ℕ) (row : List ℕ) → AreChanged f from from row row
changed_none f from row = record { changed = λ k low high. absurd (omega (arith, low, high)); before = λ k low. refl; behind = λ k high. refl }

pub changed_until : (f : ℕ → ℕ → ℕ) (from k to : ℕ) (old new : List ℕ) → k ≡ to → AreChanged f from k old new → AreChanged f from to old new
changed_until f from k to old new same are = subst (λ n. AreChanged f from n old new) same are

-- first the words up to a place, then those from there on
pub changed_joined : (f : ℕ → ℕ → ℕ) (from place to : ℕ) (old row new : List ℕ) → from ≤ place → place ≤ to → AreChanged f from place old row → AreChanged f place to row new
    → AreChanged f from to old new
changed_joined f from place to old row new left right first second = record {
  changed = λ k low high. elim (cases_lt k place) [
    | inl early ↦ second.before k early ∙ first.changed k low early
    | inr late ↦ second.changed k late high ∙ ap (f k) (first.behind k late)
  ];
  before = λ k low. second.before k (omega (arith, low, left)) ∙ first.before k low;
  behind = λ k high. second.behind k high ∙ first.behind k (omega (arith, high, right));
}

-- one more word
pub changed_more : (f : ℕ → ℕ → ℕ) (from k word : ℕ) (old row : List ℕ) → from ≤ k → k < length row → word ≡ f k (get_or row k 0) → AreChanged f from k old row
    → AreChanged f from (k + 1) old (set row k word)
changed_more f from k word old row low within is before =
    changed_joined f from k (k + 1) old row (set row k word) low (omega arith) before
    (record {
      changed = λ j least most.
          let here : j ≡ k = omega (arith, least, most) in
          ap (λ i. get_or (set row k word) i 0) here ∙ get_or-set_same row k word 0 within ∙ is ∙ sym (ap (λ i. f i (get_or row i 0)) here);
      before = λ j less. let other : j ≢ k = (λ e. omega (arith, less, e)) in get_or-set_other row k j word 0 other;
      behind = λ j more. let other : j ≢ k = (λ e. omega (arith, more, e)) in get_or-set_other row k j word 0 other;
    })

-- eight more words
pub changed_eights : (f : ℕ → ℕ → ℕ) (q : ℕ) (old row new : List ℕ) → AreChanged f 0 (8 * q) old row → AreChanged f (8 * q) (8 * q + 8) row new → AreChanged f 0 (8 * (q + 1)) old new
changed_eights f q old row new before here =
    let next : 8 * q + 8 ≡ 8 * (q + 1) = omega arith in
    changed_until f 0 (8 * q + 8) (8 * (q + 1)) old new next (changed_joined f 0 (8 * q) (8 * q + 8) old row new (omega arith) (omega arith) before here)

-- the eights, and then the rest
pub changed_all : (f : ℕ → ℕ → ℕ) (q eights : ℕ) (old row new : List ℕ) → eights ≤ q → q ≤ eights → 8 * eights ≤ length row → length row ≡ length old
    → AreChanged f 0 (8 * q) old row → AreChanged f (8 * eights) (length row) row new → (k : ℕ) → k < length old → get_or new k 0 ≡ f k (get_or old k 0)
changed_all f q eights old row new least most room same first second k low =
    let here : 8 * q ≡ 8 * eights = omega (arith, least, most) in
    (changed_joined f 0 (8 * eights) (length row) old row new (omega arith) room (changed_until f 0 (8 * q) (8 * eights) old row here first) second).changed k (omega arith) (omega (arith, low, same))

-- ---- eight words, by the terms of their code

-- an operator on one lane
zip2-lane : (f : ℕ → ℕ → ℕ) (xs ys : List ℕ) (j : ℕ) → length xs ≡ 8 → length ys ≡ 8 → j < 8 → get_or (zip2 f xs ys) j 0 ≡ f (get_or xs j 0) (get_or ys j 0)
zip2-lane f xs ys j left right low = get_or-zip2 f xs ys j 0 0 0 (omega (arith, left, low)) (omega (arith, right, low))

zip2-long : (f : ℕ → ℕ → ℕ) (xs ys : List ℕ) → length xs ≡ 8 → length ys ≡ 8 → length (zip2 f xs ys) ≡ 8
zip2-long f xs ys left right = length-zip2 f xs ys (left ∙ sym right) ∙ left

pub changed_eight : (f : ℕ → ℕ → ℕ) (at : ℕ) (old words : List ℕ) → length words ≡ 8 → at + 8 ≤ length old → ((j : ℕ) → j < 8 → get_or words j 0 ≡ f (at + j) (get_or old (at + j) 0))
    → AreChanged f at (at + 8) old (put_chunk at old words)
changed_eight f at old words long room lanes = record {
  changed = λ k low high.
      let here : at + (k - at) ≡ k = omega (arith, low) in
      ap (λ i. get_or (put_chunk at old words) i 0) (sym here)
      ∙ get_or-put_chunk_at at old words (k - at) 0 (omega (arith, low, high, long)) (omega (arith, room, long))
      ∙ lanes (k - at) (omega (arith, low, high)) ∙ ap (λ i. f i (get_or old i 0)) here;
  before = λ k low. get_or-put_chunk_below at old words k 0 low;
  behind = λ k high. get_or-put_chunk_above at old words k 0 (omega (arith, high, long));
}

module _ (at : ℕ) (xs : List ℕ) (room : at + 8 ≤ length xs) where
  part_long : length (chunk at 8 xs) ≡ 8
  part_long = length-chunk at 8 xs room

  flipped_long : (flips : ℕ) → length (zip2 bit_xor (chunk at 8 xs) (replicate 8 flips)) ≡ 8
  flipped_long flips = zip2-long bit_xor (chunk at 8 xs) (replicate 8 flips) part_long (length-replicate 8 flips)

  flipped-lane : (flips j : ℕ) → j < 8 → get_or (zip2 bit_xor (chunk at 8 xs) (replicate 8 flips)) j 0 ≡ bit_xor (get_or xs (at + j) 0) flips
  flipped-lane flips j low =
      zip2-lane bit_xor (chunk at 8 xs) (replicate 8 flips) j part_long (length-replicate 8 flips) low
      ∙ (λ i. bit_xor (get_or-chunk at 8 xs j 0 low i) (get_or-replicate 8 j flips 0 low i))

pub eight_conjunctions : (at flips_a flips_b : ℕ) (dst a b : List ℕ) → at + 8 ≤ length dst → at + 8 ≤ length a → at + 8 ≤ length b
    → AreChanged (λ k w. bit_and (bit_xor (get_or a k 0) flips_a) (bit_xor (get_or b k 0) flips_b)) at (at + 8) dst
    (put_chunk at dst (zip2 bit_and (zip2 bit_xor (chunk at 8 a) (replicate 8 flips_a)) (zip2 bit_xor (chunk at 8 b) (replicate 8 flips_b))))
eight_conjunctions at flips_a flips_b dst a b room room_a room_b =
    let left : List ℕ = zip2 bit_xor (chunk at 8 a) (replicate 8 flips_a) in
    let right : List ℕ = zip2 bit_xor (chunk at 8 b) (replicate 8 flips_b) in
    changed_eight (λ k w. bit_and (bit_xor (get_or a k 0) flips_a) (bit_xor (get_or b k 0) flips_b)) at dst (zip2 bit_and left right)
    (zip2-long bit_and left right (flipped_long at a room_a flips_a) (flipped_long at b room_b flips_b)) room
    (λ j low.
    zip2-lane bit_and left right j (flipped_long at a room_a flips_a) (flipped_long at b room_b flips_b) low
    ∙ (λ i. bit_and (flipped-lane at a room_a flips_a j low i) (flipped-lane at b room_b flips_b j low i)))

-- each word with that of another row
pub eight_words : (f : ℕ → ℕ → ℕ) (at : ℕ) (dst a : List ℕ) → at + 8 ≤ length dst → at + 8 ≤ length a
    → AreChanged (λ k w. f w (get_or a k 0)) at (at + 8) dst (put_chunk at dst (zip2 f (chunk at 8 dst) (chunk at 8 a)))
eight_words f at dst a room room_a =
    changed_eight (λ k w. f w (get_or a k 0)) at dst (zip2 f (chunk at 8 dst) (chunk at 8 a)) (zip2-long f (chunk at 8 dst) (chunk at 8 a) (part_long at dst room) (part_long at a room_a)) room
    (λ j low.
    zip2-lane f (chunk at 8 dst) (chunk at 8 a) j (part_long at dst room) (part_long at a room_a) low
    ∙ (λ i. f (get_or-chunk at 8 dst j 0 low i) (get_or-chunk at 8 a j 0 low i)))

pub eight_kept : (at flips : ℕ) (dst a : List ℕ) → at + 8 ≤ length dst → at + 8 ≤ length a
    → AreChanged (λ k w. bit_and w (bit_xor (get_or a k 0) flips)) at (at + 8) dst (put_chunk at dst (zip2 bit_and (chunk at 8 dst) (zip2 bit_xor (chunk at 8 a) (replicate 8 flips))))
eight_kept at flips dst a room room_a =
    let right : List ℕ = zip2 bit_xor (chunk at 8 a) (replicate 8 flips) in
    changed_eight (λ k w. bit_and w (bit_xor (get_or a k 0) flips)) at dst (zip2 bit_and (chunk at 8 dst) right)
    (zip2-long bit_and (chunk at 8 dst) right (part_long at dst room) (flipped_long at a room_a flips)) room
    (λ j low.
    zip2-lane bit_and (chunk at 8 dst) right j (part_long at dst room) (flipped_long at a room_a flips) low
    ∙ (λ i. bit_and (get_or-chunk at 8 dst j 0 low i) (flipped-lane at a room_a flips j low i)))

-- no bit of words that are 0 is 1
pub no_bits : (row : List ℕ) (n : ℕ) → ((k : ℕ) → k < n → get_or row k 0 ≡ 0) → (p : ℕ) → p < 64 * n → row_bit row p ≡ false
unfolding row_bit
no_bits row n clear p low = ap (λ w. bit_at w (p % 64) == 1) (clear (p / 64) (omega arith)) ∙ ap (λ n. n == 1) (bit_at-zero (p % 64))

-- ---- words that are all 0

or_zero : (x y : ℕ) → bit_or x y ≡ 0 → (x ≡ 0) × (y ≡ 0)
or_zero x y none = (
  same_from_bits x 0 (λ i. omega (arith, bit_at-zero i, bit_at_or x y i, ap (λ n. bit_at n i) none)),
  same_from_bits y 0 (λ i. omega (arith, bit_at-zero i, bit_at_or x y i, ap (λ n. bit_at n i) none)),
)

each_zero : (x : ℕ) (xs : List ℕ) → x ≡ 0 → ((j : ℕ) → get_or xs j 0 ≡ 0) → (j : ℕ) → get_or (x ∷ xs) j 0 ≡ 0
each_zero x xs here rest zero = here
each_zero x xs here rest (suc j) = rest j

pub clear_from_fold : (a : ℕ) (xs : List ℕ) → fold_l bit_or a xs ≡ 0 → (a ≡ 0) × ((j : ℕ) → get_or xs j 0 ≡ 0)
clear_from_fold a [] none = (none, λ j. refl)
clear_from_fold a (x ∷ xs) none =
    let rest = clear_from_fold (bit_or a x) xs none in
    let both = or_zero a x rest.0 in (
      both.0,
      each_zero x xs both.1 rest.1,
    )

pub clear_part : (row : List ℕ) (at k : ℕ) → ((j : ℕ) → get_or (chunk at 8 row) j 0 ≡ 0) → at ≤ k → k < at + 8 → get_or row k 0 ≡ 0
clear_part row at k clear low high =
    let here : at + (k - at) ≡ k = omega (arith, low) in
    ap (λ i. get_or row i 0) (sym here) ∙ sym (get_or-chunk at 8 row (k - at) 0 (omega (arith, low, high))) ∙ clear (k - at)

-- eight more words are all 0
pub clear_more : (row : List ℕ) (q : ℕ) → ((k : ℕ) → k < 8 * q → get_or row k 0 ≡ 0) → ((k : ℕ) → 8 * q ≤ k → k < 8 * q + 8 → get_or row k 0 ≡ 0)
    → (k : ℕ) → k < 8 * (q + 1) → get_or row k 0 ≡ 0
clear_more row q before here k low =
    elim (cases_lt k (8 * q)) [
      | inl early ↦ before k early
      | inr late ↦ here k late (omega (arith, low))
    ]
