-- Errors lane by lane.
use Rattle.std.proofs.Common.{◌≡◌, ◌↔◌, ℕ, zero, suc, ◌+◌, ◌*◌, ◌-◌, ◌^◌, ◌<◌, ◌≤◌, min, max, Bool, true, false, not, ◌||◌, List, [], ◌∷◌, length, get_or, set, take, drop, w64, IsTrue}
use Rattle.std.proofs.Common.{refl, ap, sym, ◌∙◌, subst, inl, inr, arith}
use Rattle.std.specs.Prelude.{bit_or, bit_xor}
use Rattle.std.specs.Int.{bit_not}
use Rattle.std.proofs.Math.Nat.{zero-div, zero-mod}
use Rattle.std.proofs.lemmas.Bool.{cases_eq, cases_lt}
use Rattle.std.proofs.lemmas.List.{ext_get_or, length-map, get_or-map, take-map, drop-map}
use Rattle.semantics.specs.declared.metric.Metric.{Metric}
use Rattle.semantics.specs.declared.metric.Kind.{Kind}
use Rattle.semantics.specs.declared.metric.Kind.TheVariants.{Abs, Rel, Ham, Sabs}
use Rattle.semantics.specs.Error.{number_of, sign_of, sign_flipped, distance, rounded_up, differing, word_error, one_word, word_width, word_count, greatest_of, error_of_word, error_of}
use Rattle.semantics.proofs.Words.{in_one_word}
use Rattle.semantics.proofs.Signed.{signed_error-naturals, flipped_error}
use Rattle.net_errors.proofs.WordSlices.{word_found, greatest_more}
use Rattle.lane_bits.specs.Rows.{turned}
use Rattle.lane_bits.proofs.Bits.{or_bit, xor_bit}
use Rattle.lane_nets.specs.Words.{word_bit}
use Rattle.lane_nets.specs.Lanes.{lane_at}
use Rattle.lane_nets.proofs.WordBits.{zero_bit, not_bit}
use Rattle.lane_nets.proofs.Comparing.{either, or_true}

pub length-lane : (words : List ℕ) (b : ℕ) → length (lane_at words b) ≡ length words
length-lane words b = length-map words (λ word. word_bit word b)

pub lane-bit : (words : List ℕ) (b i : ℕ) → i < length words → get_or (lane_at words b) i false ≡ word_bit (get_or words i 0) b
lane-bit words b i low = get_or-map (λ word. word_bit word b) words i 0 false low

-- ---- signs

pub lane-set : (words : List ℕ) (i word b : ℕ) → lane_at (set words i word) b ≡ set (lane_at words b) i (word_bit word b)
lane-set [] i word b = refl
lane-set (w ∷ words) zero word b = refl
lane-set (w ∷ words) (suc i) word b = ap (λ l. word_bit w b ∷ l) (lane-set words i word b)

pub lane-turned : (words : List ℕ) (b last : ℕ) → b < 64 → 0 < length words → last < 2 ^ 64 → last ≡ get_or words (length words - 1) 0
    → lane_at (set words (length words - 1) (bit_not w64 last)) b ≡ sign_flipped (lane_at words b)
lane-turned words b last low some fits is =
    let top : ℕ = length words - 1 in
    let sign : sign_of (lane_at words b) ≡ word_bit last b =
    ap (λ n. get_or (lane_at words b) (n - 1) false) (length-lane words b) ∙ lane-bit words b top (omega arith) ∙ ap (λ w. word_bit w b) (sym is) in
    lane-set words top (bit_not w64 last) b
    ∙ (λ j. set (lane_at words b) (sym (length-lane words b) j - 1) ((not_bit last b fits low ∙ ap not (sym sign)) j))

pub lane-turned_none : (words : List ℕ) (b : ℕ) → words ≡ [] → lane_at words b ≡ sign_flipped (lane_at words b)
lane-turned_none words b is = rw is refl

pub signed_lanes : (level word b : ℕ) (exact approx right outputs : List ℕ) → length exact ≡ length approx → lane_at right b ≡ sign_flipped (lane_at exact b)
    → lane_at outputs b ≡ sign_flipped (lane_at approx b)
    → (IsTrue (word_bit word b) ↔ (level < distance (number_of (lane_at right b)) (number_of (lane_at outputs b))))
    → IsTrue (word_bit word b) ↔ (level < word_error Sabs (lane_at exact b) (lane_at approx b))
signed_lanes level word b exact approx right outputs same right_is outputs_is bits =
    let here : distance (number_of (lane_at right b)) (number_of (lane_at outputs b)) ≡ word_error Sabs (lane_at exact b) (lane_at approx b) =
    (λ j. distance (number_of (right_is j)) (number_of (outputs_is j)))
    ∙ sym (flipped_error (lane_at exact b) (lane_at approx b) (length-lane exact b ∙ same ∙ sym (length-lane approx b))) in
    subst (λ n. IsTrue (word_bit word b) ↔ (level < n)) here bits

-- ---- where outputs differ

none_of : (s t : Bool) → (s || t) ≡ false → (s ≡ false) × (t ≡ false)
none_of false t h = (refl, h)
none_of true t h = absurd cc

equal_bits : (s t : Bool) → turned t s ≡ false → s ≡ t
equal_bits false false h = refl
equal_bits false true h = absurd cc
equal_bits true false h = absurd cc
equal_bits true true h = refl

pub equal_more : (exact approx : List ℕ) (i unequal b : ℕ)
    → (word_bit unequal b ≡ false → (j : ℕ) → j < i → word_bit (get_or exact j 0) b ≡ word_bit (get_or approx j 0) b)
    → word_bit (bit_or unequal (bit_xor (get_or exact i 0) (get_or approx i 0))) b ≡ false
    → (j : ℕ) → j < i + 1 → word_bit (get_or exact j 0) b ≡ word_bit (get_or approx j 0) b
equal_more exact approx i unequal b before none j low =
    let x : ℕ = get_or exact i 0 in
    let y : ℕ = get_or approx i 0 in
    let both = none_of (word_bit unequal b) (word_bit (bit_xor x y) b) (sym (or_bit unequal (bit_xor x y) b) ∙ none) in
    elim (cases_eq j i) [
      | inl here ↦
          let equal : word_bit x b ≡ word_bit y b = equal_bits (word_bit x b) (word_bit y b) (sym (xor_bit x y b) ∙ both.1) in
          subst (λ k. word_bit (get_or exact k 0) b ≡ word_bit (get_or approx k 0) b) (sym here) equal
      | inr other ↦ before both.0 j (omega arith)
    ]

pub equal_all : (exact approx : List ℕ) (b i : ℕ) → length exact ≡ length approx → length exact ≤ i
    → ((j : ℕ) → j < i → word_bit (get_or exact j 0) b ≡ word_bit (get_or approx j 0) b) → lane_at exact b ≡ lane_at approx b
equal_all exact approx b i same past each =
    ext_get_or false (lane_at exact b) (lane_at approx b) (length-lane exact b ∙ same ∙ sym (length-lane approx b))
    (λ j low.
    let within : j < length exact = omega (arith, low, length-lane exact b) in
    lane-bit exact b j within ∙ each j (omega (arith, within, past)) ∙ sym (lane-bit approx b j (omega (arith, within, same))))

differing_none : (bits : List Bool) → differing bits bits ≡ 0
differing_none [] = refl
differing_none (b ∷ bits) = omega (arith, differing_none bits)

-- equal outputs have the error 0
pub no_error : (kind : Kind) (bits : List Bool) → word_error kind bits bits ≡ 0
no_error Abs bits = omega arith
no_error Rel bits =
    let none : distance (number_of bits) (number_of bits) * 1000000 ≡ 0 = omega arith in
    ap (λ n. rounded_up n (max 1 (number_of bits))) none ∙ (λ j. zero-div (max 1 (number_of bits)) j + min 1 (zero-mod (max 1 (number_of bits)) j))
no_error Ham bits = differing_none bits
no_error Sabs bits = omega (arith, signed_error-naturals bits bits)

-- where all outputs are one word, the error is that of the word
pub one_word_lane : (kind : Kind) (exact approx : List ℕ) (b : ℕ) → length exact ≡ length approx
    → error_of (one_word kind) (lane_at exact b) (lane_at approx b) ≡ word_error kind (lane_at exact b) (lane_at approx b)
one_word_lane kind exact approx b same = in_one_word kind (lane_at exact b) (lane_at approx b) (length-lane exact b ∙ same ∙ sym (length-lane approx b))

-- ---- outputs that are cut into words

lane_cut : (words : List ℕ) (b first count : ℕ) → lane_at (take count (drop first words)) b ≡ take count (drop first (lane_at words b))
lane_cut words b first count =
    sym (take-map (λ word. word_bit word b) count (drop first words)) ∙ ap (take count) (sym (drop-map (λ word. word_bit word b) first words))

-- the error of two slices that are word j is that of word j
slices_err : (metric : Metric) (exact approx : List ℕ) (b j first size : ℕ) → length exact ≡ length approx → first ≡ j * word_width metric (length exact)
    → size ≡ min (word_width metric (length exact)) (length exact - j * word_width metric (length exact))
    → word_error metric.kind (lane_at (take (first + size - first) (drop first exact)) b) (lane_at (take (first + size - first) (drop first approx)) b)
    ≡ error_of_word metric (lane_at exact b) (lane_at approx b) j
slices_err metric exact approx b j first size same begin count =
    let wide = length-lane exact b in
    word_found metric (lane_at exact b) (lane_at approx b) j first size _ (wide ∙ same ∙ sym (length-lane approx b)) (begin ∙ ap (λ n. j * word_width metric n) (sym wide))
    (count ∙ ap (λ n. min (word_width metric n) (n - j * word_width metric n)) (sym wide))
    (λ i. word_error metric.kind (lane_cut exact b first (first + size - first) i) (lane_cut approx b first (first + size - first) i))

-- no word has been joined
pub joined_none : (metric : Metric) (level b : ℕ) (exact approx : List ℕ)
    → IsTrue (word_bit 0 b) ↔ (level < greatest_of (error_of_word metric (lane_at exact b) (lane_at approx b)) 0)
joined_none metric level b exact approx = (λ set. (let clear = zero_bit b in cc), λ far. absurd (omega (arith, far)))

-- Word j joins the words before it: the greatest error so far exceeds the level where one of them did or word j does.
pub joined_more : (metric : Metric) (level over here b j first size : ℕ) (exact approx : List ℕ) → length exact ≡ length approx → first ≡ j * word_width metric (length exact)
    → size ≡ min (word_width metric (length exact)) (length exact - j * word_width metric (length exact))
    → (IsTrue (word_bit here b) ↔ (level < word_error metric.kind (lane_at (take (first + size - first) (drop first exact)) b) (lane_at (take (first + size - first) (drop first approx)) b)))
    → (IsTrue (word_bit over b) ↔ (level < greatest_of (error_of_word metric (lane_at exact b) (lane_at approx b)) j))
    → IsTrue (word_bit (bit_or over here) b) ↔ (level < greatest_of (error_of_word metric (lane_at exact b) (lane_at approx b)) (j + 1))
joined_more metric level over here b j first size exact approx same begin count one before =
    let f : ℕ → ℕ = error_of_word metric (lane_at exact b) (lane_at approx b) in
    let err = slices_err metric exact approx b j first size same begin count in
    let more = greatest_more f j (greatest_of f j) (f j) (max (f j) (greatest_of f j)) refl refl refl in
    let is = or_bit over here b in (
      λ set. elim (either (word_bit over b) (word_bit here b) (sym is ∙ set)) [
        | inl h ↦ (let far = before.0 h in omega (arith, far, more))
        | inr h ↦ (let far = one.0 h in omega (arith, far, err, more))
      ],
      λ far. is ∙ elim (cases_lt level (greatest_of f j)) [
        | inl earlier ↦ ap (λ t. t || word_bit here b) (before.1 earlier)
        | inr kept ↦ ap (λ t. word_bit over b || t) (one.1 (omega (arith, far, kept, err, more))) ∙ or_true (word_bit over b)
      ],
    )

-- the words are all there: the greatest error is that of the outputs
pub joined_all : (metric : Metric) (level over b count : ℕ) (exact approx : List ℕ) → count ≡ word_count metric (length exact)
    → (IsTrue (word_bit over b) ↔ (level < greatest_of (error_of_word metric (lane_at exact b) (lane_at approx b)) count))
    → IsTrue (word_bit over b) ↔ (level < error_of metric (lane_at exact b) (lane_at approx b))
unfolding error_of
joined_all metric level over b count exact approx all h =
    let every : count ≡ word_count metric (length (lane_at exact b)) = all ∙ ap (word_count metric) (sym (length-lane exact b)) in
    subst (λ n. IsTrue (word_bit over b) ↔ (level < greatest_of (error_of_word metric (lane_at exact b) (lane_at approx b)) n)) every h
