-- The network of a level over outputs that are cut into words: the signals of the words, joined one after
-- another, say whether the error exceeds the level.
use Rattle.std.proofs.Common.{◌≡◌, ℕ, zero, suc, ◌+◌, ◌-◌, ◌*◌, ◌<◌, ◌≤◌, min, max, Bool, false, ◌||◌, List, length, map, take, drop, ltb, leb, inl, inr, refl, ap, sym, subst, ◌∙◌, arith}
use Rattle.std.specs.List.{range_with_len}
use Rattle.std.proofs.lemmas.Bool.{cases_lt, le-ltb}
use Rattle.std.proofs.lemmas.Bool.Decides.{nat_tests}
use Rattle.std.proofs.lemmas.List.{length-map, drop-map, take_min}
use Rattle.std.proofs.lemmas.List.FromFn.{length-range_with_len, length-map-range_with_len, take-map-range_with_len}
use Rattle.semantics.specs.Value.{Assignment}
use Rattle.semantics.specs.declared.metric.Metric.{Metric}
use Rattle.semantics.specs.declared.metric.Kind.TheVariants.{Ham}
use Rattle.semantics.specs.Error.{word_error, greatest_error, word_width, word_count, word_at, greatest_of, error_of}
use Rattle.semantics.proofs.Sizes.{word_error-le}
use Rattle.semantics.proofs.Words.{greatest_of-same, word_begins, word_width-some}
use Rattle.quality_semantics.specs.WordNets.{WordNetValue, signals, started, BeginsWith}
use Rattle.quality_semantics.specs.Buses.{differ, places}
use Rattle.quality_semantics.specs.Quality.{word_quality, differing_excess, exact_bus, approximate_bus}
use Rattle.quality_semantics.specs.Laws.{Fits}
use Rattle.quality_semantics.proofs.Growth.{begins_itself, begins_after, begins_differences, begins_at_least, Fits-earlier}
use Rattle.quality_semantics.proofs.Counts.{differ_count, at_least_value}
use Rattle.quality_semantics.proofs.Quality.{quality_zero, quality_excess}
use Rattle.bus_nets.specs.Numbers.{HasBit}
use Rattle.bdd_levels.specs.Words.{SaysWordExcess, SaysExcess}

-- ---- the differing bits of one word

differing_begins : (W : WordNetValue) (e a : List ℕ) (k : ℕ) → BeginsWith (differing_excess W e a k).net W
differing_begins W e a k =
    let d = differ W e a in
    begins_after W d.net _ (begins_at_least d.net d.bus (suc k)) (begins_differences W (places W.inputs e a))

pub differing_after : (W V : WordNetValue) (e a : List ℕ) (k : ℕ) → V ≡ (word_quality Ham W e a k).net → BeginsWith V W
differing_after W V e a k made =
    elim (cases_lt k (greatest_error Ham (length e))) [
      | inl low ↦ rw (made, quality_excess Ham W e a k low) (differing_begins W e a k)
      | inr high ↦ rw (made, quality_zero Ham W e a k high) (begins_itself W)
    ]

more_than : (k n : ℕ) → leb (suc k) n ≡ ltb k n
more_than k n = grind (arith, nat_tests)

differing_value : (v : Assignment) (W : WordNetValue) (e a : List ℕ) (k : ℕ) → length e ≡ length a → Fits v (differing_excess W e a k).net
    → v (differing_excess W e a k).signal ≡ ltb k (word_error Ham (map v e) (map v a))
differing_value v W e a k widths h =
    let d = differ W e a in
    let count = differ_count v W e a widths (Fits-earlier v _ d.net (begins_at_least d.net d.bus (suc k)) h) in
    at_least_value v d.net d.bus (suc k) h ∙ rw count (more_than k _)

never_differing : (v : Assignment) (W : WordNetValue) (e a : List ℕ) (k : ℕ) → length e ≡ length a → greatest_error Ham (length e) ≤ k → Fits v W
    → v W.inputs ≡ ltb k (word_error Ham (map v e) (map v a))
never_differing v W e a k widths high h =
    let within = word_error-le Ham (length e) (map v e) (map v a) (length-map e v) (length-map a v ∙ sym widths) in
    h.zero ∙ sym (le-ltb k _ (omega (arith, within, high)))

differing_quality : (v : Assignment) (W : WordNetValue) (e a : List ℕ) (k : ℕ) → length e ≡ length a → Fits v (word_quality Ham W e a k).net
    → v (word_quality Ham W e a k).signal ≡ ltb k (word_error Ham (map v e) (map v a))
differing_quality v W e a k widths =
    elim (cases_lt k (greatest_error Ham (length e))) [
      | inl low ↦ rw (quality_excess Ham W e a k low) (differing_value v W e a k widths)
      | inr high ↦ rw (quality_zero Ham W e a k high) (never_differing v W e a k widths high)
    ]

pub differing_says : (k : ℕ) (W V : WordNetValue) (e a : List ℕ) (s : ℕ) → length e ≡ length a → V ≡ (word_quality Ham W e a k).net → s ≡ (word_quality Ham W e a k).signal
    → SaysWordExcess Ham k (record { exact = e; approximate = a }) V s
differing_says k W V e a s widths made is = record { at = λ v fits. ap v is ∙ differing_quality v W e a k widths (subst (Fits v) made fits) }

-- ---- the first words

pub bus_width : (from w : ℕ) (bus : List ℕ) → bus ≡ range_with_len from w → length bus ≡ w
bus_width from w bus is = ap length is ∙ length-range_with_len from w

-- the error of word j where the signals have these values
abbrev bus_error : Metric → ℕ → Assignment → ℕ → ℕ
bus_error metric n v j = word_error metric.kind (map v (exact_bus (word_width metric n) n j)) (map v (approximate_bus (word_width metric n) n j))

-- the signal says whether the error of one of the first j words exceeds k
pub record ExceedsBefore (metric : Metric) (n k : ℕ) (W : WordNetValue) (s j : ℕ) : Type 0 where
  pub begins : BeginsWith W (started (n + n))
  pub within : s < signals W
  pub at : (v : Assignment) → Fits v W → v s ≡ ltb k (greatest_of (bus_error metric n v) j)

never_below : (k : ℕ) → false ≡ ltb k 0
never_below k = grind (arith, nat_tests)

over_greater : (k a b : ℕ) → ltb k (max a b) ≡ (ltb k a || ltb k b)
over_greater k a b = grind (arith, nat_tests)

pub exceeds_none : (metric : Metric) (n k : ℕ) (W : WordNetValue) (s : ℕ) → W ≡ started (n + n) → s ≡ W.inputs → s < signals W → ExceedsBefore metric n k W s 0
exceeds_none metric n k W s start is within = record {
  begins = subst (BeginsWith W) start (begins_itself W);
  within = within;
  at = λ v fits. ap v is ∙ fits.zero ∙ never_below k;
}

pub exceeds_more : (metric : Metric) (n k : ℕ) (W V U : WordNetValue) (s t r j : ℕ) → ExceedsBefore metric n k W s j → BeginsWith V W
    → SaysWordExcess metric.kind k (record { exact = exact_bus (word_width metric n) n j; approximate = approximate_bus (word_width metric n) n j }) V t
    → BeginsWith U V → r < signals U → HasBit U r (λ v. v s || v t) → ExceedsBefore metric n k U r (j + 1)
exceeds_more metric n k W V U s t r j before to_V word to_U within joined = record {
  begins = begins_after (started (n + n)) W U (begins_after W V U to_U to_V) before.begins;
  within = within;
  at = λ v fits.
      let at_V = Fits-earlier v U V to_U fits in
      let next : j + 1 ≡ suc j = omega arith in
      joined.at v fits
      ∙ rw (before.at v (Fits-earlier v V W to_V at_V), word.at v at_V) (sym (over_greater k (greatest_of (bus_error metric n v) j) (bus_error metric n v j)))
      ∙ ap (λ i. ltb k (greatest_of (bus_error metric n v) i)) (sym next);
}

-- ---- all words

drop_range : (from n p : ℕ) → p ≤ n → drop p (range_with_len from n) ≡ range_with_len (from + p) (n - p)
drop_range from n zero few = let here : from + 0 ≡ from = omega arith in let all : n - 0 ≡ n = omega arith in rw (here, all) refl
drop_range from zero (suc p) few = absurd (omega (arith, few))
drop_range from (suc n) (suc p) few =
    let on : (from + 1) + p ≡ from + suc p = omega arith in
    let left : n - p ≡ suc n - suc p = omega arith in
    drop_range (from + 1) n p (omega (arith, few)) ∙ ap (λ i. range_with_len i (n - p)) on ∙ ap (range_with_len (from + suc p)) left

-- the word at place j has the values of its bus
word_values : (v : Assignment) (from n w j start : ℕ) → j * w ≤ n → start ≡ from + j * w → map v (range_with_len start (min w (n - j * w))) ≡ word_at w j (map v (range_with_len from n))
word_values v from n w j start inside is =
    let p : ℕ = j * w in
    let rest : drop p (map v (range_with_len from n)) ≡ map v (range_with_len start (n - p)) =
    drop-map v p (range_with_len from n) ∙ ap (map v) (drop_range from n p inside ∙ ap (λ i. range_with_len i (n - p)) (sym is)) in
    let size : length (map v (range_with_len start (n - p))) ≡ n - p = length-map-range_with_len v start (n - p) in
    sym (take-map-range_with_len v start (n - p) (min w (n - p)) (omega arith))
    ∙ ap (λ m. take (min w m) (map v (range_with_len start (n - p)))) (sym size)
    ∙ take_min w (map v (range_with_len start (n - p)))
    ∙ ap (take w) (sym rest)

pub exceeds_all : (metric : Metric) (n k : ℕ) (W : WordNetValue) (s j : ℕ) → ExceedsBefore metric n k W s j → j ≡ word_count metric n → SaysExcess metric n k W s
unfolding error_of
exceeds_all metric n k W s j before end = record {
  begins = before.begins;
  at = λ v fits.
      let w : ℕ = word_width metric n in
      let e : List Bool = map v (range_with_len 0 n) in
      let a : List Bool = map v (range_with_len n n) in
      let width : length e ≡ n = length-map-range_with_len v 0 n in
      let each : (i : ℕ) → i < word_count metric n → bus_error metric n v i ≡ word_error metric.kind (word_at w i e) (word_at w i a) =
      λ i low.
      let inside : i * w ≤ n = omega (arith, word_begins n w i (word_width-some metric n) low) in
      let first = word_values v 0 n w i (i * w) inside (omega arith) in
      let second = word_values v n n w i (n + i * w) inside refl in
      rw (first, second) refl in
      before.at v fits
      ∙ ap (λ i. ltb k (greatest_of (bus_error metric n v) i)) end
      ∙ ap (ltb k) (greatest_of-same (bus_error metric n v) _ (word_count metric n) each)
      ∙ ap (λ m. ltb k (greatest_of (λ i. word_error metric.kind (word_at (word_width metric m) i e) (word_at (word_width metric m) i a)) (word_count metric m))) (sym width);
}
