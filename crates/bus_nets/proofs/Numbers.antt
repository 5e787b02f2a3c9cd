-- The number of each call's result, from the tables that the call appended.
use Rattle.std.proofs.Common.{◌≡◌, ◌≢◌, ℕ, zero, suc, ◌+◌, ◌-◌, ◌*◌, ◌/◌, ◌%◌, ◌<◌, IfOk, OnOk, Result, Ok, Err, ◌≤◌, max, ltb, leb, count_by, List, ◌∷◌, [], ◌++◌, length, map, drop, get_or, set}
use Rattle.std.proofs.Common.{replicate, refl, ap, sym, subst, ◌∙◌, arith}
use Rattle.std.proofs.lemmas.List.{drop_all, get_or_default}
use Rattle.std.specs.List.{range_with_len}
use Rattle.std.specs.Prelude.{pos}
use Rattle.semantics.specs.Net.{TableValue}
use Rattle.semantics.specs.Value.{Assignment}
use Rattle.semantics.specs.Error.{distance, differing}
use Rattle.semantics.specs.declared.mark.Mark.{Mark}
use Rattle.semantics.specs.declared.mark.Mark.TheVariants.{Zero, One, Dash}
use Rattle.quality_semantics.specs.Forms.{form, or2}
use Rattle.quality_semantics.specs.WordNets.{WordNetValue, signals, appended, BeginsWith, AreSignalsOf, IsWordNet}
use Rattle.quality_semantics.specs.Buses.{adders, add, comparators, greater, exceed, constant, times, not_zero_low, flip_top, differences, differ, count_rows, at_least}
use Rattle.quality_semantics.specs.Laws.{Fits, number}
use Rattle.quality_semantics.proofs.Numbers.{add_number, greater_value, exceed_value, constant_number, times_number, not_zero_number, input_bits}
use Rattle.quality_semantics.proofs.Counts.{differ_count, at_least_value}
use Rattle.quality_semantics.proofs.Growth.{Fits-earlier}
use Rattle.quality_semantics.proofs.Signed.{flip_number, flip_top_formed}
use Rattle.bus_nets.specs.Growing.{IsGrowing}
use Rattle.bus_nets.specs.Numbers.{HasNumber, HasCount, HasBit, HasInputs, HasFlipped}
use Rattle.bus_nets.proofs.Steps.{Adding, Comparing, Differing, Counting, Counted, differing_all, places_none, counting_width}

pub input_has : (W V : WordNetValue) (bus : List ℕ) (from width : ℕ) → IsGrowing W → W ≡ V → from + width ≤ V.inputs → bus ≡ range_with_len from width → HasInputs V bus from width
input_has W V bus from width h same within e =
    record { at = λ x size. rw e (input_bits V x from width (subst IsWordNet same h.formed) size within) }

pub constant_has : (W : WordNetValue) (k : ℕ) (bus : List ℕ) → bus ≡ constant W k → HasNumber W bus (λ v. k)
constant_has W k bus e = record { at = λ v fits. ap (number v) e ∙ constant_number v W k fits }

pub add_has : (W V : WordNetValue) (x y bus : List ℕ) → V ≡ (add W x y).net → bus ≡ (add W x y).bus → HasNumber V bus (λ v. number v x + number v y)
add_has W V x y bus net e = record { at = λ v fits. ap (number v) e ∙ add_number v W x y (subst (Fits v) net fits) }

pub adding_has : (start now : WordNetValue) (x y sums bus : List ℕ) (carry i : ℕ) → Adding start now x y sums carry i → max (length x) (length y) ≤ i → bus ≡ sums ++ carry ∷ []
    → HasNumber now bus (λ v. number v x + number v y)
adding_has start now x y sums bus carry i h past e =
    let none = places_none start.inputs x y i past in
    let net : now ≡ (add start x y).net = ap (λ r. (adders now carry r).net) (sym none) ∙ h.net in
    let is : bus ≡ (add start x y).bus = e ∙ ap (λ r. sums ++ (adders now carry r).bus) (sym none) ∙ h.bus in
    add_has start now x y bus net is

pub times_has : (W V : WordNetValue) (x bus : List ℕ) (k : ℕ) → V ≡ (times W x k).net → bus ≡ (times W x k).bus → HasNumber V bus (λ v. k * number v x)
times_has W V x bus k net e = record { at = λ v fits. ap (number v) e ∙ times_number v W x k (subst (Fits v) net fits) }

pub greater_has : (W V : WordNetValue) (x y : List ℕ) (s : ℕ) → V ≡ (greater W x y).net → s ≡ (greater W x y).signal → HasBit V s (λ v. ltb (number v y) (number v x))
greater_has W V x y s net e = record { at = λ v fits. ap v e ∙ greater_value v W x y (subst (Fits v) net fits) }

pub comparing_has : (start now : WordNetValue) (x y : List ℕ) (above i : ℕ) → Comparing start now x y above i → max (length x) (length y) ≤ i → HasBit now above (λ v. ltb (number v y) (number v x))
comparing_has start now x y above i h past =
    let whole = ap (λ r. comparators now above r) (sym (places_none start.inputs x y i past)) ∙ h.rest in
    greater_has start now x y above (ap (λ r. r.net) whole) (ap (λ r. r.signal) whole)

pub exceed_has : (W V : WordNetValue) (x y z : List ℕ) (s : ℕ) → V ≡ (exceed W x y z).net → s ≡ (exceed W x y z).signal → HasBit V s (λ v. ltb (number v z) (distance (number v x) (number v y)))
exceed_has W V x y z s net e = record { at = λ v fits. ap v e ∙ exceed_value v W x y z (subst (Fits v) net fits) }

pub not_zero_has : (W V : WordNetValue) (x bus : List ℕ) → 0 < length x → V ≡ (not_zero_low W x).net → bus ≡ (not_zero_low W x).bus → HasNumber V bus (λ v. max 1 (number v x))
not_zero_has W V x bus some net e = record { at = λ v fits. ap (number v) e ∙ not_zero_number v W x some (subst (Fits v) net fits) }

pub differ_has : (W V : WordNetValue) (x y bus : List ℕ) → length x ≡ length y → V ≡ (differ W x y).net → bus ≡ (differ W x y).bus → HasCount V bus (λ v. differing (map v x) (map v y))
differ_has W V x y bus same net e = record { at = λ v fits. ap (count_by v) e ∙ differ_count v W x y same (subst (Fits v) net fits) }

pub at_least_has : (W V : WordNetValue) (ds : List ℕ) (k s : ℕ) → V ≡ (at_least W ds k).net → s ≡ (at_least W ds k).signal → HasBit V s (λ v. leb k (count_by v ds))
at_least_has W V ds k s net e = record { at = λ v fits. ap v e ∙ at_least_value v W ds k (subst (Fits v) net fits) }

pub counted_has : (W V : WordNetValue) (bus : List ℕ) (from width i : ℕ) → IsGrowing W → W ≡ V → from + width ≤ V.inputs → Counted V from bus i → i ≡ width → HasInputs V bus from width
counted_has W V bus from width i h same within counted e = input_has W V bus from width h same within (counted.is ∙ ap (range_with_len from) e)

-- a last call that is returned as it is
pub both_ok : {T E Q : Type 0} (r : Result T E) (P R : T → Type 0) → ((x : T) → P x → Q → R x) → IfOk r P → OnOk r Q → IfOk r R
both_ok (Ok x) P R f p q = f x p q
both_ok (Err e) P R f p q = tt

-- ---- the four cases of a product

pub none_has : (W : WordNetValue) (x : List ℕ) (k : ℕ) → k ≡ 0 → HasNumber W [] (λ v. k * number v x)
none_has W x k e = rw e (record { at = λ v fits. omega arith })

pub once_has : (W : WordNetValue) (x bus : List ℕ) (k : ℕ) → k ≡ 1 → bus ≡ x → HasNumber W bus (λ v. k * number v x)
once_has W x bus k e same = rw (e, same) (record { at = λ v fits. omega arith })

double_number : (W : WordNetValue) (half : List ℕ) (v : Assignment) → Fits v W → number v (W.inputs ∷ half) ≡ 2 * number v half
double_number W half v fits = let low = fits.zero in rw low (omega arith)

half_step : (k h n : ℕ) → h ≡ k / 2 → k % 2 ≢ 1 → 2 * (h * n) ≡ k * n
half_step k h n e even = let whole : k ≡ 2 * h = omega arith in rw whole (grind arith)

half_step_odd : (k h n : ℕ) → h ≡ k / 2 → k % 2 ≡ 1 → 2 * (h * n) + n ≡ k * n
half_step_odd k h n e odd = let whole : k ≡ 2 * h + 1 = omega arith in rw whole (grind arith)

pub even_has : (W : WordNetValue) (x half double : List ℕ) (k : ℕ) → HasNumber W half (λ v. (k / 2) * number v x) → double ≡ W.inputs ∷ half → k % 2 ≢ 1 → HasNumber W double (λ v. k * number v x)
even_has W x half double k h e even = record {
  at = λ v fits. ap (number v) e ∙ double_number W half v fits ∙ ap (λ n. 2 * n) (h.at v fits) ∙ half_step k (k / 2) (number v x) refl even;
}

pub odd_has : (W V : WordNetValue) (x half double bus : List ℕ) (k : ℕ) → HasNumber W half (λ v. (k / 2) * number v x) → double ≡ W.inputs ∷ half → BeginsWith V W
    → HasNumber V bus (λ v. number v double + number v x) → k % 2 ≡ 1 → HasNumber V bus (λ v. k * number v x)
odd_has W V x half double bus k h e begins sum odd = record {
  at = λ v fits.
      let before = Fits-earlier v V W begins fits in
      let twice : number v double ≡ 2 * ((k / 2) * number v x) = ap (number v) e ∙ double_number W half v before ∙ ap (λ n. 2 * n) (h.at v before) in
      sum.at v fits ∙ ap (λ n. n + number v x) twice ∙ half_step_odd k (k / 2) (number v x) refl odd;
}

-- ---- the five steps of a comparison of distances

pub exceed_made : (W S P T Q V : WordNetValue) (x y z s t : List ℕ) (p q r : ℕ) → S ≡ (add W y z).net → s ≡ (add W y z).bus → P ≡ (greater S x s).net → p ≡ (greater S x s).signal
    → T ≡ (add P x z).net → t ≡ (add P x z).bus → Q ≡ (greater T y t).net → q ≡ (greater T y t).signal → V ≡ appended Q (or2 p q) → r ≡ signals Q
    → HasBit V r (λ v. ltb (number v z) (distance (number v x) (number v y)))
exceed_made W S P T Q V x y z s t p q r hS hs hP hp hT ht hQ hq hV hr =
    exceed_has W V x y z r (rw (hV, hQ, hq, hT, ht, hP, hp, hS, hs) refl) (rw (hr, hQ, hT, ht, hP, hS, hs) refl)

-- ---- the end of a count

counting_whole : (start now : WordNetValue) (k : ℕ) (ds row : List ℕ) (i : ℕ) → Counting start now k ds row i → length ds ≤ i
    → record { net = now; bus = row } ≡ count_rows start (replicate k start.inputs) ds
counting_whole start now k ds row i h past = ap (λ r. count_rows now row r) (sym (drop_all i ds past)) ∙ h.rest

counted_place : (bus : List ℕ) (k s z one : ℕ) → k ≢ 0 → length bus ≡ k → s ≡ get_or bus (k - 1) s → s ≡ get_or (one ∷ bus) k z
counted_place bus zero s z one some size e = absurd (some refl)
counted_place bus (suc k) s z one some size e =
    let place : suc k - 1 ≡ k = omega arith in
    e ∙ ap (λ j. get_or bus j s) place ∙ get_or_default bus k s z (omega (arith, size))

pub counting_some : (start now : WordNetValue) (k : ℕ) (ds given row : List ℕ) (i s : ℕ) → Counting start now k ds row i → length ds ≤ i → ds ≡ given → k ≢ 0 → s ≡ get_or row (k - 1) s
    → HasBit now s (λ v. leb k (count_by v given))
counting_some start now k ds given row i s h past same some e =
    let whole = counting_whole start now k ds row i h past in
    let width = counting_width start now k ds row i h past in
    let signal : s ≡ (at_least start ds k).signal =
    counted_place row k s start.inputs (suc start.inputs) some width e ∙ ap (λ r. get_or (suc start.inputs ∷ r.bus) k start.inputs) whole in
    subst (λ z. HasBit now s (λ v. leb k (count_by v z))) same (at_least_has start now ds k s (ap (λ r. r.net) whole) signal)

-- ---- the sign turned over

pub flipped_has : (W V : WordNetValue) (x bus : List ℕ) → 0 < length x → V ≡ (flip_top W x).net → bus ≡ (flip_top W x).bus → HasFlipped V bus x
flipped_has W V x bus some net e = record { at = λ v fits. ap (λ b. pos (number v b)) e ∙ flip_number v W x some (subst (Fits v) net fits) }

pub flipped_in : (W U V : WordNetValue) (x bus : List ℕ) → IsGrowing U → U ≡ W → AreSignalsOf W x → V ≡ (flip_top W x).net → bus ≡ (flip_top W x).bus → AreSignalsOf V bus
flipped_in W U V x bus h same x_in net e = rw (net, e) ((flip_top_formed W x (subst IsWordNet same h.formed) x_in).bus)

-- ---- the ends of the other loops

pub differing_has : (start now : WordNetValue) (x y bits : List ℕ) (i : ℕ) → Differing start now x y bits i → max (length x) (length y) ≤ i → length x ≡ length y
    → HasCount now bits (λ v. differing (map v x) (map v y))
differing_has start now x y bits i h past same =
    let net : now ≡ (differ start x y).net = ap (λ r. (differences now r).net) (sym (places_none start.inputs x y i past)) ∙ h.net in
    differ_has start now x y bits same net (differing_all start now x y bits i h past)

-- ---- the least bit of a word that is not to be 0

pub not_zero_made : (W V : WordNetValue) (x pins bus rest : List ℕ) (rows : List (List Mark)) (s : ℕ) → 0 < length x → pins ≡ x
    → rows ≡ (One ∷ replicate (length x - 1) Dash) ∷ (Zero ∷ replicate (length x - 1) Zero) ∷ []
    → V ≡ appended W (form pins rows) → s ≡ signals W → rest ≡ drop 1 x → bus ≡ s ∷ rest → HasNumber V bus (λ v. max 1 (number v x))
not_zero_made W V [] pins bus rest rows s some ep er net es et e = absurd (omega arith)
not_zero_made W V (a ∷ xs) pins bus rest rows s some ep er net es et e =
    let count : suc (length xs) - 1 ≡ length xs = omega arith in
    not_zero_has W V (a ∷ xs) bus some (rw (net, ep, er, count) refl) (rw (e, es, et) refl)

pub flipped_made : (W V : WordNetValue) (x bus : List ℕ) (top b s : ℕ) → 0 < length x → top ≡ length x - 1 → b ≡ get_or x top W.inputs → V ≡ appended W (form (b ∷ []) ((Zero ∷ []) ∷ []))
    → s ≡ signals W → bus ≡ set x top s → HasFlipped V bus x
flipped_made W V x bus top b s some et eb net es e = flipped_has W V x bus some (rw (net, eb, et) refl) (rw (e, es, et) refl)

-- the double of a word, as the code has it
pub double_is : (W : WordNetValue) (z : ℕ) (ts : List TableValue) (slice half double : List ℕ) → double ≡ z ∷ slice → slice ≡ half → record { inputs = z; tables = ts } ≡ W → double ≡ W.inputs ∷ half
double_is W z ts slice half double e f g = rw (e, f) (ap (λ (U : WordNetValue). U.inputs ∷ half) g)
