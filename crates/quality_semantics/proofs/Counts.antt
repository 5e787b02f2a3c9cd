-- Counts of the bits that are 1.
use Rattle.std.proofs.Common.{◌≡◌, ℕ, zero, suc, ◌+◌, ◌<◌, leb, replicate, count_by, cond, get_or, Bool, true, false, List, [], ◌∷◌, ◌||◌, ◌&&◌, length, map, add-zero, zero-add, refl, ap, sym, subst}
use Rattle.std.proofs.Common.{◌∙◌, arith}
use Rattle.std.proofs.lemmas.List.{length-replicate}
use Rattle.std.proofs.lemmas.List.Sums.{sum_by-cons}
use Rattle.std.proofs.lemmas.Bool.{lt-leb}
use Rattle.std.proofs.Math.Dec.{leb-zero}
use Rattle.std.proofs.lemmas.Bool.Decides.{nat_tests}
use Rattle.semantics.specs.Value.{Assignment}
use Rattle.semantics.specs.Error.{bit_number, differing}
use Rattle.quality_semantics.specs.Forms.{xor2, grow}
use Rattle.quality_semantics.specs.WordNets.{WordNetValue, signals, appended}
use Rattle.quality_semantics.specs.Buses.{places, differences, differ, growers, count_rows, at_least}
use Rattle.quality_semantics.specs.Laws.{Fits}
use Rattle.quality_semantics.proofs.Tables.{form_value, xor2_value, grow_value}
use Rattle.quality_semantics.proofs.Growth.{begins_differences, begins_growers, begins_count_rows, Fits-earlier, Fits-newest}

one_or_none : (b : Bool) → cond b 1 0 ≡ bit_number b
one_or_none true = refl
one_or_none false = refl

count_more : (v : Assignment) (d : ℕ) (ds : List ℕ) → count_by v (d ∷ ds) ≡ bit_number (v d) + count_by v ds
count_more v d ds = sum_by-cons (λ s. cond (v s) 1 0) d ds ∙ ap (λ n. n + count_by v ds) (one_or_none (v d))

differences_count : (v : Assignment) (W : WordNetValue) (z : ℕ) (x y : List ℕ) → length x ≡ length y → Fits v (differences W (places z x y)).net
    → count_by v (differences W (places z x y)).bus ≡ differing (map v x) (map v y)
differences_count v W z [] [] e h = refl
differences_count v W z [] (b ∷ y) e h = absurd (omega arith)
differences_count v W z (a ∷ x) [] e h = absurd (omega arith)
differences_count v W z (a ∷ x) (b ∷ y) e h =
    let next = appended W (xor2 a b) in
    let rest = differences_count v next z x y (omega arith) h in
    let at_next = Fits-earlier v _ next (begins_differences next (places z x y)) h in
    let here : bit_number (v (signals W)) ≡ bit_number (form_value (xor2 a b) v) = ap bit_number (Fits-newest v W _ at_next) in
    rw (count_more v (signals W) (differences next (places z x y)).bus, here, xor2_value v a b, rest) refl

pub differ_count : (v : Assignment) (W : WordNetValue) (x y : List ℕ) → length x ≡ length y → Fits v (differ W x y).net → count_by v (differ W x y).bus ≡ differing (map v x) (map v y)
differ_count v W x y e h = differences_count v W W.inputs x y e h

-- the places of a row, from j on, say whether j is at most the count
IsCount : Assignment → ℕ → ℕ → List ℕ → Type 0
IsCount v j count [] = Unit {0}
IsCount v j count (p ∷ ps) = (v p ≡ leb j count) × IsCount v (suc j) count ps

IsCount-none : (v : Assignment) (z j k : ℕ) → v z ≡ false → IsCount v (suc j) 0 (replicate k z)
unfolding IsCount
IsCount-none v z j zero low = tt
IsCount-none v z j (suc k) low = (low ∙ sym (lt-leb (suc j) 0 (omega arith)), IsCount-none v z (suc j) k low)

grow_step : (d : Bool) (j c : ℕ) → (leb (suc j) c || (d && leb j c)) ≡ leb (suc j) (c + bit_number d)
grow_step true j c = grind (arith, nat_tests)
grow_step false j c = grind (arith, nat_tests)

growers_count : (v : Assignment) (W : WordNetValue) (d q j c : ℕ) (ps : List ℕ) → v q ≡ leb j c → IsCount v (suc j) c ps → Fits v (growers W d q ps).net
    → IsCount v (suc j) (c + bit_number (v d)) (growers W d q ps).bus
unfolding IsCount
growers_count v W d q j c [] eq h g = tt
growers_count v W d q j c (p ∷ ps) eq h g =
    let next = appended W (grow p d q) in
    let at_next = Fits-earlier v _ next (begins_growers next d p ps) g in
    let here : v (signals W) ≡ (v p || (v d && v q)) = Fits-newest v W _ at_next ∙ grow_value v p d q in
    (here ∙ rw (h.0, eq) (grow_step (v d) j c), growers_count v next d p (suc j) c ps h.0 h.1 g)

count_rows_count : (v : Assignment) (W : WordNetValue) (row ds : List ℕ) (c : ℕ) → IsCount v 1 c row → Fits v (count_rows W row ds).net → IsCount v 1 (c + count_by v ds) (count_rows W row ds).bus
count_rows_count v W row [] c h g = rw add-zero h
count_rows_count v W row (d ∷ ds) c h g =
    let next = growers W d (suc W.inputs) row in
    let here = Fits-earlier v _ next.net (begins_count_rows next.net next.bus ds) g in
    let before = Fits-earlier v next.net W (begins_growers W d (suc W.inputs) row) here in
    let step = growers_count v W d (suc W.inputs) 0 c row (before.one ∙ sym (leb-zero c)) h here in
    let rest = count_rows_count v next.net next.bus ds (c + bit_number (v d)) step g in
    let one_more = count_more v d ds in
    subst (λ n. IsCount v 1 n (count_rows next.net next.bus ds).bus) (omega (arith, one_more)) rest

pub length-growers : (W : WordNetValue) (d q : ℕ) (ps : List ℕ) → length (growers W d q ps).bus ≡ length ps
length-growers W d q [] = refl
length-growers W d q (p ∷ ps) = ap suc (length-growers (appended W (grow p d q)) d p ps)

pub length-count_rows : (W : WordNetValue) (row ds : List ℕ) → length (count_rows W row ds).bus ≡ length row
length-count_rows W row [] = refl
length-count_rows W row (d ∷ ds) =
    let next = growers W d (suc W.inputs) row in
    length-count_rows next.net next.bus ds ∙ length-growers W d (suc W.inputs) row

IsCount-at : (v : Assignment) (j c : ℕ) (row : List ℕ) (i d : ℕ) → i < length row → IsCount v j c row → v (get_or row i d) ≡ leb (j + i) c
unfolding IsCount
IsCount-at v j c [] i d h g = absurd (omega arith)
IsCount-at v j c (p ∷ ps) zero d h g = rw add-zero g.0
IsCount-at v j c (p ∷ ps) (suc i) d h g =
    let place : j + suc i ≡ suc j + i = omega arith in
    rw place (IsCount-at v (suc j) c ps i d (omega arith) g.1)

pub at_least_value : (v : Assignment) (W : WordNetValue) (ds : List ℕ) (k : ℕ) → Fits v (at_least W ds k).net → v (at_least W ds k).signal ≡ leb k (count_by v ds)
at_least_value v W ds zero h = (Fits-earlier v _ W (begins_count_rows W [] ds) h).one ∙ sym (leb-zero (count_by v ds))
at_least_value v W ds (suc k) h =
    let row = replicate (suc k) W.inputs in
    let before = Fits-earlier v _ W (begins_count_rows W row ds) h in
    let count = simp zero-add at (count_rows_count v W row ds 0 (IsCount-none v W.inputs 0 (suc k) before.zero) h) in
    let next : 1 + k ≡ suc k = omega arith in
    let width = length-count_rows W row ds in
    IsCount-at v 1 (count_by v ds) (count_rows W row ds).bus k W.inputs (omega (arith, width, length-replicate (suc k) W.inputs)) count ∙ ap (λ n. leb n (count_by v ds)) next
