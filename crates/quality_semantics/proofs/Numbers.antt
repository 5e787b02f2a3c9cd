-- The numbers of the buses.
use Rattle.std.proofs.Common.{◌≡◌, ℕ, zero, suc, ◌+◌, ◌*◌, ◌<◌, ◌≤◌, max, cond, get_or, Bool, true, false, List, [], ◌∷◌, ◌||◌, length, map, take, drop, drop-cons, ltb, refl, ap, ◌∙◌, arith}
use Rattle.std.specs.List.{range_with_len}
use Rattle.std.proofs.lemmas.Bool.Decides.{nat_tests}
use Rattle.semantics.specs.Value.{Assignment, value_of}
use Rattle.semantics.specs.Error.{bit_number, number_of, distance}
use Rattle.semantics.proofs.Order.{IsAcyclic-in_order}
use Rattle.semantics.proofs.Values.{value_law}
use Rattle.quality_semantics.specs.Forms.{or2, xor3, maj, gt, low}
use Rattle.quality_semantics.specs.WordNets.{WordNetValue, signals, appended, IsWordNet}
use Rattle.quality_semantics.specs.Buses.{places, adders, add, comparators, greater, exceed, binary, constant, times_bits, times, not_zero_low}
use Rattle.quality_semantics.specs.Laws.{Fits, number}
use Rattle.quality_semantics.proofs.Tables.{form_value, full_adder_value, comparator_value, or2_value, low_number}
use Rattle.quality_semantics.proofs.Growth.{begins_appended, begins_adders, begins_comparators, begins_add, begins_greater, Fits-earlier, Fits-newest}
use Rattle.quality_semantics.proofs.Binary.{number_of-binary}

-- zeros past the width add nothing
zeros_first : (v : Assignment) (z : ℕ) (ys : List ℕ) → v z ≡ false → number_of (map (λ p. v p.0) (places z [] ys)) ≡ 0
zeros_first v z [] low = refl
zeros_first v z (y ∷ ys) low = let rest = zeros_first v z ys low in rw (low, rest) refl

firsts : (v : Assignment) (z : ℕ) (xs ys : List ℕ) → v z ≡ false → number_of (map (λ p. v p.0) (places z xs ys)) ≡ number v xs
firsts v z [] ys low = zeros_first v z ys low
firsts v z (x ∷ xs) [] low = let rest = firsts v z xs [] low in ap (λ n. bit_number (v x) + 2 * n) rest
firsts v z (x ∷ xs) (y ∷ ys) low = let rest = firsts v z xs ys low in ap (λ n. bit_number (v x) + 2 * n) rest

seconds_alone : (v : Assignment) (z : ℕ) (ys : List ℕ) → number_of (map (λ p. v p.1) (places z [] ys)) ≡ number v ys
seconds_alone v z [] = refl
seconds_alone v z (y ∷ ys) = ap (λ n. bit_number (v y) + 2 * n) (seconds_alone v z ys)

seconds : (v : Assignment) (z : ℕ) (xs ys : List ℕ) → v z ≡ false → number_of (map (λ p. v p.1) (places z xs ys)) ≡ number v ys
seconds v z [] ys low = seconds_alone v z ys
seconds v z (x ∷ xs) [] low = let rest = seconds v z xs [] low in rw (low, rest) refl
seconds v z (x ∷ xs) (y ∷ ys) low = let rest = seconds v z xs ys low in ap (λ n. bit_number (v y) + 2 * n) rest

-- the sums and the carry out have the number of both buses and the carry in
adders_number : (v : Assignment) (W : WordNetValue) (c : ℕ) (ps : List (ℕ × ℕ)) → Fits v (adders W c ps).net
    → number v (adders W c ps).bus ≡ number_of (map (λ p. v p.0) ps) + number_of (map (λ p. v p.1) ps) + bit_number (v c)
adders_number v W c [] h = omega arith
adders_number v W c (p ∷ ps) h =
    let half = appended W (xor3 p.0 p.1 c) in
    let next = appended half (maj p.0 p.1 c) in
    let rest = adders_number v next (signals half) ps h in
    let at_next = Fits-earlier v _ next (begins_adders next (signals half) ps) h in
    let at_half = Fits-earlier v next half (begins_appended half (maj p.0 p.1 c)) at_next in
    let here = full_adder_value v p.0 p.1 c in
    let sum : bit_number (v (signals W)) ≡ bit_number (form_value (xor3 p.0 p.1 c) v) = ap bit_number (Fits-newest v W _ at_half) in
    let carry : bit_number (v (signals half)) ≡ bit_number (form_value (maj p.0 p.1 c) v) = ap bit_number (Fits-newest v half _ at_next) in
    omega (arith, rest, here, sum, carry)

compare_step : (a b g : Bool) (m n : ℕ) → ltb n (m + bit_number (ltb (bit_number b) (bit_number a + bit_number g))) ≡ ltb (bit_number b + 2 * n) (bit_number a + 2 * m + bit_number g)
compare_step true true true m n = grind (arith, nat_tests)
compare_step true true false m n = grind (arith, nat_tests)
compare_step true false true m n = grind (arith, nat_tests)
compare_step true false false m n = grind (arith, nat_tests)
compare_step false true true m n = grind (arith, nat_tests)
compare_step false true false m n = grind (arith, nat_tests)
compare_step false false true m n = grind (arith, nat_tests)
compare_step false false false m n = grind (arith, nat_tests)

comparators_value : (v : Assignment) (W : WordNetValue) (g : ℕ) (ps : List (ℕ × ℕ)) → Fits v (comparators W g ps).net
    → v (comparators W g ps).signal ≡ ltb (number_of (map (λ p. v p.1) ps)) (number_of (map (λ p. v p.0) ps) + bit_number (v g))
comparators_value v W g [] h = elim (v g) as (λ b. b ≡ ltb 0 (0 + bit_number b)) [ true ↦ refl | false ↦ refl ]
comparators_value v W g (p ∷ ps) h =
    let next = appended W (gt p.0 p.1 g) in
    let rest = comparators_value v next (signals W) ps h in
    let at_next = Fits-earlier v _ next (begins_comparators next (signals W) ps) h in
    let here : v (signals W) ≡ ltb (bit_number (v p.1)) (bit_number (v p.0) + bit_number (v g)) = Fits-newest v W _ at_next ∙ comparator_value v p.0 p.1 g in
    rest ∙ rw here (compare_step (v p.0) (v p.1) (v g) _ _)

pub add_number : (v : Assignment) (W : WordNetValue) (x y : List ℕ) → Fits v (add W x y).net → number v (add W x y).bus ≡ number v x + number v y
add_number v W x y h =
    let zero = (Fits-earlier v _ W (begins_add W x y) h).zero in
    rw (adders_number v W W.inputs (places W.inputs x y) h, firsts v W.inputs x y zero, seconds v W.inputs x y zero, zero) (omega arith)

pub greater_value : (v : Assignment) (W : WordNetValue) (x y : List ℕ) → Fits v (greater W x y).net → v (greater W x y).signal ≡ ltb (number v y) (number v x)
greater_value v W x y h =
    let zero = (Fits-earlier v _ W (begins_greater W x y) h).zero in
    rw (comparators_value v W W.inputs (places W.inputs x y) h, firsts v W.inputs x y zero, seconds v W.inputs x y zero, zero) (grind arith)

exceed_numbers : (x y z : ℕ) → (ltb (y + z) x || ltb (x + z) y) ≡ ltb z (distance x y)
exceed_numbers x y z = grind (arith, nat_tests)

pub exceed_value : (v : Assignment) (W : WordNetValue) (x y z : List ℕ) → Fits v (exceed W x y z).net → v (exceed W x y z).signal ≡ ltb (number v z) (distance (number v x) (number v y))
exceed_value v W x y z h =
    let s = add W y z in
    let p = greater s.net x s.bus in
    let t = add p.net x z in
    let q = greater t.net y t.bus in
    let at_q : Fits v q.net = Fits-earlier v _ q.net (begins_appended q.net (or2 p.signal q.signal)) h in
    let at_t : Fits v t.net = Fits-earlier v q.net t.net (begins_greater t.net y t.bus) at_q in
    let at_p : Fits v p.net = Fits-earlier v t.net p.net (begins_add p.net x z) at_t in
    let at_s : Fits v s.net = Fits-earlier v p.net s.net (begins_greater s.net x s.bus) at_p in
    let over = greater_value v s.net x s.bus at_p in
    let under = greater_value v t.net y t.bus at_q in
    let is : v (signals q.net) ≡ (v p.signal || v q.signal) = Fits-newest v q.net _ h ∙ or2_value v p.signal q.signal in
    is ∙ rw (over, under, add_number v W y z at_s, add_number v p.net x z at_t) (exceed_numbers _ _ _)

pub constant_bits : (v : Assignment) (z : ℕ) (bits : List Bool) → v z ≡ false → v (suc z) ≡ true → number v (map (λ b. cond b (suc z) z) bits) ≡ number_of bits
constant_bits v z [] low high = refl
constant_bits v z (true ∷ bits) low high = let rest = constant_bits v z bits low high in rw (high, rest) refl
constant_bits v z (false ∷ bits) low high = let rest = constant_bits v z bits low high in rw (low, rest) refl

pub constant_number : (v : Assignment) (W : WordNetValue) (k : ℕ) → Fits v W → number v (constant W k) ≡ k
constant_number v W k h = constant_bits v W.inputs (binary k) h.zero h.one ∙ number_of-binary k

times_bits_number : (v : Assignment) (W : WordNetValue) (x : List ℕ) (bits : List Bool) → Fits v (times_bits W x bits).net → number v (times_bits W x bits).bus ≡ number_of bits * number v x
times_bits_number v W x [] h = omega arith
times_bits_number v W x (false ∷ []) h = omega arith
times_bits_number v W x (true ∷ []) h = omega arith
times_bits_number v W x (false ∷ (d ∷ bits)) h =
    let half = times_bits_number v W x (d ∷ bits) h in
    rw (h.zero, half) (grind arith)
times_bits_number v W x (true ∷ (d ∷ bits)) h =
    let net = (times_bits W x (d ∷ bits)).net in
    let double = net.inputs ∷ (times_bits W x (d ∷ bits)).bus in
    let before = Fits-earlier v _ net (begins_add net double x) h in
    let half = times_bits_number v W x (d ∷ bits) before in
    add_number v net double x h ∙ rw (before.zero, half) (grind arith)

pub times_number : (v : Assignment) (W : WordNetValue) (x : List ℕ) (k : ℕ) → Fits v (times W x k).net → number v (times W x k).bus ≡ k * number v x
times_number v W x k h = times_bits_number v W x (binary k) h ∙ rw (number_of-binary k) refl

pub not_zero_number : (v : Assignment) (W : WordNetValue) (x : List ℕ) → 0 < length x → Fits v (not_zero_low W x).net → number v (not_zero_low W x).bus ≡ max 1 (number v x)
not_zero_number v W [] some h = absurd (omega arith)
not_zero_number v W (x ∷ xs) some h = let here = Fits-newest v W (low x xs) h in rw here (low_number v x xs)

inputs_bits : (v : Assignment) (x : List Bool) (from width : ℕ) → ((s : ℕ) → s < length x → v s ≡ get_or x s false) → from + width ≤ length x
    → map v (range_with_len from width) ≡ take width (drop from x)
inputs_bits v x from zero h few = refl
inputs_bits v x from (suc width) h few =
    let here : v from ≡ get_or x from false = h from (omega arith) in
    let rest = inputs_bits v x (from + 1) width h (omega arith) in
    let step = drop-cons x from false (omega arith) in
    let next : from + 1 ≡ suc from = omega arith in
    rw (step, here, rest, next) refl

-- the bits of an input bus
pub input_bits : (W : WordNetValue) (x : List Bool) (from width : ℕ) → IsWordNet W → length x ≡ W.inputs → from + width ≤ W.inputs
    → map (value_of W.inputs W.tables x) (range_with_len from width) ≡ take width (drop from x)
input_bits W x from width h e few =
    let one = value_law W.inputs W.tables x (IsAcyclic-in_order W.inputs W.tables h.in_order) in
    inputs_bits (value_of W.inputs W.tables x) x from width (λ s low. one.consistent.input s (omega arith)) (omega arith)
