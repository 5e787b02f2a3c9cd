-- The demonstration's net adds: each stage's bits and carries have the number of the words' rest and of the carry into it.
use Rattle.std.proofs.Common.{◌≡◌, ℕ, zero, suc, ◌+◌, ◌-◌, ◌*◌, ◌<◌, ◌≤◌, Bool, true, false, ◌&&◌, List, [], ◌∷◌, ◌++◌, map, length, take, drop, get_or, refl, ap, ◌∙◌, arith, add-one, drop-cons}
use Rattle.std.specs.List.{range_with_len}
use Rattle.std.proofs.lemmas.List.{take_all, length-drop}
use Rattle.semantics.specs.Net.{input_count, IsAcyclic}
use Rattle.semantics.specs.Value.{Assignment, table_value, value_of, outputs_of, IsConsistent}
use Rattle.semantics.specs.Error.{bit_number, number_of, distance}
use Rattle.semantics.proofs.Values.{value_law}
use Rattle.quality_semantics.proofs.Tables.{form_value, and2_value, xor2_value, full_adder_value}
use Rattle.job_semantics.specs.Demo.{sum_signal, carry_signal, sum_form, carry_form, demo_net, Adds}
use Rattle.job_semantics.proofs.DemoTables.{demo_inputs, demo_tables, sum_table_at, carry_table_at}

-- each stage's tables have their values
record FitsDemo (w : ℕ) (v : Assignment) : Type 0 where
  sum : (k : ℕ) → k < w → v (sum_signal w k) ≡ form_value (sum_form w k) v
  carry : (k : ℕ) → k < w → v (carry_signal w k) ≡ form_value (carry_form w k) v

half_adder : (a b : Bool) → distance (bit_number a) (bit_number b) + 2 * bit_number (a && b) ≡ bit_number a + bit_number b
half_adder true true = refl
half_adder true false = refl
half_adder false true = refl
half_adder false false = refl

first_stage : (w : ℕ) (v : Assignment) → 1 ≤ w → FitsDemo w v → bit_number (v (sum_signal w 0)) + 2 * bit_number (v (carry_signal w 0)) ≡ bit_number (v 0) + bit_number (v w)
first_stage w v some fits =
    rw (fits.sum 0 some, fits.carry 0 some, xor2_value v 0 w, and2_value v 0 w) (half_adder (v 0) (v w))

later_stage : (w : ℕ) (v : Assignment) (i : ℕ) → suc i < w → FitsDemo w v
    → bit_number (v (sum_signal w (suc i))) + 2 * bit_number (v (carry_signal w (suc i))) ≡ bit_number (v (suc i)) + bit_number (v (w + suc i)) + bit_number (v (carry_signal w i))
later_stage w v i within fits = rw (fits.sum (suc i) within, fits.carry (suc i) within) (full_adder_value v (suc i) (w + suc i) (carry_signal w i))

-- the bits of the sum from stage i on, and then the last carry
sum_from : ℕ → Assignment → ℕ → ℕ → ℕ
sum_from w v i n = number_of (map v (map (sum_signal w) (range_with_len i n) ++ carry_signal w (w - 1) ∷ []))

-- the number of the n signals from s on
word : Assignment → ℕ → ℕ → ℕ
word v s n = number_of (map v (range_with_len s n))

sum_from_last : (w : ℕ) (v : Assignment) (i : ℕ) → suc i ≡ w → sum_from w v (suc i) 0 ≡ bit_number (v (carry_signal w i))
unfolding sum_from
sum_from_last w v i e = let last : w - 1 ≡ i = omega (arith, e) in rw last (omega arith)

later_stages : (w : ℕ) (v : Assignment) (i n : ℕ) → suc i + n ≡ w → FitsDemo w v → sum_from w v (suc i) n ≡ word v (suc i) n + word v (w + suc i) n + bit_number (v (carry_signal w i))
unfolding sum_from word
later_stages w v i zero e fits = let last = sum_from_last w v i (omega (arith, e)) in omega (arith, last)
later_stages w v i (suc n) e fits =
    let here = later_stage w v i (omega (arith, e)) fits in
    let rest = later_stages w v (suc i) n (omega (arith, e)) fits in
    let next : w + suc i + 1 ≡ w + suc (suc i) = omega arith in
    rw (next, add-one) (omega (arith, here, rest))

stages_number : (w : ℕ) (v : Assignment) → 1 ≤ w → FitsDemo w v → sum_from w v 0 w ≡ word v 0 w + word v w w
unfolding sum_from word
stages_number zero v some fits = absurd (omega arith)
stages_number (suc n) v some fits =
    let here = first_stage (suc n) v some fits in
    let rest = later_stages (suc n) v 0 n (omega arith) fits in
    omega (arith, here, rest)

-- the bits of the input signals
input_bits : (v : Assignment) (x : List Bool) (s n : ℕ) → ((i : ℕ) → i < length x → v i ≡ get_or x i false) → s + n ≤ length x → map v (range_with_len s n) ≡ take n (drop s x)
input_bits v x s zero h few = refl
input_bits v x s (suc n) h few =
    let here = h s (omega (arith, few)) in
    let rest = input_bits v x (s + 1) n h (omega (arith, few)) in
    rw (drop-cons x s false (omega (arith, few)), here, rest, add-one) refl

fits_values : (w : ℕ) (x : List Bool) (v : Assignment) → IsConsistent (input_count (demo_net w)) (demo_net w).tables x v → FitsDemo w v
fits_values w x v h = record {
  sum = λ k within.
      let place : sum_signal w k ≡ input_count (demo_net w) + 2 * k = omega (arith, demo_inputs w) in
      ap v place ∙ h.table (2 * k) (omega (arith, within, demo_tables w)) ∙ ap (λ t. table_value t v) (sum_table_at w k within);
  carry = λ k within.
      let place : carry_signal w k ≡ input_count (demo_net w) + (2 * k + 1) = omega (arith, demo_inputs w) in
      ap v place ∙ h.table (2 * k + 1) (omega (arith, within, demo_tables w)) ∙ ap (λ t. table_value t v) (carry_table_at w k within);
}

demo_values : (w : ℕ) (x : List Bool) → outputs_of (demo_net w) x
    ≡ map (value_of (input_count (demo_net w)) (demo_net w).tables x) (map (sum_signal w) (range_with_len 0 w) ++ carry_signal w (w - 1) ∷ [])
unfolding outputs_of demo_net
demo_values w x = refl

pub demo_adds : (w : ℕ) → 1 ≤ w → IsAcyclic (input_count (demo_net w)) (demo_net w).tables → Adds w (demo_net w)
unfolding sum_from word
demo_adds w some acyclic x width =
    let v : Assignment = value_of (input_count (demo_net w)) (demo_net w).tables x in
    let one = (value_law (input_count (demo_net w)) (demo_net w).tables x acyclic).consistent in
    let inputs : ((i : ℕ) → i < length x → v i ≡ get_or x i false) = λ i low. one.input i (omega (arith, low, width, demo_inputs w)) in
    let first = input_bits v x 0 w inputs (omega (arith, width)) in
    let second = input_bits v x w w inputs (omega (arith, width)) in
    let whole : take w (drop w x) ≡ drop w x = take_all w (drop w x) (omega (arith, length-drop w x, width)) in
    ap number_of (demo_values w x) ∙ stages_number w v some (fits_values w x v one) ∙ rw (first, second, whole) refl
