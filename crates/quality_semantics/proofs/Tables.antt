-- The values of the forms, by computation.
use Rattle.std.proofs.Common.{◌≡◌, ℕ, zero, suc, ◌+◌, ◌*◌, ◌==◌, Bool, true, false, not, ◌||◌, ◌&&◌, if◌then◌else◌, List, [], ◌∷◌, length, replicate, map, max, inl, inr, refl, sym, ◌∙◌, ltb, arith}
use Rattle.std.proofs.lemmas.Bool.{cases_eq, ne_eqb}
use Rattle.semantics.specs.declared.mark.Mark.TheVariants.{Zero, Dash}
use Rattle.semantics.specs.Value.{Assignment, table_value, row_matches}
use Rattle.semantics.specs.Error.{bit_number, number_of, distance}
use Rattle.quality_semantics.specs.Forms.{Form, inv, and2, or2, xor2, xor3, maj, gt, grow, low}
use Rattle.quality_semantics.specs.WordNets.{table_of}

-- the value of a table of a form, wherever it stands
abbrev pub form_value : Form → Assignment → Bool
form_value f v = table_value (table_of 0 f) v

-- three bits as the values of signals 0, 1 and 2
abbrev three : Bool → Bool → Bool → Assignment
three a b c zero = a
three a b c (suc zero) = b
three a b c (suc (suc s)) = c

full_adder : (a b c : Bool) → let v = three a b c in bit_number (form_value (xor3 0 1 2) v) + 2 * bit_number (form_value (maj 0 1 2) v) ≡ bit_number a + bit_number b + bit_number c
full_adder true true true = refl
full_adder true true false = refl
full_adder true false true = refl
full_adder true false false = refl
full_adder false true true = refl
full_adder false true false = refl
full_adder false false true = refl
full_adder false false false = refl

pub full_adder_value : (v : Assignment) (x y c : ℕ) → bit_number (form_value (xor3 x y c) v) + 2 * bit_number (form_value (maj x y c) v) ≡ bit_number (v x) + bit_number (v y) + bit_number (v c)
full_adder_value v x y c = full_adder (v x) (v y) (v c)

comparator : (a b c : Bool) → form_value (gt 0 1 2) (three a b c) ≡ ltb (bit_number b) (bit_number a + bit_number c)
comparator true true true = refl
comparator true true false = refl
comparator true false true = refl
comparator true false false = refl
comparator false true true = refl
comparator false true false = refl
comparator false false true = refl
comparator false false false = refl

pub comparator_value : (v : Assignment) (x y g : ℕ) → form_value (gt x y g) v ≡ ltb (bit_number (v y)) (bit_number (v x) + bit_number (v g))
comparator_value v x y g = comparator (v x) (v y) (v g)

opposite : (a : Bool) → form_value (inv 0) (three a a a) ≡ not a
opposite true = refl
opposite false = refl

pub inv_value : (v : Assignment) (x : ℕ) → form_value (inv x) v ≡ not (v x)
inv_value v x = opposite (v x)

both : (a b : Bool) → form_value (and2 0 1) (three a b b) ≡ (a && b)
both true true = refl
both true false = refl
both false true = refl
both false false = refl

pub and2_value : (v : Assignment) (x y : ℕ) → form_value (and2 x y) v ≡ (v x && v y)
and2_value v x y = both (v x) (v y)

either : (a b : Bool) → form_value (or2 0 1) (three a b b) ≡ (a || b)
either true true = refl
either true false = refl
either false true = refl
either false false = refl

pub or2_value : (v : Assignment) (x y : ℕ) → form_value (or2 x y) v ≡ (v x || v y)
or2_value v x y = either (v x) (v y)

difference : (a b : Bool) → bit_number (form_value (xor2 0 1) (three a b b)) ≡ distance (bit_number a) (bit_number b)
difference true true = refl
difference true false = refl
difference false true = refl
difference false false = refl

pub xor2_value : (v : Assignment) (x y : ℕ) → bit_number (form_value (xor2 x y) v) ≡ distance (bit_number (v x)) (bit_number (v y))
xor2_value v x y = difference (v x) (v y)

grower : (a b c : Bool) → form_value (grow 0 1 2) (three a b c) ≡ (a || (b && c))
grower true true true = refl
grower true true false = refl
grower true false true = refl
grower true false false = refl
grower false true true = refl
grower false true false = refl
grower false false true = refl
grower false false false = refl

pub grow_value : (v : Assignment) (p d q : ℕ) → form_value (grow p d q) v ≡ (v p || (v d && v q))
grow_value v p d q = grower (v p) (v d) (v q)

dashes_match : (v : Assignment) (xs : List ℕ) → row_matches (replicate (length xs) Dash) xs v ≡ true
dashes_match v [] = refl
dashes_match v (x ∷ xs) = dashes_match v xs

none_at : (b : Bool) (n : ℕ) → (not b && (n == 0)) ≡ (bit_number b + 2 * n == 0)
none_at true n = sym (ne_eqb (1 + 2 * n) 0 (λ e. omega (arith, e)))
none_at false n =
    elim (cases_eq n 0) [
      | inl e ↦ rw e refl
      | inr h ↦ ne_eqb n 0 h ∙ sym (ne_eqb (0 + 2 * n) 0 (λ e. h (omega (arith, e))))
    ]

zeros_match : (v : Assignment) (xs : List ℕ) → row_matches (replicate (length xs) Zero) xs v ≡ (number_of (map v xs) == 0)
zeros_match v [] = refl
zeros_match v (x ∷ xs) = let rest = zeros_match v xs in rw rest (none_at (v x) (number_of (map v xs)))

low_bits : (b : Bool) (n : ℕ) → bit_number (if (b && true) || ((not b && (n == 0)) || false) then true else false) + 2 * n ≡ max 1 (bit_number b + 2 * n)
low_bits true n = grind arith
low_bits false zero = refl
low_bits false (suc n) = grind arith

pub low_number : (v : Assignment) (x : ℕ) (xs : List ℕ) → bit_number (form_value (low x xs) v) + 2 * number_of (map v xs) ≡ max 1 (number_of (map v (x ∷ xs)))
low_number v x xs = rw (dashes_match v xs, zeros_match v xs) (low_bits (v x) (number_of (map v xs)))
