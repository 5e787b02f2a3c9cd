-- Numbers in wide words: sums, and products with a constant, bit by bit.
use Rattle.std.proofs.Common.{◌≡◌, ℕ, zero, suc, ◌+◌, ◌*◌, ◌/◌, ◌%◌, ◌^◌, ◌<◌, ◌≤◌, Bool, true, false, ◌==◌, List, [], ◌∷◌, length, get_or, set, refl, ap, sym, ◌∙◌, arith, add-one, subst}
use Rattle.std.proofs.Common.{get_or-set_same, get_or-set_other}
use Rattle.std.proofs.Math.Nat.{pow-succ', mul-le-mul}
use Rattle.std.proofs.lemmas.Nat.{pow-add}
use Rattle.semantics.specs.Error.{bit_number}
use Rattle.lane_nets.specs.Words.{word_bit}
use Rattle.lane_nets.specs.Numbers.{wide_bit, wide_number, place_value, number_below, sum_of, carry_of}
use Rattle.lane_nets.proofs.WordBits.{zero_bit}
use Rattle.lane_nets.proofs.Comparing.{digit}

-- ---- what a bit counts

place_first : (b : Bool) → place_value b 0 ≡ bit_number b
place_first false = refl
place_first true = refl

place_next : (b : Bool) (i : ℕ) → place_value b (suc i) ≡ 2 * place_value b i
place_next false i = refl
place_next true i = pow-succ' 2 i

place_shifted : (b : Bool) (from i : ℕ) → place_value b (from + i) ≡ 2 ^ from * place_value b i
place_shifted false from i = omega arith
place_shifted true from i = pow-add 2 from i

added_places : (x y c : Bool) (i : ℕ) → place_value x i + place_value y i + place_value c i ≡ place_value (sum_of x y c) i + place_value (carry_of x y c) (suc i)
added_places false false false i = omega arith
added_places false false true i = omega arith
added_places false true false i = omega arith
added_places false true true i = omega (arith, pow-succ' 2 i)
added_places true false false i = omega arith
added_places true false true i = omega (arith, pow-succ' 2 i)
added_places true true false i = omega (arith, pow-succ' 2 i)
added_places true true true i = omega (arith, pow-succ' 2 i)

-- ---- the number of the first bits

pub below_same : (f g : ℕ → Bool) (n : ℕ) → ((i : ℕ) → i < n → f i ≡ g i) → number_below f n ≡ number_below g n
below_same f g zero same = refl
below_same f g (suc n) same = (λ i. below_same f g n (λ k low. same k (omega (arith, low))) i + place_value (same n (omega arith) i) n)

pub below_more : (f : ℕ → Bool) (n : ℕ) → number_below f (n + 1) ≡ number_below f n + place_value (f n) n
below_more f n = ap (number_below f) (add-one n)

below_first : (f : ℕ → Bool) (n : ℕ) → number_below f (suc n) ≡ bit_number (f 0) + 2 * number_below (λ i. f (suc i)) n
below_first f zero = omega (arith, place_first (f 0))
below_first f (suc n) = omega (arith, below_first f n, place_next (f (suc n)) n)

pub number_is : (wides : List (List ℕ)) (j b : ℕ) → wide_number wides j b ≡ number_below (wide_bit wides j b) (length wides)
number_is [] j b = refl
number_is (wide ∷ wides) j b = omega (arith, number_is wides j b, below_first (wide_bit (wide ∷ wides) j b) (length wides))

-- ---- one wide word is set

bit_set : (wides : List (List ℕ)) (i j b : ℕ) (wide : List ℕ) → i < length wides → wide_bit (set wides i wide) j b i ≡ word_bit (get_or wide j 0) b
bit_set wides i j b wide low = ap (λ (w : List ℕ). word_bit (get_or w j 0) b) (get_or-set_same wides i wide [] low)

bit_kept : (wides : List (List ℕ)) (i j b k : ℕ) (wide : List ℕ) → k < i → wide_bit (set wides i wide) j b k ≡ wide_bit wides j b k
bit_kept wides i j b k wide less = ap (λ (w : List ℕ). word_bit (get_or w j 0) b) (get_or-set_other wides i k wide [] (λ e. omega (arith, e, less)))

pub below_set : (wides : List (List ℕ)) (i j b : ℕ) (wide : List ℕ) → i < length wides
    → number_below (wide_bit (set wides i wide) j b) (i + 1) ≡ number_below (wide_bit wides j b) i + place_value (word_bit (get_or wide j 0) b) i
below_set wides i j b wide low =
    below_more (wide_bit (set wides i wide) j b) i
    ∙ (λ t. below_same (wide_bit (set wides i wide) j b) (wide_bit wides j b) i (λ k less. bit_kept wides i j b k wide less) t + place_value (bit_set wides i j b wide low t) i)

-- one more word is 0
pub below_cleared : (wides : List (List ℕ)) (i j b : ℕ) (wide : List ℕ) → i < length wides → get_or wide j 0 ≡ 0
    → number_below (wide_bit (set wides i wide) j b) (i + 1) ≡ number_below (wide_bit wides j b) i
below_cleared wides i j b wide low is =
    let none : place_value (word_bit (get_or wide j 0) b) i ≡ 0 = ap (λ w. place_value (word_bit w b) i) is ∙ ap (λ t. place_value t i) (zero_bit b) in
    omega (arith, below_set wides i j b wide low, none)

-- ---- a number is added at a place

module _ (old now number : List (List ℕ)) (from i j b : ℕ) (c : Bool)
    (before : number_below (wide_bit now j b) (from + i) + place_value c (from + i) ≡ number_below (wide_bit old j b) (from + i) + 2 ^ from * number_below (wide_bit number j b) i) where
  pub add_more : (sum carry : List ℕ) → from + i < length now → get_or now (from + i) [] ≡ get_or old (from + i) []
      → word_bit (get_or sum j 0) b ≡ sum_of (wide_bit now j b (from + i)) (wide_bit number j b i) c
      → word_bit (get_or carry j 0) b ≡ carry_of (wide_bit now j b (from + i)) (wide_bit number j b i) c
      → number_below (wide_bit (set now (from + i) sum) j b) (from + (i + 1)) + place_value (word_bit (get_or carry j 0) b) (from + (i + 1))
      ≡ number_below (wide_bit old j b) (from + (i + 1)) + 2 ^ from * number_below (wide_bit number j b) (i + 1)
  add_more sum carry room kept sum_is carry_is =
      let p : ℕ = from + i in
      let x : Bool = wide_bit now j b p in
      let y : Bool = wide_bit number j b i in
      let next : from + (i + 1) ≡ p + 1 = omega arith in
      let after : number_below (wide_bit (set now p sum) j b) (from + (i + 1)) ≡ number_below (wide_bit now j b) p + place_value (sum_of x y c) p =
      ap (number_below (wide_bit (set now p sum) j b)) next ∙ below_set now p j b sum room ∙ ap (λ t. number_below (wide_bit now j b) p + place_value t p) sum_is in
      let carried : place_value (word_bit (get_or carry j 0) b) (from + (i + 1)) ≡ place_value (carry_of x y c) (suc p) = (λ t. place_value (carry_is t) ((next ∙ add-one p) t)) in
      let first : number_below (wide_bit old j b) (from + (i + 1)) ≡ number_below (wide_bit old j b) p + place_value x p =
      ap (number_below (wide_bit old j b)) next ∙ below_more (wide_bit old j b) p ∙ ap (λ (w : List ℕ). number_below (wide_bit old j b) p + place_value (word_bit (get_or w j 0) b) p) (sym kept) in
      let second : 2 ^ from * number_below (wide_bit number j b) (i + 1) ≡ 2 ^ from * number_below (wide_bit number j b) i + place_value y p =
      ap (λ n. 2 ^ from * n) (below_more (wide_bit number j b) i) ∙ split (2 ^ from) (number_below (wide_bit number j b) i) (place_value y i)
      ∙ ap (λ n. 2 ^ from * number_below (wide_bit number j b) i + n) (sym (place_shifted y from i)) in
      omega (arith, after, carried, first, second, before, added_places x y c p)
    where
      split : (k m n : ℕ) → k * (m + n) ≡ k * m + k * n
      split k m n = omega arith

  -- all bits are added, and the carry stands behind them
  pub add_end : (carry : List ℕ) (size : ℕ) → length number ≡ size → size ≡ i → from + size < length now → c ≡ word_bit (get_or carry j 0) b
      → number_below (wide_bit (set now (from + size) carry) j b) (from + size + 1) ≡ number_below (wide_bit old j b) (from + size) + 2 ^ from * wide_number number j b
  add_end carry size all at room is =
      let here : number_below (wide_bit now j b) (from + size) + place_value c (from + size) ≡ number_below (wide_bit old j b) (from + size) + 2 ^ from * number_below (wide_bit number j b) size =
      subst
      (λ n. number_below (wide_bit now j b) (from + n) + place_value c (from + n) ≡ number_below (wide_bit old j b) (from + n) + 2 ^ from * number_below (wide_bit number j b) n) (sym at) before in
      let whole : 2 ^ from * wide_number number j b ≡ 2 ^ from * number_below (wide_bit number j b) size =
      ap (λ n. 2 ^ from * n) (number_is number j b ∙ ap (number_below (wide_bit number j b)) all) in
      below_set now (from + size) j b carry room ∙ ap (λ t. number_below (wide_bit now j b) (from + size) + place_value t (from + size)) (sym is) ∙ here
      ∙ ap (λ n. number_below (wide_bit old j b) (from + size) + n) (sym whole)

-- ---- a product, digit by digit of the constant

half_of : (rest : ℕ) → rest ≡ 2 * (rest / 2) + bit_number (rest % 2 == 1)
half_of rest = omega (arith, digit (rest % 2) (omega arith))

pub product_more : (constant rest n from before after : ℕ) → after ≡ before + 2 ^ from * (bit_number (rest % 2 == 1) * n) → before + 2 ^ from * (rest * n) ≡ constant * n
    → after + 2 ^ (from + 1) * ((rest / 2) * n) ≡ constant * n
product_more constant rest n from before after more is =
    let half : 2 ^ from * (rest * n) ≡ 2 ^ from * ((2 * (rest / 2) + bit_number (rest % 2 == 1)) * n) = ap (λ r. 2 ^ from * (r * n)) (half_of rest) in
    let power : 2 ^ (from + 1) ≡ 2 * 2 ^ from = ap (λ k. 2 ^ k) (add-one from) ∙ pow-succ' 2 from in
    let whole : 2 ^ (from + 1) * ((rest / 2) * n) ≡ 2 * 2 ^ from * ((rest / 2) * n) = ap (λ p. p * ((rest / 2) * n)) power in
    let parts : 2 ^ from * ((2 * (rest / 2) + bit_number (rest % 2 == 1)) * n) ≡ 2 * 2 ^ from * ((rest / 2) * n) + 2 ^ from * (bit_number (rest % 2 == 1) * n) =
    spread (2 ^ from) (rest / 2) (bit_number (rest % 2 == 1)) n in
    omega (arith, more, is, half, whole, parts)
  where
    spread : (p r d k : ℕ) → p * ((2 * r + d) * k) ≡ 2 * p * (r * k) + p * (d * k)
    spread p r d k = omega arith

-- the digits that are left are few
pub rest_more : (constant rest from : ℕ) → 2 ^ from * rest ≤ constant → 2 ^ (from + 1) * (rest / 2) ≤ constant
rest_more constant rest from most =
    let power : 2 ^ (from + 1) ≡ 2 * 2 ^ from = ap (λ k. 2 ^ k) (add-one from) ∙ pow-succ' 2 from in
    let whole : 2 ^ (from + 1) * (rest / 2) ≡ 2 * 2 ^ from * (rest / 2) = ap (λ p. p * (rest / 2)) power in
    let turned_round : 2 * 2 ^ from * (rest / 2) ≡ 2 ^ from * (2 * (rest / 2)) = moved (2 ^ from) (rest / 2) in
    let less : 2 ^ from * (2 * (rest / 2)) ≤ 2 ^ from * rest = mul-le-mul (omega arith) (omega arith) in
    omega (arith, whole, turned_round, less, most)
  where
    moved : (p r : ℕ) → 2 * p * r ≡ p * (2 * r)
    moved p r = omega arith

pub rest_none : (constant rest width : ℕ) → constant < 2 ^ width → 2 ^ width * rest ≤ constant → rest ≡ 0
rest_none constant zero width few most = refl
rest_none constant (suc rest) width few most =
    let some : 2 ^ width * 1 ≤ 2 ^ width * suc rest = mul-le-mul (omega arith) (omega arith) in
    absurd (omega (arith, some, few, most))

-- all digits are taken
pub product_all : (constant rest n from whole : ℕ) → rest ≡ 0 → whole + 2 ^ from * (rest * n) ≡ constant * n → whole ≡ constant * n
product_all constant rest n from whole none is =
    let nothing : 2 ^ from * (rest * n) ≡ 0 = ap (λ r. 2 ^ from * (r * n)) none ∙ cleared (2 ^ from) n in
    omega (arith, nothing, is)
  where
    cleared : (p k : ℕ) → p * (0 * k) ≡ 0
    cleared p k = omega arith

-- nothing is added yet
pub add_start : (total number : List (List ℕ)) (from j b carry : ℕ) → carry ≡ 0
    → number_below (wide_bit total j b) (from + 0) + place_value (word_bit carry b) (from + 0) ≡ number_below (wide_bit total j b) (from + 0) + 2 ^ from * number_below (wide_bit number j b) 0
add_start total number from j b carry is =
    let none : place_value (word_bit carry b) (from + 0) ≡ 0 = ap (λ w. place_value (word_bit w b) (from + 0)) is ∙ ap (λ t. place_value t (from + 0)) (zero_bit b) in
    omega (arith, none)

pub product_start : (constant n before : ℕ) → before ≡ 0 → before + 2 ^ 0 * (constant * n) ≡ constant * n
product_start constant n before is = omega (arith, is)

-- ---- one digit of the constant

pub digit_one : (one : Bool) (before p n : ℕ) → one ≡ true → before + p * n ≡ before + p * (bit_number one * n)
digit_one true before p n is = omega arith
digit_one false before p n is = absurd cc

pub digit_none : (one : Bool) (before p n : ℕ) → one ≡ false → before ≡ before + p * (bit_number one * n)
digit_none false before p n is = omega arith
digit_none true before p n is = absurd cc
