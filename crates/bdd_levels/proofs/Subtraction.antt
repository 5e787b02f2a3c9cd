-- A subtraction says how far two words are apart, and a signal says whether that exceeds a level.
use Rattle.std.proofs.Common.{◌≡◌, ℕ, zero, suc, ◌+◌, ◌-◌, ◌*◌, ◌^◌, ◌<◌, ◌≤◌, ltb, Bool, true, false, cond, List, [], ◌∷◌, ◌++◌, length, get_or, take, map, refl, ap, sym, subst, ◌∙◌, arith}
use Rattle.std.specs.Prelude.{ℤ, pos, negsuc, ◌+ℤ◌, ◌-ℤ◌, unsigned_abs}
use Rattle.std.proofs.Math.Nat.{pow-succ', mul_comm, mul-sub, mul-add}
use Rattle.std.proofs.lemmas.Int.{ints}
use Rattle.std.proofs.lemmas.Bool.Decides.{nat_tests}
use Rattle.std.proofs.lemmas.List.{take_more, take_all, length-take, length-map, length-set}
use Rattle.std.proofs.lemmas.List.Elements.{All-push, All-nil}
use Rattle.semantics.specs.Value.{Assignment}
use Rattle.semantics.specs.declared.metric.Kind.TheVariants.{Abs, Sabs}
use Rattle.semantics.specs.declared.mark.Mark.TheVariants.{Zero, One, Dash}
use Rattle.semantics.specs.Error.{bit_number, signed_number_of, distance, word_error}
use Rattle.semantics.proofs.Vectors.{number_of-lt_width}
use Rattle.quality_semantics.specs.Forms.{Form, form, xor2}
use Rattle.quality_semantics.specs.WordNets.{WordNetValue, signals, appended, BeginsWith, AreSignalsOf}
use Rattle.quality_semantics.specs.Buses.{flip_top}
use Rattle.quality_semantics.specs.Laws.{Fits, number}
use Rattle.quality_semantics.proofs.Tables.{form_value}
use Rattle.quality_semantics.proofs.Growth.{begins_itself, begins_after as begins_through, begins_appended, signals_kept, Fits-earlier, Fits-newest}
use Rattle.bus_nets.specs.Numbers.{HasNumber, HasBit, HasFlipped}
use Rattle.bdd_levels.specs.Subtraction.{IsPlaceOf, IsDifferenceOf}
use Rattle.bdd_levels.specs.Words.{SaysWordExcess}

pub begins_after : (W V U : WordNetValue) → BeginsWith U V → BeginsWith V W → BeginsWith U W
begins_after = begins_through

-- ---- one place

abbrev pub choice : ℕ → ℕ → ℕ → Form
choice c a b = form (c ∷ a ∷ b ∷ []) ((One ∷ One ∷ Dash ∷ []) ∷ (Zero ∷ Dash ∷ One ∷ []) ∷ [])

-- three bits as the values of signals 0, 1 and 2
abbrev three : Bool → Bool → Bool → Assignment
three a b c zero = a
three a b c (suc zero) = b
three a b c (suc (suc s)) = c

chosen : (c a b : Bool) → form_value (choice 0 1 2) (three c a b) ≡ cond c a b
chosen true true true = refl
chosen true true false = refl
chosen true false true = refl
chosen true false false = refl
chosen false true true = refl
chosen false true false = refl
chosen false false true = refl
chosen false false false = refl

pub choice_value : (v : Assignment) (c a b : ℕ) → form_value (choice c a b) v ≡ cond (v c) (v a) (v b)
choice_value v c a b = chosen (v c) (v a) (v b)

differs : Bool → Bool → Bool
differs a b = form_value (xor2 0 1) (three a b b)

place_bits : (a b c : Bool) → bit_number a + 2 * bit_number (cond (differs a b) b c) ≡ bit_number b + bit_number c + bit_number (differs (differs a b) c)
unfolding differs
place_bits true true true = refl
place_bits true true false = refl
place_bits true false true = refl
place_bits true false false = refl
place_bits false true true = refl
place_bits false true false = refl
place_bits false false true = refl
place_bits false false false = refl

differs_value : (v : Assignment) (a b : ℕ) → form_value (xor2 a b) v ≡ differs (v a) (v b)
unfolding differs
differs_value v a b = refl

place_value : (a b c t s d : Bool) → t ≡ differs a b → s ≡ differs t c → d ≡ cond t b c → bit_number a + 2 * bit_number d ≡ bit_number b + bit_number c + bit_number s
place_value a b c t s d et es ed = rw (ed, es, et) (place_bits a b c)

pub place_made : (W T S V : WordNetValue) (a b c t s d : ℕ) → T ≡ appended W (xor2 a b) → t ≡ signals W → S ≡ appended T (xor2 t c) → s ≡ signals T → V ≡ appended S (choice t b c) → d ≡ signals S
    → IsPlaceOf V (record { minuend = a; subtrahend = b; borrow_in = c; difference = s; borrow_out = d })
place_made W T S V a b c t s d hT ht hS hs hV hd = record {
  at = λ v fits.
      let at_V : Fits v (appended S (choice t b c)) = subst (Fits v) hV fits in
      let at_S : Fits v (appended T (xor2 t c)) = subst (Fits v) hS (Fits-earlier v _ S (begins_appended S (choice t b c)) at_V) in
      let at_T : Fits v (appended W (xor2 a b)) = subst (Fits v) hT (Fits-earlier v _ T (begins_appended T (xor2 t c)) at_S) in
      place_value (v a) (v b) (v c) (v t) (v s) (v d) (ap v ht ∙ Fits-newest v W (xor2 a b) at_T ∙ differs_value v a b) (ap v hs ∙ Fits-newest v T (xor2 t c) at_S ∙ differs_value v t c)
      (ap v hd ∙ Fits-newest v S (choice t b c) at_V ∙ choice_value v t b c);
}

-- ---- all places

-- the first i places of a subtraction were appended
pub record Subtracting (start now : WordNetValue) (x y bits : List ℕ) (borrow i : ℕ) : Type 0 where
  pub begins : BeginsWith now start
  pub more : signals start ≤ signals now
  pub borrow_in : borrow < signals now
  pub bits_in : AreSignalsOf now bits
  pub width : length bits ≡ i
  pub at : (v : Assignment) → Fits v now → number v (take i x) + 2 ^ i * bit_number (v borrow) ≡ number v (take i y) + number v bits

twice : (b : Bool) (k m : ℕ) → m ≡ 2 * k → m * bit_number b ≡ 2 * (k * bit_number b)
twice false k m is = omega arith
twice true k m is = omega (arith, is)

number_push : (v : Assignment) (xs : List ℕ) (s : ℕ) → number v (xs ++ s ∷ []) ≡ number v xs + 2 ^ length xs * bit_number (v s)
number_push v [] s = omega arith
number_push v (x ∷ xs) s = omega (arith, number_push v xs s, twice (v s) (2 ^ length xs) (2 ^ suc (length xs)) (pow-succ' 2 (length xs)))

number_more : (v : Assignment) (x : List ℕ) (i a : ℕ) → i < length x → a ≡ get_or x i a → number v (take (i + 1) x) ≡ number v (take i x) + 2 ^ i * bit_number (v a)
number_more v x i a within read =
    let long : length (take i x) ≡ i = length-take-within i x within in
    ap (number v) (take_more x i a within) ∙ ap (λ b. number v (take i x ++ b ∷ [])) (sym read) ∙ number_push v (take i x) a ∙ ap (λ n. number v (take i x) + 2 ^ n * bit_number (v a)) long
  where
    length-take-within : (i : ℕ) (x : List ℕ) → i < length x → length (take i x) ≡ i
    length-take-within i x within = omega (arith, length-take i x, within)

place_sum : (p q n m k : ℕ) (a b c s d : Bool) → q ≡ 2 * p → n + p * bit_number c ≡ m + k → bit_number a + 2 * bit_number d ≡ bit_number b + bit_number c + bit_number s
    → n + p * bit_number a + q * bit_number d ≡ m + p * bit_number b + (k + p * bit_number s)
place_sum p q n m k a b c s d double sum here =
    let scaled : p * (bit_number a + 2 * bit_number d) ≡ p * (bit_number b + bit_number c + bit_number s) = ap (λ t. p * t) here in
    omega (
      arith,
      sum,
      scaled,
      twice d p q double,
      mul-add p (bit_number a) (2 * bit_number d),
      mul-add p (bit_number d) (bit_number d),
      mul-add p (bit_number b + bit_number c) (bit_number s),
      mul-add p (bit_number b) (bit_number c),
    )

pub subtracting_none : (W : WordNetValue) (x y : List ℕ) → W.inputs < signals W → Subtracting W W x y [] W.inputs 0
subtracting_none W x y within = record {
  begins = begins_itself W;
  more = omega arith;
  borrow_in = within;
  bits_in = All-nil _;
  width = refl;
  at = λ v fits. rw (fits.zero) refl;
}

pub subtracting_more : (start now after : WordNetValue) (x y bits bits' : List ℕ) (borrow i a b s d : ℕ) → Subtracting start now x y bits borrow i → i < length x → length x ≡ length y
    → a ≡ get_or x i a → b ≡ get_or y i b
    → IsPlaceOf after (record { minuend = a; subtrahend = b; borrow_in = borrow; difference = s; borrow_out = d }) → bits' ≡ bits ++ s ∷ [] → s < signals after → d < signals after
    → signals now ≤ signals after → BeginsWith after now → Subtracting start after x y bits' d (i + 1)
subtracting_more start now after x y bits bits' borrow i a b s d h within same ea eb place pushed s_in d_in more begins = record {
  begins = begins_through start now after begins h.begins;
  more = omega (arith, h.more, more);
  borrow_in = d_in;
  bits_in = rw pushed (All-push (λ t. t < signals after) bits s (signals_kept now after bits begins h.bits_in) s_in);
  width = ap length pushed ∙ omega (arith, length_push bits s, h.width);
  at = λ v fits.
      let before = h.at v (Fits-earlier v after now begins fits) in
      let power : 2 ^ (i + 1) ≡ 2 * 2 ^ i = omega (arith, pow-succ' 2 i, next_power i) in
      let pushed_number : number v bits' ≡ number v bits + 2 ^ i * bit_number (v s) = ap (number v) pushed ∙ number_push v bits s ∙ ap (λ n. number v bits + 2 ^ n * bit_number (v s)) h.width in
      rw (number_more v x i a within ea, number_more v y i b (omega (arith, within, same)) eb, pushed_number)
      (place_sum (2 ^ i) (2 ^ (i + 1)) (number v (take i x)) (number v (take i y)) (number v bits) (v a) (v b) (v borrow) (v s) (v d) power before (place.at v fits));
}
  where
    next_power : (i : ℕ) → 2 ^ (i + 1) ≡ 2 ^ suc i
    next_power i = ap (λ n. 2 ^ n) (omega arith)

    length_push : (xs : List ℕ) (y : ℕ) → length (xs ++ y ∷ []) ≡ length xs + 1
    length_push [] y = refl
    length_push (x ∷ xs) y = omega (arith, length_push xs y)

pub difference_made : (start now : WordNetValue) (x y bits : List ℕ) (borrow i : ℕ) → Subtracting start now x y bits borrow i → i ≡ length x → length x ≡ length y → IsDifferenceOf now x y bits borrow
difference_made start now x y bits borrow i h end same = record {
  width = h.width ∙ end;
  at = λ v fits.
      let first : take i x ≡ x = take_all i x (omega (arith, end)) in
      let second : take i y ≡ y = take_all i y (omega (arith, end, same)) in
      let sum = h.at v fits in
      subst (λ (n : ℕ). number v x + 2 ^ n * bit_number (v borrow) ≡ number v y + number v bits) end
      (subst (λ (l : List ℕ). number v x + 2 ^ i * bit_number (v borrow) ≡ number v l + number v bits) second
      (subst (λ (l : List ℕ). number v l + 2 ^ i * bit_number (v borrow) ≡ number v (take i y) + number v bits) first sum));
}

-- ---- how far the words are apart

less_both : (z a b : ℕ) → ltb (z + a) b ≡ ltb z (b - a)
less_both z a b = grind (arith, nat_tests)

far_numbers : (b u o : Bool) (q p x y d z : ℕ) → x + p * bit_number b ≡ y + d → d < p → o ≡ ltb z (q * d) → u ≡ ltb (z + q * d) (q * p) → cond b u o ≡ ltb z (distance x y * q)
far_numbers false u o q p x y d z sum few over under =
    let apart : distance x y ≡ d = omega (arith, sum) in
    over ∙ ap (ltb z) (mul_comm q d ∙ ap (λ n. n * q) (sym apart))
far_numbers true u o q p x y d z sum few over under =
    let apart : distance x y ≡ p - d = omega (arith, sum, few) in
    under ∙ less_both z (q * d) (q * p) ∙ ap (ltb z) (sym (mul-sub q p d) ∙ mul_comm q (p - d) ∙ ap (λ n. n * q) (sym apart))

pub short_made : (P W S V : WordNetValue) (x y p whole sum : List ℕ) (w q s : ℕ) → HasNumber P p (λ v. 2 ^ w) → HasNumber W whole (λ v. q * number v p)
    → HasNumber S sum (λ v. number v x + number v y) → BeginsWith W P → BeginsWith S W
    → BeginsWith V S → HasBit V s (λ v. ltb (number v sum) (number v whole)) → HasBit V s (λ v. ltb (number v x + number v y) (q * 2 ^ w))
short_made P W S V x y p whole sum w q s hp hw hs to_P to_W to_S hb = record {
  at = λ v fits.
      let at_S = Fits-earlier v V S to_S fits in
      let at_W = Fits-earlier v S W to_W at_S in
      let at_P = Fits-earlier v W P to_P at_W in
      hb.at v fits ∙ rw (hs.at v at_S, hw.at v at_W, hp.at v at_P) refl;
}

pub far_made : (D S O U V : WordNetValue) (x y d t z : List ℕ) (b o u s w q : ℕ) → length x ≡ w → IsDifferenceOf D x y d b → HasNumber S t (λ v. q * number v d) → BeginsWith S D
    → HasBit O o (λ v. ltb (number v z) (number v t)) → BeginsWith O S
    → HasBit U u (λ v. ltb (number v z + number v t) (q * 2 ^ w)) → BeginsWith U O → V ≡ appended U (choice b u o) → s ≡ signals U
    → HasBit V s (λ v. ltb (number v z) (distance (number v x) (number v y) * q))
far_made D S O U V x y d t z b o u s w q width is scaled to_D over to_S under to_O hV hs = record {
  at = λ v fits.
      let at_V : Fits v (appended U (choice b u o)) = subst (Fits v) hV fits in
      let at_U = Fits-earlier v _ U (begins_appended U (choice b u o)) at_V in
      let at_O = Fits-earlier v U O to_O at_U in
      let at_S = Fits-earlier v O S to_S at_O in
      let at_D = Fits-earlier v S D to_D at_S in
      let few : number v d < 2 ^ w = number_of-lt_width w (map v d) (length-map d v ∙ is.width ∙ width) in
      let sum = subst (λ (n : ℕ). number v x + 2 ^ n * bit_number (v b) ≡ number v y + number v d) width (is.at v at_D) in
      let times : number v t ≡ q * number v d = scaled.at v at_S in
      ap v hs ∙ Fits-newest v U (choice b u o) at_V ∙ choice_value v b u o
      ∙ far_numbers (v b) (v u) (v o) q (2 ^ w) (number v x) (number v y) (number v d) (number v z) sum few (over.at v at_O ∙ ap (ltb (number v z)) times)
      (under.at v at_U ∙ ap (λ n. ltb (number v z + n) (q * 2 ^ w)) times);
}

-- ---- the errors

once : (n : ℕ) → n * 1 ≡ n
once n = omega arith

pub absolute_says : (k : ℕ) (W V : WordNetValue) (e a z : List ℕ) (s : ℕ) → HasNumber W z (λ v. k) → BeginsWith V W → HasBit V s (λ v. ltb (number v z) (distance (number v e) (number v a) * 1))
    → SaysWordExcess Abs k (record { exact = e; approximate = a }) V s
absolute_says k W V e a z s level begins far = record {
  at = λ v fits.
      far.at v fits ∙ ap (λ n. ltb n (distance (number v e) (number v a) * 1)) (level.at v (Fits-earlier v V W begins fits)) ∙ ap (ltb k) (once (distance (number v e) (number v a)));
}

signed_apart : (z i j : ℤ) (n m h : ℕ) → z ≡ i -ℤ j → pos n ≡ i +ℤ pos h → pos m ≡ j +ℤ pos h → unsigned_abs z ≡ distance n m
signed_apart (pos t) i j n m h is first second = omega (arith, ints, is, first, second)
signed_apart (negsuc t) i j n m h is first second = omega (arith, ints, is, first, second)

pub signed_says : (k : ℕ) (E A V : WordNetValue) (x y e a z : List ℕ) (s : ℕ) → length x ≡ length y → HasFlipped E e x → BeginsWith A E → HasFlipped A a y → HasNumber A z (λ v. k) → BeginsWith V A
    → HasBit V s (λ v. ltb (number v z) (distance (number v e) (number v a) * 1)) → SaysWordExcess Sabs k (record { exact = x; approximate = y }) V s
signed_says k E A V x y e a z s widths first to_E second level to_A far = record {
  at = λ v fits.
      let at_A = Fits-earlier v V A to_A fits in
      let half_e : pos (number v e) ≡ signed_number_of (map v x) +ℤ pos (2 ^ (length x - 1)) = first.at v (Fits-earlier v A E to_E at_A) in
      let half_a : pos (number v a) ≡ signed_number_of (map v y) +ℤ pos (2 ^ (length x - 1)) = second.at v at_A ∙ ap (λ n. signed_number_of (map v y) +ℤ pos (2 ^ (n - 1))) (sym widths) in
      let i = signed_number_of (map v x) in
      let j = signed_number_of (map v y) in
      let apart : word_error Sabs (map v x) (map v y) ≡ distance (number v e) (number v a) = signed_apart (i -ℤ j) i j (number v e) (number v a) (2 ^ (length x - 1)) refl half_e half_a in
      far.at v fits ∙ ap (λ n. ltb n (distance (number v e) (number v a) * 1)) (level.at v at_A) ∙ ap (ltb k) (once (distance (number v e) (number v a)) ∙ sym apart);
}

pub flipped_width : (W : WordNetValue) (x bus : List ℕ) → bus ≡ (flip_top W x).bus → length bus ≡ length x
flipped_width W x bus is = ap length is ∙ length-set x (length x - 1) (signals W)
