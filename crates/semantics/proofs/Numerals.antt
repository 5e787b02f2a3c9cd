-- Decimal numbers below 10 ^ 64: the word that is written is the one that reads as the number.
use Rattle.std.proofs.Common.{◌≡◌, ◌≢◌, ℕ, ◌+◌, ◌-◌, ◌*◌, ◌/◌, ◌%◌, ◌^◌, ◌<◌, ◌≤◌, true, ◌==◌, not, ◌&&◌, [], ◌∷◌, ◌++◌, length, get_or, fold, decimal, refl, ap, sym, subst, ◌∙◌, append_assoc}
use Rattle.std.proofs.Common.{append-nil, lt_of_le_of_lt, leb, arith}
use Rattle.std.specs.List.{list_all}
use Rattle.std.proofs.lemmas.Bool.{false≢true, leb-true, le-leb, ne_eqb, eqb-false, not-true, and_parts, and_from, not_from_false}
use Rattle.std.proofs.lemmas.List.{length_push, get_or_append_left}
use Rattle.std.proofs.lemmas.List.Sums.{fold_push}
use Rattle.std.proofs.lemmas.List.Recursion.{and_push}
use Rattle.std.proofs.lemmas.Fmt.{decimal_by_steps_wide, decimal_digit, decimal_step_wide}
use Rattle.semantics.specs.Texts.{Bytes}
use Rattle.semantics.specs.Decimal.{is_digit, digits_number, is_decimal}

-- a word of digits that has no leading zero, with its number
record IsNumber (n : ℕ) (word : Bytes) : Type 0 where
  value : digits_number word ≡ n
  digits : list_all is_digit word ≡ true
  some : 0 < length word
  first : 0 < n → get_or word 0 48 ≢ 48
  large : 1 < length word → 10 ≤ n

digit_range : (c : ℕ) → is_digit c ≡ true → (48 ≤ c) × (c ≤ 57)
digit_range c h = let parts = and_parts (leb 48 c) (leb c 57) h in (leb-true 48 c parts.0, leb-true c 57 parts.1)

is_digit_from : (d : ℕ) → d < 10 → is_digit (48 + d) ≡ true
is_digit_from d h = and_from (leb 48 (48 + d)) (leb (48 + d) 57) (le-leb 48 (48 + d) (omega arith)) (le-leb (48 + d) 57 (omega arith))

digits_push : (word : Bytes) (c : ℕ) → list_all is_digit (word ++ c ∷ []) ≡ (list_all is_digit word && is_digit c)
digits_push = and_push (list_all is_digit) is_digit refl (λ _ _. refl)

number_push : (word : Bytes) (c : ℕ) → digits_number (word ++ c ∷ []) ≡ 10 * digits_number word + (c - 48)
number_push word c = fold_push (λ n d. 10 * n + (d - 48)) 0 word c

number_one : (n : ℕ) → n < 10 → IsNumber n ((48 + n) ∷ [])
number_one n h = record {
  value = omega arith;
  digits = and_from (is_digit (48 + n)) true (is_digit_from n h) refl;
  some = omega arith;
  first = λ p. omega arith;
  large = λ p. omega arith;
}

number_more : (n : ℕ) (word : Bytes) → 10 ≤ n → IsNumber (n / 10) word → IsNumber n (word ++ (48 + n % 10) ∷ [])
number_more n word h w = record {
  value = let pushed = number_push word (48 + n % 10) in omega (arith, pushed, w.value);
  digits = digits_push word (48 + n % 10) ∙ and_from (list_all is_digit word) (is_digit (48 + n % 10)) w.digits (is_digit_from (n % 10) (omega arith));
  some = omega (arith, length_push word (48 + n % 10), w.some);
  first = λ p. let same = get_or_append_left word ((48 + n % 10) ∷ []) 48 0 w.some in rw same (w.first (omega arith));
  large = λ p. h;
}

number_decimal : (n : ℕ) → n < 10 ^ 64 → IsNumber n (decimal n)
number_decimal = decimal_by_steps_wide IsNumber number_one number_more

is_decimal_from : (word : Bytes) → list_all is_digit word ≡ true → 0 < length word → (1 < length word → get_or word 0 48 ≢ 48) → is_decimal word ≡ true
is_decimal_from [] h some first = absurd (omega arith)
is_decimal_from (c ∷ []) h some first = (and_parts (is_digit c) true h).0
is_decimal_from (c ∷ d ∷ cs) h some first =
    and_from (not (c == 48)) (list_all is_digit (c ∷ d ∷ cs)) (not_from_false (c == 48) (ne_eqb c 48 (first (omega arith)))) h

pub digits_number-decimal : (n : ℕ) → n < 10 ^ 64 → digits_number (decimal n) ≡ n
digits_number-decimal n h = (number_decimal n h).value

pub is_decimal-decimal : (n : ℕ) → n < 10 ^ 64 → is_decimal (decimal n) ≡ true
is_decimal-decimal n h =
    let w = number_decimal n h in
    is_decimal_from (decimal n) w.digits w.some (λ long. w.first (omega (arith, w.large long)))

-- what holds of a word still holds after bytes added at its end one by one
by_last : (P : Bytes → Type 0) → ((xs : Bytes) (x : ℕ) → P xs → P (xs ++ x ∷ [])) → (front rest : Bytes) → P front → P (front ++ rest)
by_last P more front [] p = rw append-nil p
by_last P more front (x ∷ rest) p = subst P (append_assoc front (x ∷ []) rest) (by_last P more (front ++ x ∷ []) rest (more front x p))

fold-ge : (word : Bytes) (a : ℕ) → a ≤ fold (λ n c. 10 * n + (c - 48)) a word
fold-ge [] a = omega arith
fold-ge (c ∷ word) a = let rest = fold-ge word (10 * a + (c - 48)) in omega (arith, rest)

record IsCanonical (word : Bytes) : Type 0 where
  digits : list_all is_digit word ≡ true
  some : 0 < length word
  first : 1 < length word → get_or word 0 48 ≢ 48

IsWritten : Bytes → Type 0
IsWritten word = IsCanonical word → digits_number word < 10 ^ 64 → word ≡ decimal (digits_number word)

one_digit_more : (front : Bytes) (m n c : ℕ) → n ≡ 10 * m + (c - 48) → 48 ≤ c → c ≤ 57 → 0 < m → n < 10 ^ 64 → front ≡ decimal m → front ++ c ∷ [] ≡ decimal n
one_digit_more front m n c e low high pos small written =
    let tens : m ≡ n / 10 = omega arith in
    let ones : c ≡ 48 + n % 10 = omega arith in
    ap (λ f. f ++ c ∷ []) (written ∙ ap decimal tens)
    ∙ ap (λ d. decimal (n / 10) ++ d ∷ []) ones
    ∙ sym (decimal_step_wide n (omega arith) small)

written_more : (word : Bytes) (c : ℕ) → IsWritten word → IsWritten (word ++ c ∷ [])
unfolding IsWritten
written_more [] c ih w small =
    let range = digit_range c (and_parts (is_digit c) true w.digits).0 in
    let place : c ≡ 48 + (0 + (c - 48)) = omega (arith, range) in
    ap (λ d. d ∷ []) place ∙ sym (decimal_digit (0 + (c - 48)) (omega (arith, range)))
written_more (x ∷ xs) c ih w small =
    let parts = and_parts (list_all is_digit (x ∷ xs)) (is_digit c) (sym (digits_push (x ∷ xs) c) ∙ w.digits) in
    let range = digit_range c parts.1 in
    let first_range = digit_range x (and_parts (is_digit x) (list_all is_digit xs) parts.0).0 in
    let not_zero : x ≢ 48 = w.first (omega (arith, length_push xs c)) in
    let pushed = number_push (x ∷ xs) c in
    let front = fold-ge xs (10 * 0 + (x - 48)) in
    let smaller : digits_number (x ∷ xs) < 10 ^ 64 = lt_of_le_of_lt (omega (arith, pushed)) small in
    let written = ih (record { digits = parts.0; some = omega arith; first = λ p. not_zero }) smaller in
    one_digit_more (x ∷ xs) (digits_number (x ∷ xs)) (digits_number ((x ∷ xs) ++ c ∷ [])) c pushed range.0 range.1 (omega (arith, front, first_range)) small written

canonical_from : (word : Bytes) → is_decimal word ≡ true → IsCanonical word
canonical_from [] h = absurd (false≢true h)
canonical_from (c ∷ []) h = record { digits = and_from (is_digit c) true h refl; some = omega arith; first = λ p. omega arith }
canonical_from (c ∷ d ∷ cs) h =
    let parts = and_parts (not (c == 48)) (list_all is_digit (c ∷ d ∷ cs)) h in
    record { digits = parts.1; some = omega arith; first = λ p. eqb-false c 48 (not-true (c == 48) parts.0) }

-- the word of a number is the only one
pub decimal_from : (word : Bytes) (n : ℕ) → n < 10 ^ 64 → is_decimal word ≡ true → digits_number word ≡ n → word ≡ decimal n
unfolding IsWritten
decimal_from word n h d e =
    let written : IsWritten word = by_last IsWritten written_more [] word (λ w. absurd (omega (arith, w.some))) in
    written (canonical_from word d) (subst (λ k. k < 10 ^ 64) (sym e) h) ∙ ap decimal e
