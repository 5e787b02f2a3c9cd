-- Pieces at the front of a text are cut off in one way.
use Rattle.std.proofs.Common.{◌≡◌, ◌≢◌, ℕ, suc, ◌+◌, ◌-◌, ◌<◌, ◌≤◌, ◌^◌, Bool, true, false, ◌&&◌, ◌==◌, List, [], ◌∷◌, ◌++◌, length, get_or, take, drop, decimal, Option, Some, None, if◌then◌else◌}
use Rattle.std.proofs.Common.{nat_le, refl, ap, sym, subst, ◌∙◌, inl, inr, arith}
use Rattle.std.specs.List.{list_all}
use Rattle.std.proofs.lemmas.Bool.{and_parts, le-leb, leb-true, eqb-true, eqb-false, ne_eqb, or_cases}
use Rattle.std.proofs.lemmas.List.{append_cancel_left, length-append, length-map, length-take-le, take_at, take-append-drop}
use Rattle.std.proofs.Math.Seq.{drop-cons, get_or-append_right}
use Rattle.std.proofs.lemmas.List.Elements.{All-head, All-tail, All-nil, All-cons}
use Rattle.semantics.specs.Texts.{Bytes, bit_byte, bits_word}
use Rattle.semantics.specs.declared.limits.TheConstants.{LARGEST_ERROR}
use Rattle.semantics.specs.Decimal.{is_digit, digits_number, is_decimal}
use Rattle.semantics.proofs.Numerals.{digits_number-decimal, is_decimal-decimal, decimal_from}
use Rattle.job_semantics.specs.Job.{number_from_to}
use Rattle.job_semantics.proofs.ReportTexts.{digits-decimal, few_digits}
use Rattle.bundle_texts.specs.Pieces.{Lacks, is_bit_digit, bits_in, IsNumberBefore, IsVectorBefore}

-- ---- words before a byte that they lack

pub cut_once : (end : ℕ) (v w s t : Bytes) → Lacks end v → Lacks end w → v ++ end ∷ s ≡ w ++ end ∷ t → (v ≡ w) × (s ≡ t)
cut_once end [] [] s t lacks lacks' same = (refl, append_cancel_left (end ∷ []) s t same)
cut_once end [] (c ∷ w) s t lacks lacks' same = absurd (All-head (λ b. b ≢ end) c w lacks' (sym (ap (λ l. get_or l 0 0) same)))
cut_once end (c ∷ v) [] s t lacks lacks' same = absurd (All-head (λ b. b ≢ end) c v lacks (ap (λ l. get_or l 0 0) same))
cut_once end (c ∷ v) (d ∷ w) s t lacks lacks' same =
    let first : c ≡ d = ap (λ l. get_or l 0 0) same in
    let rest = cut_once end v w s t (All-tail (λ b. b ≢ end) c v lacks) (All-tail (λ b. b ≢ end) d w lacks')
    (append_cancel_left (d ∷ []) _ _ (ap (λ x. x ∷ (v ++ end ∷ s)) (sym first) ∙ same)) in
    ((λ i. first i ∷ rest.0 i), rest.1)

-- a text that lacks a byte is no word before it
pub lacked : (end : ℕ) (text w rest : Bytes) → Lacks end text → text ≢ w ++ end ∷ rest
lacked end text [] rest lacks same = All-head (λ b. b ≢ end) end rest (subst (Lacks end) same lacks) refl
lacked end [] (c ∷ w) rest lacks same = absurd (omega (arith, ap length same))
lacked end (d ∷ text) (c ∷ w) rest lacks same =
    lacked end text w rest (All-tail (λ b. b ≢ end) d text lacks) (append_cancel_left (d ∷ []) _ _ (same ∙ ap (λ x. x ∷ (w ++ end ∷ rest)) (sym (ap (λ l. get_or l 0 0) same))))

-- ---- decimal numbers

digits_lack : (end : ℕ) (word : Bytes) → is_digit end ≡ false → list_all is_digit word ≡ true → Lacks end word
digits_lack end [] other all = All-nil (λ b. b ≢ end)
digits_lack end (c ∷ word) other all =
    let parts = and_parts (is_digit c) (list_all is_digit word) all in
    All-cons (λ b. b ≢ end) c word (λ same. let bad : true ≡ false = sym parts.0 ∙ ap is_digit same ∙ other in cc) (digits_lack end word other parts.1)

pub decimal-lacks : (end n : ℕ) → is_digit end ≡ false → n < 10 ^ 64 → Lacks end (decimal n)
decimal-lacks end n other few = digits_lack end (decimal n) other (digits-decimal (decimal n) (is_decimal-decimal n few))

few_decimal : (n most : ℕ) → n ≤ most → most ≤ LARGEST_ERROR → n < 10 ^ 64
few_decimal n most le lt = few_digits n (omega (arith, le, lt))

-- the word of a number is read as it
number_read : (n most : ℕ) → n ≤ most → most ≤ LARGEST_ERROR → number_from_to 0 most (decimal n) ≡ Some n
number_read n most le lt =
    let few = few_decimal n most le lt in
    let is : digits_number (decimal n) ≡ n = digits_number-decimal n few in
    rw (is_decimal-decimal n few, is, le-leb 0 n (omega arith), le-leb n most le) refl

some_if : (a b c : Bool) (m n : ℕ) → (if a && (b && c) then Some m else None) ≡ Some n → (a ≡ true) × (c ≡ true) × (m ≡ n)
some_if true true true m n h = (refl, refl, cc)
some_if true true false m n h = absurd (cc)
some_if true false c m n h = absurd (cc)
some_if false b c m n h = absurd (cc)

-- a word that is read as a number is the word of that number
number_word : (most n : ℕ) (word : Bytes) → most ≤ LARGEST_ERROR → number_from_to 0 most word ≡ Some n → (n ≤ most) × (word ≡ decimal n)
number_word most n word lt read =
    let parts = some_if (is_decimal word) (nat_le 0 (digits_number word)) (nat_le (digits_number word) most) (digits_number word) n read in
    let low : digits_number word ≤ most = leb-true (digits_number word) most parts.1 in
    let few : n ≤ most = omega (arith, parts.2) in
    (few, decimal_from word n (few_decimal n most few lt) parts.0 parts.2)

module _ (most end : ℕ) (text : Bytes) (lt : most ≤ LARGEST_ERROR) (other : is_digit end ≡ false) where
  pub no_end : Lacks end text → (n : ℕ) (rest : Bytes) → ¬ IsNumberBefore most end text n rest
  no_end lacks n rest is = lacked end text (decimal n) rest lacks is.spelled

  module _ (word rest : Bytes) (split : text ≡ word ++ end ∷ rest) (lacks : Lacks end word) where
    pub no_number : number_from_to 0 most word ≡ None → (n : ℕ) (behind : Bytes) → ¬ IsNumberBefore most end text n behind
    no_number none n behind is =
        let same = cut_once end word (decimal n) rest behind lacks (decimal-lacks end n other (few_decimal n most is.few lt)) (sym split ∙ is.spelled) in
        let read : number_from_to 0 most word ≡ Some n = ap (number_from_to 0 most) same.0 ∙ number_read n most is.few lt in
        let bad : ◌≡◌ {A = Option ℕ} None (Some n) = sym none ∙ read in cc

    pub a_number : (n : ℕ) → number_from_to 0 most word ≡ Some n → IsNumberBefore most end text n rest
    a_number n read =
        let is = number_word most n word lt read in
        record { few = is.0; spelled = split ∙ ap (λ w. w ++ end ∷ rest) is.1 }

-- ---- bits

pub digits_spelled : (digits : Bytes) → list_all is_bit_digit digits ≡ true → bits_word (bits_in digits) ≡ digits
digits_spelled [] all = refl
digits_spelled (d ∷ digits) all =
    let parts = and_parts (is_bit_digit d) (list_all is_bit_digit digits) all in
    (λ i. one d parts.0 i ∷ digits_spelled digits parts.1 i)
  where
    one : (d : ℕ) → is_bit_digit d ≡ true → bit_byte (d == 49) ≡ d
    one d h =
        elim (or_cases (d == 48) (d == 49) h) [
          | inl low ↦ let is : d ≡ 48 = eqb-true d 48 low in ap (λ b. bit_byte b) (ne_eqb d 49 (λ e. omega (arith, is, e))) ∙ sym is
          | inr high ↦ ap (λ b. bit_byte b) high ∙ sym (eqb-true d 49 high)
        ]

pub bits_are_digits : (x : List Bool) → list_all is_bit_digit (bits_word x) ≡ true
bits_are_digits [] = refl
bits_are_digits (true ∷ x) = bits_are_digits x
bits_are_digits (false ∷ x) = bits_are_digits x

-- a vector stands at the front exactly where a line end comes behind `width` digits of bits
pub vector_here : (width : ℕ) (text rest : Bytes) → width < length text → get_or text width 0 ≡ 10 → list_all is_bit_digit (take width text) ≡ true
    → rest ≡ drop (width + 1) text → IsVectorBefore width text (bits_in (take width text)) rest
vector_here width text rest within end digits is = record {
  width_is = length-map (take width text) (λ d. d == 49) ∙ length-take-le width text (omega arith);
  spelled =
      sym (take-append-drop width text)
      ∙ (λ i. sym (digits_spelled (take width text) digits) i ++ (drop-cons text width 0 within ∙ (λ j. end j ∷ drop (suc width) text)) i)
      ∙ ap (λ r. bits_word (bits_in (take width text)) ++ 10 ∷ r) (sym (is ∙ ap (λ n. drop n text) (let e : width + 1 ≡ suc width = omega arith in e)));
}

module _ (width : ℕ) (text : Bytes) (x : List Bool) (rest : Bytes) (h : IsVectorBefore width text x rest) where
  digits_count : length (bits_word x) ≡ width
  digits_count = length-map x bit_byte ∙ h.width_is

  pub long_enough : width < length text
  long_enough = omega (arith, ap length h.spelled, length-append (bits_word x) (10 ∷ rest), digits_count)

  pub end_there : get_or text width 0 ≡ 10
  end_there =
      ap (λ t. get_or t width 0) h.spelled
      ∙ get_or-append_right (bits_word x) (10 ∷ rest) width 0 (omega (arith, digits_count))
      ∙ ap (λ k. get_or (10 ∷ rest) k 0) (let none : width - length (bits_word x) ≡ 0 = omega (arith, digits_count) in none)

  pub digits_there : list_all is_bit_digit (take width text) ≡ true
  digits_there =
      ap (λ t. list_all is_bit_digit (take width t)) h.spelled
      ∙ ap (list_all is_bit_digit) (take_at (bits_word x) (10 ∷ rest) width digits_count)
      ∙ bits_are_digits x

-- ---- the test for no bytes

pub no_bytes : (empty : Bool) (text : Bytes) → empty ≡ (length text == 0) → empty ≡ true → text ≡ []
no_bytes empty [] is true_is = refl
no_bytes empty (c ∷ text) is true_is = absurd (let none = eqb-true (length (c ∷ text)) 0 (sym is ∙ true_is) in omega arith)

pub some_bytes : (empty : Bool) (text : Bytes) → empty ≡ (length text == 0) → empty ≡ false → text ≢ []
some_bytes empty text is false_is none = eqb-false (length text) 0 (sym is ∙ false_is) (ap length none)
