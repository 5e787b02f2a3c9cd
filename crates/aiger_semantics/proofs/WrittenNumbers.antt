-- Lines of numbers that are written, read as the same numbers.
use Rattle.std.proofs.Common.{◌≡◌, ℕ, suc, ◌+◌, ◌-◌, ◌^◌, ◌<◌, ◌≤◌, true, false, cond, ◌&&◌, ◌==◌, leb, List, [], ◌∷◌, ◌++◌, map, length, take, get_or, decimal, All, Option, Some, None, Ok, Err}
use Rattle.std.proofs.Common.{refl, ap, ◌∙◌, arith}
use Rattle.std.specs.List.{AllByRecursion, join_with_byte}
use Rattle.std.specs.Option.{option_map}
use Rattle.std.proofs.lemmas.Bool.{ne_eqb, and_from, le-leb}
use Rattle.std.proofs.lemmas.Fmt.{decimal_nonempty}
use Rattle.std.proofs.lemmas.List.{length-append}
use Rattle.std.proofs.lemmas.List.Elements.{All-weaker, All-append, All-cons, All-tail}
use Rattle.std.proofs.Math.Seq.{get_or-append_right, take-append_seam}
use Rattle.semantics.specs.Texts.{Bytes, Line, text_of}
use Rattle.semantics.specs.Net.{IsNameByte, IsName}
use Rattle.semantics.specs.Decimal.{is_decimal, digits_number}
use Rattle.semantics.proofs.Numerals.{digits_number-decimal, is_decimal-decimal}
use Rattle.semantics.proofs.NumberedNames.{IsName-numbered}
use Rattle.blif_semantics.proofs.WordLines.{IsWord, IsLine, split_words, physical_lines-text_of}
use Rattle.aiger_semantics.specs.TextLines.{without_return, without_empty_end, text_lines, pieces, number_to, all_numbers, line_numbers}
use Rattle.aiger_semantics.specs.CircuitLines.{wrong_line, put_before, all_read}

-- ---- words

-- a name is a word
pub word_from_name : (name : Bytes) → IsName name → IsWord name
word_from_name name h = record { some = h.not_empty; printable = h.printable; ending = h.ending }

-- a number is one, since behind a letter it makes a name
pub number_word : (n : ℕ) → n < 2 ^ 64 → IsWord (decimal n)
number_word n small =
    let some : 0 < length (decimal n) = decimal_nonempty n small in
    let named : IsName (105 ∷ decimal n) = IsName-numbered 105 n (omega arith, omega arith, omega arith) small in
    let place : suc (length (decimal n)) - 1 ≡ suc (length (decimal n) - 1) = omega (arith, some) in
    record {
      some = some;
      printable = All-tail IsNameByte 105 (decimal n) named.printable;
      ending = λ e. named.ending (ap (λ k. get_or (105 ∷ decimal n) k 0) place ∙ e);
    }

-- ---- a text as its lines

-- no byte of a line is a CR
no_return_in : (word : Bytes) → IsWord word → All (λ b. (b == 13) ≡ false) word
no_return_in word h = All-weaker IsNameByte (λ b. (b == 13) ≡ false) (λ b range. ne_eqb b 13 (λ e. omega (arith, e, range.0))) word h.printable

no_return : (words : Line) → AllByRecursion IsWord words → All (λ b. (b == 13) ≡ false) (join_with_byte 32 words)
no_return [] h = λ k d l. absurd (omega arith)
no_return (w ∷ []) h = no_return_in w h.0
no_return (w ∷ v ∷ words) h =
    All-append (λ b. (b == 13) ≡ false) w (32 ∷ join_with_byte 32 (v ∷ words)) (no_return_in w h.0)
    (All-cons (λ b. (b == 13) ≡ false) 32 (join_with_byte 32 (v ∷ words)) refl (no_return (v ∷ words) h.1))

line_kept : (bytes : Bytes) → All (λ b. (b == 13) ≡ false) bytes → without_return bytes ≡ bytes
line_kept [] h = refl
line_kept (b ∷ bytes) h =
    let last : (get_or (b ∷ bytes) (length (b ∷ bytes) - 1) 0 == 13) ≡ false = h (length (b ∷ bytes) - 1) 0 (omega arith) in
    ap (λ t. cond t (take (length (b ∷ bytes) - 1) (b ∷ bytes)) (b ∷ bytes)) last

lines_kept : (lines : List Line) → AllByRecursion IsLine lines → map without_return (map (join_with_byte 32) lines) ≡ map (join_with_byte 32) lines
lines_kept [] h = refl
lines_kept (line ∷ lines) h =
    ap (λ l. l ∷ map without_return (map (join_with_byte 32) lines)) (line_kept (join_with_byte 32 line) (no_return line h.0.words))
    ∙ ap (λ ls. join_with_byte 32 line ∷ ls) (lines_kept lines h.1)

end_left : (lines : List Bytes) → without_empty_end (lines ++ [] ∷ []) ≡ lines
end_left lines =
    let size : length (lines ++ [] ∷ []) - 1 ≡ length lines = omega (arith, length-append lines ([] ∷ [])) in
    let first : length lines - length lines ≡ 0 = omega arith in
    let last : get_or (lines ++ [] ∷ []) (length lines) [] ≡ [] =
    get_or-append_right lines ([] ∷ []) (length lines) [] (omega arith) ∙ ap (λ k. get_or {A = Bytes} ([] ∷ []) k []) first in
    ap (λ k. cond (length (get_or (lines ++ [] ∷ []) k []) == 0) (take k (lines ++ [] ∷ [])) (lines ++ [] ∷ [])) size
    ∙ ap (λ (l : Bytes). cond (length l == 0) (take (length lines) (lines ++ [] ∷ [])) (lines ++ [] ∷ [])) last
    ∙ take-append_seam lines ([] ∷ [])

pub text_lines-written : (lines : List Line) → AllByRecursion IsLine lines → text_lines (text_of lines) ≡ map (join_with_byte 32) lines
text_lines-written lines h =
    ap (λ ls. map without_return (without_empty_end ls)) (physical_lines-text_of lines h)
    ∙ ap (map without_return) (end_left (map (join_with_byte 32) lines))
    ∙ lines_kept lines h

-- ---- numbers

pub pieces-written : (words : Line) → IsLine words → pieces (join_with_byte 32 words) ≡ words
pieces-written words h = split_words (λ b. b == 32) refl (λ b range. ne_eqb b 32 (λ e. omega (arith, e, range.0))) words h.some h.words

pub number_to-written : (most n : ℕ) → n ≤ most → n < 2 ^ 64 → number_to most (decimal n) ≡ Some n
number_to-written most n low small =
    let value : digits_number (decimal n) ≡ n = digits_number-decimal n (omega (arith, small)) in
    let passes : (is_decimal (decimal n) && leb (digits_number (decimal n)) most) ≡ true =
    and_from (is_decimal (decimal n)) (leb (digits_number (decimal n)) most) (is_decimal-decimal n (omega (arith, small)))
    (ap (λ k. leb k most) value ∙ le-leb n most low) in
    ap (λ t. cond t (Some (digits_number (decimal n))) None) passes ∙ ap Some value

-- a number that a line may have
pub record IsLow (most n : ℕ) : Type 0 where
  pub within : n ≤ most
  pub small : n < 2 ^ 64

pub all_numbers-written : (most : ℕ) (ns : List ℕ) → AllByRecursion (IsLow most) ns → all_numbers most (map decimal ns) ≡ Some ns
all_numbers-written most [] h = refl
all_numbers-written most (n ∷ ns) h =
    ap (λ found. elim found [ None ↦ None | Some m ↦ option_map (λ numbers. m ∷ numbers) (all_numbers most (map decimal ns)) ]) (number_to-written most n h.0.within h.0.small)
    ∙ ap (option_map (λ numbers. n ∷ numbers)) (all_numbers-written most ns h.1)

number_words : (most : ℕ) (ns : List ℕ) → AllByRecursion (IsLow most) ns → AllByRecursion IsWord (map decimal ns)
number_words most [] h = tt
number_words most (n ∷ ns) h = (number_word n h.0.small, number_words most ns h.1)

pub number_line-formed : (most : ℕ) (ns : List ℕ) → 0 < length ns → AllByRecursion (IsLow most) ns → IsLine (map decimal ns)
number_line-formed most [] some h = absurd (omega arith)
number_line-formed most (n ∷ ns) some h = record { some = omega arith; words = number_words most (n ∷ ns) h }

pub line_numbers-written : (most : ℕ) (ns : List ℕ) → 0 < length ns → AllByRecursion (IsLow most) ns → line_numbers most (join_with_byte 32 (map decimal ns)) ≡ Some ns
line_numbers-written most ns some h = ap (all_numbers most) (pieces-written (map decimal ns) (number_line-formed most ns some h)) ∙ all_numbers-written most ns h

-- ---- sections

put_before-ok : {X : Type 0} (read : Bytes → Option X) (line : Bytes) (x : X) (xs : List X) (number count : ℕ) (lines : List Bytes) → read line ≡ Some x
    → all_read read (number + 1) count lines ≡ Ok xs
    → all_read read number (suc count) (line ∷ lines) ≡ Ok (x ∷ xs)
put_before-ok read line x xs number count lines is rest =
    ap (λ found. elim found [ None ↦ Err (wrong_line number) | Some y ↦ put_before y (all_read read (number + 1) count lines) ]) is
    ∙ ap (put_before x) rest

-- lines of which each is read as its item are read as the items
pub all_read-written : {X : Type 0} (read : Bytes → Option X) (write : X → Bytes) (number : ℕ) (xs : List X) (more : List Bytes) → AllByRecursion (λ x. read (write x) ≡ Some x) xs
    → all_read read number (length xs) (map write xs ++ more) ≡ Ok xs
all_read-written read write number [] more h = refl
all_read-written read write number (x ∷ xs) more h =
    put_before-ok read (write x) x xs number (length xs) (map write xs ++ more) h.0 (all_read-written read write (number + 1) xs more h.1)
