-- A formula that is written as its text is read back from it.
use Rattle.std.proofs.Common.{◌≡◌, ℕ, suc, ◌-◌, ◌^◌, ◌<◌, ◌≤◌, Bool, true, false, ◌==◌, not, ◌&&◌, ◌||◌, List, [], ◌∷◌, ◌++◌, map, flat_map, length, codes, decimal, leb, None, Some, Ok, All, refl}
use Rattle.std.proofs.Common.{ap, ◌∙◌, arith}
use Rattle.std.specs.Prelude.{filter, filter_map, ℤ, pos, negsuc, neg_ℤ, nat_abs}
use Rattle.std.specs.List.{AllByRecursion, list_all, slice_split, join_with_byte, cons_option}
use Rattle.std.specs.Ordering.{int_eq}
use Rattle.std.specs.Fmt.{signed_decimal}
use Rattle.std.proofs.lemmas.Bool.{and_parts, and_from, and_left, or_from, leb-true, ne_eqb, eq-eqb, eqb-false, lt-ltb, le-ltb, not-true, not_from_false, false_from_ne_true}
use Rattle.std.proofs.lemmas.Bool.Decides.{Decides-int_eq}
use Rattle.std.proofs.lemmas.List.{length_push, get_or_at, take_at}
use Rattle.std.proofs.lemmas.List.Elements.{All-from_recursion, recursion_from_All, All-weaker, All-get_or}
use Rattle.std.proofs.lemmas.List.Splits.{slice_split_at}
use Rattle.semantics.specs.Texts.{Bytes, Line}
use Rattle.semantics.specs.Net.{IsNameByte}
use Rattle.semantics.specs.Decimal.{is_digit, digits_number, is_decimal}
use Rattle.semantics.proofs.Numerals.{digits_number-decimal, is_decimal-decimal}
use Rattle.blif_semantics.specs.Lines.{is_blank, words_of}
use Rattle.blif_semantics.proofs.WordLines.{IsWord, IsLine, split_words, physical_lines-text_of}
use Rattle.proof_semantics.specs.Clauses.{Clause, IsLiteralOf, AreClausesOf}
use Rattle.proof_semantics.specs.Formula.{Formula, header_line, clause_line, dimacs_text}
use Rattle.solve_cnf.specs.Reading.{Header, is_comment, are_digits, header_of, is_negative, digits_of, number_of, wrong_word, ended_parts, unless_refused, clauses_of, formula_with, formula_behind}
use Rattle.solve_cnf.specs.Reading.{formula_of_lines, formula_of_text}

-- ---- numerals

abbrev IsNumeralByte : ℕ → Type 0
IsNumeralByte b = (45 ≤ b) × (b ≤ 57)

record IsNumeral (word : Bytes) : Type 0 where
  some : 0 < length word
  bytes : AllByRecursion IsNumeralByte word

not_empty : {X : Type 0} (xs : List X) → 0 < length xs → not (length xs == 0) ≡ true
not_empty xs some = not_from_false (length xs == 0) (ne_eqb (length xs) 0 (λ e. omega (arith, e, some)))

digit_range : (c : ℕ) → is_digit c ≡ true → (48 ≤ c) × (c ≤ 57)
digit_range c h = let parts = and_parts (leb 48 c) (leb c 57) h in (leb-true 48 c parts.0, leb-true c 57 parts.1)

digits_bytes : (word : Bytes) → list_all is_digit word ≡ true → AllByRecursion IsNumeralByte word
digits_bytes [] h = tt
digits_bytes (c ∷ cs) h =
    let parts = and_parts (is_digit c) (list_all is_digit cs) h in
    let range = digit_range c parts.0 in
    ((omega (arith, range.0), range.1), digits_bytes cs parts.1)

are_digits-decimal_word : (word : Bytes) → is_decimal word ≡ true → are_digits word ≡ true
are_digits-decimal_word [] h = h
are_digits-decimal_word (c ∷ []) h = and_from (not (length (c ∷ []) == 0)) (list_all is_digit (c ∷ [])) (not_empty (c ∷ []) (omega arith)) (and_from (is_digit c) true h refl)
are_digits-decimal_word (c ∷ d ∷ cs) h =
    and_from (not (length (c ∷ d ∷ cs) == 0)) (list_all is_digit (c ∷ d ∷ cs)) (not_empty (c ∷ d ∷ cs) (omega arith)) (and_parts (not (c == 48)) (list_all is_digit (c ∷ d ∷ cs)) h).1

are_digits-decimal : (n : ℕ) → n < 10 ^ 64 → are_digits (decimal n) ≡ true
are_digits-decimal n h = are_digits-decimal_word (decimal n) (is_decimal-decimal n h)

numeral_of_digits : (word : Bytes) → are_digits word ≡ true → IsNumeral word
numeral_of_digits word h =
    let parts = and_parts (not (length word == 0)) (list_all is_digit word) h in
    let some = eqb-false (length word) 0 (not-true (length word == 0) parts.0) in
    record { some = omega (arith, some); bytes = digits_bytes word parts.1 }

numeral-signed : (l : ℤ) → nat_abs l < 10 ^ 64 → IsNumeral (signed_decimal l)
numeral-signed (pos n) h = numeral_of_digits (decimal n) (are_digits-decimal n h)
numeral-signed (negsuc n) h =
    let rest = numeral_of_digits (decimal (suc n)) (are_digits-decimal (suc n) h) in
    record { some = omega arith; bytes = ((omega arith, omega arith), rest.bytes) }

word-numeral : (word : Bytes) → IsNumeral word → IsWord word
word-numeral word h =
    let each : All IsNumeralByte word = All-from_recursion IsNumeralByte word h.bytes in
    let last = All-get_or IsNumeralByte word (length word - 1) 0 (omega (arith, h.some)) each in
    record {
      some = h.some;
      printable = All-weaker IsNumeralByte IsNameByte (λ b r. (omega (arith, r.0), omega (arith, r.1), λ e. omega (arith, e, r.0))) word each;
      ending = λ e. omega (arith, e, last.1);
    }

first_digit : (word : Bytes) → list_all is_digit word ≡ true → is_negative word ≡ false
first_digit [] h = refl
first_digit (c ∷ cs) h = let range = digit_range c (and_parts (is_digit c) (list_all is_digit cs) h).0 in ne_eqb c 45 (λ e. omega (arith, e, range.0))

-- ---- numbers read back

record IsReadAs (word : Bytes) (l : ℤ) : Type 0 where
  digits : are_digits (digits_of word) ≡ true
  size : digits_number (digits_of word) ≡ nat_abs l
  number : number_of word ≡ l

read-signed : (l : ℤ) → nat_abs l < 10 ^ 64 → IsReadAs (signed_decimal l) l
read-signed (pos n) h =
    let digits = are_digits-decimal n h in
    let plain = first_digit (decimal n) (and_parts (not (length (decimal n) == 0)) (list_all is_digit (decimal n)) digits).1 in
    record {
      digits = rw plain digits;
      size = rw plain (digits_number-decimal n h);
      number = rw plain (ap pos (digits_number-decimal n h));
    }
read-signed (negsuc n) h = record {
  digits = are_digits-decimal (suc n) h;
  size = digits_number-decimal (suc n) h;
  number = ap (λ k. neg_ℤ (pos k)) (digits_number-decimal (suc n) h);
}

right-signed : (variables : ℕ) (l : ℤ) → variables < 10 ^ 64 → nat_abs l ≤ variables → wrong_word variables (signed_decimal l) ≡ None
right-signed variables l few within =
    let read = read-signed l (omega (arith, few, within)) in
    rw (read.digits, read.size, le-ltb variables (nat_abs l) within) refl

right-zero : (variables : ℕ) → wrong_word variables (codes "0") ≡ None
right-zero variables = rw (le-ltb variables 0 (omega arith)) refl

not_zero : (l : ℤ) → 1 ≤ nat_abs l → int_eq l (pos 0) ≡ false
not_zero l h = false_from_ne_true (int_eq l (pos 0)) (λ t. let same : l ≡ pos 0 = (Decides-int_eq l (pos 0)).0 t in omega (arith, h, ap nat_abs same))

-- ---- clauses read back

abbrev is_end : ℤ → Bool
is_end n = int_eq n (pos 0)

module _ (variables : ℕ) (few : variables < 10 ^ 64) where
  clause_right : (clause : Clause) (more : List Bytes) → AllByRecursion (IsLiteralOf variables) clause → filter_map (wrong_word variables) more ≡ []
      → filter_map (wrong_word variables) (clause_line clause ++ more) ≡ []
  clause_right [] more h rest = ap (λ w. cons_option w (filter_map (wrong_word variables) more)) (right-zero variables) ∙ rest
  clause_right (l ∷ clause) more h rest =
      ap (λ w. cons_option w (filter_map (wrong_word variables) (clause_line clause ++ more))) (right-signed variables l few h.0.within) ∙ clause_right clause more h.1 rest

  clause_numbers : (clause : Clause) (more : List Bytes) → AllByRecursion (IsLiteralOf variables) clause → map number_of (clause_line clause ++ more) ≡ clause ++ pos 0 ∷ map number_of more
  clause_numbers [] more h = refl
  clause_numbers (l ∷ clause) more h =
      let within = h.0.within in
      ap (λ n. n ∷ map number_of (clause_line clause ++ more)) (read-signed l (omega (arith, few, within))).number ∙ ap (λ ns. l ∷ ns) (clause_numbers clause more h.1)

  clauses_right : (clauses : List Clause) → AllByRecursion (All (IsLiteralOf variables)) clauses → filter_map (wrong_word variables) (flat_map clause_line clauses) ≡ []
  clauses_right [] h = refl
  clauses_right (clause ∷ clauses) h =
      clause_right clause (flat_map clause_line clauses) (recursion_from_All (IsLiteralOf variables) clause h.0) (clauses_right clauses h.1)

  clauses_parts : (clauses : List Clause) → AllByRecursion (All (IsLiteralOf variables)) clauses → slice_split is_end (map number_of (flat_map clause_line clauses)) ≡ clauses ++ [] ∷ []
  clauses_parts [] h = refl
  clauses_parts (clause ∷ clauses) h =
      ap (slice_split is_end) (clause_numbers clause (flat_map clause_line clauses) (recursion_from_All (IsLiteralOf variables) clause h.0))
      ∙ slice_split_at is_end clause (pos 0) (map number_of (flat_map clause_line clauses)) (All-weaker (IsLiteralOf variables) (λ l. is_end l ≡ false) (λ l is. not_zero l is.not_zero) clause h.0)
      refl
      ∙ ap (λ parts. clause ∷ parts) (clauses_parts clauses h.1)

parts_ended : (clauses : List Clause) → ended_parts (clauses ++ [] ∷ []) ≡ Ok clauses
parts_ended clauses =
    let last : length clauses ≡ length (clauses ++ [] ∷ []) - 1 = omega (arith, length_push clauses []) in
    rw (get_or_at clauses [] [] [] (length (clauses ++ [] ∷ []) - 1) last, take_at clauses ([] ∷ []) (length (clauses ++ [] ∷ []) - 1) last) refl

clauses_back : (f : Formula) → f.variables < 10 ^ 64 → AreClausesOf f.variables f.clauses → clauses_of f.variables (flat_map clause_line f.clauses) ≡ Ok f.clauses
clauses_back f few clauses =
    let each = recursion_from_All (All (IsLiteralOf f.variables)) f.clauses clauses in
    ap (λ wrong. unless_refused wrong (ended_parts (slice_split is_end (map number_of (flat_map clause_line f.clauses))))) (clauses_right f.variables few f.clauses each)
    ∙ ap ended_parts (clauses_parts f.variables few f.clauses each) ∙ parts_ended f.clauses

-- ---- lines read back

abbrev is_said : Bytes → Bool
is_said line = not (is_comment line) && not (list_all is_blank line)

no_blank : (b : ℕ) → 33 ≤ b → is_blank b ≡ false
no_blank b h =
    or_from (b == 32 || b == 9) (b == 13) (or_from (b == 32) (b == 9) (ne_eqb b 32 (λ e. omega (arith, e, h))) (ne_eqb b 9 (λ e. omega (arith, e, h)))) (ne_eqb b 13 (λ e. omega (arith, e, h)))

said_first : (c : ℕ) (rest : Bytes) → IsNumeralByte c → is_said (c ∷ rest) ≡ true
said_first c rest range =
    and_from (not (c == 99)) (not (list_all is_blank (c ∷ rest))) (not_from_false (c == 99) (ne_eqb c 99 (λ e. omega (arith, e, range.1))))
    (not_from_false (list_all is_blank (c ∷ rest)) (and_left (is_blank c) (list_all is_blank rest) (no_blank c (omega (arith, range.0)))))

said_words : (word : Bytes) (words : Line) → IsNumeral word → is_said (join_with_byte 32 (word ∷ words)) ≡ true
said_words [] words h = let some = h.some in absurd (omega (arith, some))
said_words (c ∷ cs) [] h = said_first c cs h.bytes.0
said_words (c ∷ cs) (word ∷ words) h = said_first c (cs ++ 32 ∷ join_with_byte 32 (word ∷ words)) h.bytes.0

-- a line that is written
record IsWritten (line : Line) : Type 0 where
  is_line : IsLine line
  said : is_said (join_with_byte 32 line) ≡ true

zero_numeral : IsNumeral (codes "0")
zero_numeral = record { some = omega arith; bytes = ((omega arith, omega arith), tt) }

clause_words : (variables : ℕ) → variables < 10 ^ 64 → (clause : Clause) → AllByRecursion (IsLiteralOf variables) clause → AllByRecursion IsWord (clause_line clause)
clause_words variables few [] h = (word-numeral (codes "0") zero_numeral, tt)
clause_words variables few (l ∷ clause) h =
    let within = h.0.within in
    (word-numeral (signed_decimal l) (numeral-signed l (omega (arith, few, within))), clause_words variables few clause h.1)

clause_written : (variables : ℕ) → variables < 10 ^ 64 → (clause : Clause) → AllByRecursion (IsLiteralOf variables) clause → IsWritten (clause_line clause)
clause_written variables few [] h = record { is_line = record { some = omega arith; words = clause_words variables few [] h }; said = said_words (codes "0") [] zero_numeral }
clause_written variables few (l ∷ clause) h =
    let within = h.0.within in
    record {
      is_line = record { some = omega arith; words = clause_words variables few (l ∷ clause) h };
      said = said_words (signed_decimal l) (clause_line clause) (numeral-signed l (omega (arith, few, within)));
    }

clauses_written : (variables : ℕ) → variables < 10 ^ 64 → (clauses : List Clause) → AllByRecursion (All (IsLiteralOf variables)) clauses → AllByRecursion IsWritten (map clause_line clauses)
clauses_written variables few [] h = tt
clauses_written variables few (clause ∷ clauses) h =
    (clause_written variables few clause (recursion_from_All (IsLiteralOf variables) clause h.0), clauses_written variables few clauses h.1)

letters : (word : Bytes) → AllByRecursion (λ b. (97 ≤ b) × (b ≤ 122)) word → All IsNameByte word
letters word h =
    All-weaker (λ b. (97 ≤ b) × (b ≤ 122)) IsNameByte (λ b r. (omega (arith, r.0), omega (arith, r.1), λ e. omega (arith, e, r.0))) word (All-from_recursion (λ b. (97 ≤ b) × (b ≤ 122)) word h)

header_written : (f : Formula) → f.variables < 10 ^ 64 → length f.clauses < 10 ^ 64 → IsWritten (header_line f)
header_written f few short =
    let p : IsWord (codes "p") = record { some = omega arith; printable = letters (codes "p") ((omega arith, omega arith), tt); ending = λ e. omega (arith, e) } in
    let cnf : IsWord (codes "cnf") = record {
      some = omega arith;
      printable = letters (codes "cnf") ((omega arith, omega arith), ((omega arith, omega arith), ((omega arith, omega arith), tt)));
      ending = λ e. omega (arith, e);
    } in
    let variables = word-numeral (decimal f.variables) (numeral_of_digits (decimal f.variables) (are_digits-decimal f.variables few)) in
    let clauses = word-numeral (decimal (length f.clauses)) (numeral_of_digits (decimal (length f.clauses)) (are_digits-decimal (length f.clauses) short)) in
    record { is_line = record { some = omega arith; words = (p, (cnf, (variables, (clauses, tt)))) }; said = refl }

are_lines : (lines : List Line) → AllByRecursion IsWritten lines → AllByRecursion IsLine lines
are_lines [] h = tt
are_lines (line ∷ lines) h = (h.0.is_line, are_lines lines h.1)

said_lines : (lines : List Line) → AllByRecursion IsWritten lines → filter is_said (map (join_with_byte 32) lines ++ [] ∷ []) ≡ map (join_with_byte 32) lines
said_lines [] h = refl
said_lines (line ∷ lines) h = let said = h.0.said in rw said (ap (λ rest. join_with_byte 32 line ∷ rest) (said_lines lines h.1))

words_kept : (words : Line) → AllByRecursion IsWord words → filter (λ w. not (length w == 0)) words ≡ words
words_kept [] h = refl
words_kept (w ∷ words) h = let some = h.0.some in rw (ne_eqb (length w) 0 (λ e. omega (arith, e, some)), words_kept words h.1) refl

words_back : (line : Line) → IsLine line → words_of (join_with_byte 32 line) ≡ line
words_back line h =
    ap (filter (λ w. not (length w == 0))) (split_words is_blank refl (λ b range. no_blank b range.0) line h.some h.words) ∙ words_kept line h.words

all_words_back : (lines : List Line) → AllByRecursion IsWritten lines → flat_map words_of (map (join_with_byte 32) lines) ≡ flat_map (λ line. line) lines
all_words_back [] h = refl
all_words_back (line ∷ lines) h = ap (λ ws. ws ++ flat_map words_of (map (join_with_byte 32) lines)) (words_back line h.0.is_line) ∙ ap (λ ws. line ++ ws) (all_words_back lines h.1)

flat_lines : (clauses : List Clause) → flat_map (λ (line : Line). line) (map clause_line clauses) ≡ flat_map clause_line clauses
flat_lines [] = refl
flat_lines (clause ∷ clauses) = ap (λ ws. clause_line clause ++ ws) (flat_lines clauses)

-- ---- the whole text

header_back : (f : Formula) → f.variables < 2 ^ 31 → length f.clauses < 10 ^ 64 → header_of (header_line f) ≡ Some (record { variables = f.variables; clauses = length f.clauses })
header_back f few short =
    let small : f.variables < 10 ^ 64 = omega (arith, few) in
    rw (
      are_digits-decimal f.variables small,
      are_digits-decimal (length f.clauses) short,
      digits_number-decimal f.variables small,
      digits_number-decimal (length f.clauses) short,
      lt-ltb f.variables (2 ^ 31) few,
    ) refl

pub formula_back : (f : Formula) → f.variables < 2 ^ 31 → AreClausesOf f.variables f.clauses → length f.clauses < 10 ^ 64 → formula_of_text (dimacs_text f) ≡ Ok f
unfolding formula_of_text dimacs_text
formula_back f few clauses short =
    let small : f.variables < 10 ^ 64 = omega (arith, few) in
    let each = recursion_from_All (All (IsLiteralOf f.variables)) f.clauses clauses in
    let header = header_written f small short in
    let rest = clauses_written f.variables small f.clauses each in
    let lines : List Line = header_line f ∷ map clause_line f.clauses in
    let h : Header = record { variables = f.variables; clauses = length f.clauses } in
    ap (λ parts. formula_of_lines (filter is_said parts)) (physical_lines-text_of lines (are_lines lines (header, rest)))
    ∙ ap formula_of_lines (said_lines lines (header, rest))
    ∙ ap (λ ws. formula_behind (header_of ws) (flat_map words_of (map (join_with_byte 32) (map clause_line f.clauses)))) (words_back (header_line f) header.is_line)
    ∙ ap (λ ws. formula_behind (header_of (header_line f)) ws) (all_words_back (map clause_line f.clauses) rest ∙ flat_lines f.clauses)
    ∙ ap (λ told. formula_behind told (flat_map clause_line f.clauses)) (header_back f few short)
    ∙ ap (formula_with h) (clauses_back f small clauses)
    ∙ rw (eq-eqb (length f.clauses) (length f.clauses) refl) refl
