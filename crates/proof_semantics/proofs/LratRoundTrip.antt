-- The text that is written of a log spells its items.
use Rattle.std.proofs.Common.{◌≡◌, ℕ, suc, ◌+◌, ◌^◌, ◌<◌, ◌==◌, List, [], ◌∷◌, ◌++◌, length, map, flat_map, codes, true, false, Bool, refl, ap, sym, subst, ◌∙◌, append_assoc, leb, arith, Ok}
use Rattle.std.specs.Prelude.{All, ℤ, pos, negsuc, not}
use Rattle.std.specs.Fmt.{decimal, signed_decimal}
use Rattle.std.specs.List.{list_all, slice_split, join_with_byte}
use Rattle.std.proofs.lemmas.Bool.{and_parts, and_from, lt-ltb, false≢true, leb-true, ne_eqb}
use Rattle.std.proofs.lemmas.List.Elements.{All-nil, All-cons, All-head, All-tail}
use Rattle.std.proofs.lemmas.List.Folds.{list_all-append}
use Rattle.std.proofs.lemmas.List.Splits.{slice_split_at, length-slice_split}
use Rattle.semantics.specs.Texts.{Bytes, line_text, text_of}
use Rattle.semantics.specs.Decimal.{is_digit, digits_number, is_decimal}
use Rattle.semantics.proofs.Numerals.{is_decimal-decimal, digits_number-decimal}
use Rattle.proof_semantics.specs.declared.item.Item.TheVariants.{Add, Remove}
use Rattle.proof_semantics.specs.declared.lrat_word.LratWord.{LratWord}
use Rattle.proof_semantics.specs.declared.lrat_word.LratWord.TheVariants.{Letter, Number}
use Rattle.proof_semantics.specs.Clauses.{Clause, IsLiteralOf}
use Rattle.proof_semantics.specs.Logs.{StepValue, LogItem}
use Rattle.proof_semantics.specs.Lrat.{addition_line, removal_line, item_line, greatest_with, log_lines, lrat_text}
use Rattle.proof_semantics.specs.LratTokens.{is_blank, is_log_byte, Token, token_at, ended, ended_tokens, digits_word, token_word}
use Rattle.proof_semantics.specs.LratReading.{with_end}
use Rattle.proof_semantics.specs.LratGrammar.{SignedNumber, signed_word, plain_word, literal_of, SpelledItem, addition, deletion, item_words, spelled_item, AreLiteralSizes, ArePositive, IsSpelled}
use Rattle.proof_semantics.specs.LratGrammar.{AreSpelled, token_words}
use Rattle.proof_semantics.specs.LratLaws.{Spells, IsId, IsWritable, RoundTripLaw}
use Rattle.proof_semantics.proofs.LratTexts.{grammar_law}

-- a word that stands between blanks as one token
record IsToken (word : Bytes) : Type 0 where
  some : 0 < length word
  plain : All (λ c. is_blank c ≡ false) word
  good : list_all is_log_byte word ≡ true

-- the words of parts that a blank ends, wherever they stand
abbrev word_at : Bytes → List LratWord
word_at [] = []
word_at (c ∷ cs) = token_word (c ∷ cs) ∷ []

abbrev ended_words : List Bytes → List LratWord
ended_words [] = []
ended_words (part ∷ []) = []
ended_words (part ∷ next ∷ parts) = word_at part ++ ended_words (next ∷ parts)

words_at : (place : ℕ) (part : Bytes) (ts : List Token) → token_words (token_at place part ++ ts) ≡ word_at part ++ token_words ts
words_at place [] ts = refl
words_at place (c ∷ cs) ts = refl

words_ended : (place : ℕ) (parts : List Bytes) → token_words (ended place parts) ≡ ended_words parts
words_ended place [] = refl
words_ended place (part ∷ []) = refl
words_ended place (part ∷ next ∷ parts) =
    let later = place + length part + 1 in
    words_at place part (ended later (next ∷ parts)) ∙ ap (λ ws. word_at part ++ ws) (words_ended later (next ∷ parts))

ended_words_more : (part : Bytes) (parts : List Bytes) → 0 < length parts → 0 < length part → ended_words (part ∷ parts) ≡ token_word part ∷ ended_words parts
ended_words_more part [] h k = absurd (omega arith)
ended_words_more [] (next ∷ parts) h k = absurd (omega arith)
ended_words_more (c ∷ cs) (next ∷ parts) h k = refl

-- the tokens of a text are these words
record HasWords (text : Bytes) (words : List LratWord) : Type 0 where
  good : list_all is_log_byte text ≡ true
  words_are : ended_words (slice_split is_blank (with_end text)) ≡ words

no_words : HasWords [] []
unfolding is_blank
no_words = record { good = refl; words_are = refl }

blank_is_good : (c : ℕ) → is_blank c ≡ true → is_log_byte c ≡ true
unfolding is_log_byte
blank_is_good c h = rw h refl

-- a word and a blank before a text
word_before : (word : Bytes) (blank : ℕ) (text : Bytes) (words : List LratWord) → IsToken word → is_blank blank ≡ true → HasWords text words
    → HasWords (word ++ blank ∷ text) (token_word word ∷ words)
word_before word blank text words w b t =
    let parts = slice_split is_blank (with_end text) in
    let cut : slice_split is_blank (with_end (word ++ blank ∷ text)) ≡ word ∷ parts =
    ap (slice_split is_blank) (append_assoc word (blank ∷ text) (10 ∷ [])) ∙ slice_split_at is_blank word blank (with_end text) w.plain b in
    record {
      good = list_all-append is_log_byte word (blank ∷ text) ∙ rw (w.good, blank_is_good blank b) t.good;
      words_are = ap ended_words cut ∙ ended_words_more word parts (omega (arith, length-slice_split is_blank (with_end text))) w.some
          ∙ ap (λ ws. token_word word ∷ ws) t.words_are;
    }

blank_between : is_blank 32 ≡ true
unfolding is_blank
blank_between = refl

blank_behind : is_blank 10 ≡ true
unfolding is_blank
blank_behind = refl

-- a line before a text
line_before : (word : Bytes) (line : List Bytes) (text : Bytes) (words : List LratWord) → IsToken word → All IsToken line → HasWords text words
    → HasWords (line_text (word ∷ line) ++ text) (token_word word ∷ (map token_word line ++ words))
line_before word [] text words w ws t =
    subst (λ u. HasWords u (token_word word ∷ words)) (sym (append_assoc word (10 ∷ []) text)) (word_before word 10 text words w blank_behind t)
line_before word (next ∷ line) text words w ws t =
    let rest = join_with_byte 32 (next ∷ line) in
    let later : List LratWord = token_word next ∷ (map token_word line ++ words) in
    let same : (word ++ 32 ∷ rest) ++ (10 ∷ []) ++ text ≡ word ++ 32 ∷ (line_text (next ∷ line) ++ text) =
    ap (λ u. u ++ text) (append_assoc word (32 ∷ rest) (10 ∷ [])) ∙ append_assoc word (32 ∷ (rest ++ 10 ∷ [])) text in
    subst (λ u. HasWords u (token_word word ∷ later)) (sym same)
    (word_before word 32 (line_text (next ∷ line) ++ text) later w blank_between
    (line_before next line text words (All-head IsToken next line ws) (All-tail IsToken next line ws) t))

-- digits that spell a number
record Digits (word : Bytes) (n : ℕ) : Type 0 where
  some : 0 < length word
  digits : list_all is_digit word ≡ true
  value : digits_number word ≡ n

digits_from : (word : Bytes) (n : ℕ) → is_decimal word ≡ true → digits_number word ≡ n → Digits word n
digits_from [] n h v = absurd (false≢true h)
digits_from (c ∷ []) n h v = record { some = omega arith; digits = and_from (is_digit c) true h refl; value = v }
digits_from (c ∷ d ∷ cs) n h v =
    record { some = omega arith; digits = (and_parts (not (c == 48)) (list_all is_digit (c ∷ d ∷ cs)) h).1; value = v }

decimal_digits : (n : ℕ) → n < 2 ^ 63 → Digits (decimal n) n
decimal_digits n h =
    let small : n < 10 ^ 64 = omega arith in
    digits_from (decimal n) n (is_decimal-decimal n small) (digits_number-decimal n small)

record IsDigitByte (c : ℕ) : Type 0 where
  plain : is_blank c ≡ false
  good : is_log_byte c ≡ true
  no_letter : (c == 100) ≡ false
  no_minus : (c == 45) ≡ false

digit_byte : (c : ℕ) → is_digit c ≡ true → IsDigitByte c
unfolding is_blank is_log_byte
digit_byte c h =
    let parts = and_parts (leb 48 c) (leb c 57) h in
    let low = leb-true 48 c parts.0 in
    let high = leb-true c 57 parts.1 in
    let space = ne_eqb c 32 (omega arith) in
    let tab = ne_eqb c 9 (omega arith) in
    let return = ne_eqb c 13 (omega arith) in
    let line = ne_eqb c 10 (omega arith) in
    record {
      plain = rw (space, tab, return, line) refl;
      good = rw (space, tab, return, line, h) refl;
      no_letter = ne_eqb c 100 (omega arith);
      no_minus = ne_eqb c 45 (omega arith);
    }

digits_plain : (word : Bytes) → list_all is_digit word ≡ true → All (λ c. is_blank c ≡ false) word × (list_all is_log_byte word ≡ true)
digits_plain [] h = (All-nil (λ c. is_blank c ≡ false), refl)
digits_plain (c ∷ cs) h =
    let parts = and_parts (is_digit c) (list_all is_digit cs) h in
    let byte = digit_byte c parts.0 in
    let rest = digits_plain cs parts.1 in
    (All-cons (λ c. is_blank c ≡ false) c cs byte.plain rest.0, and_from (is_log_byte c) (list_all is_log_byte cs) byte.good rest.1)

-- a word that is one token, and what it says
record Says (word : Bytes) (what : LratWord) : Type 0 where
  token : IsToken word
  says : token_word word ≡ what

digits_say : (negative : Bool) (word : Bytes) (n : ℕ) → Digits word n → n < 2 ^ 63 → digits_word negative word ≡ Number negative n
digits_say negative [] n d h = absurd (omega (arith, d.some))
digits_say negative (c ∷ cs) n d h = rw (d.digits, d.value, lt-ltb n (2 ^ 63) h) refl

plain_says : (word : Bytes) (n : ℕ) → Digits word n → n < 2 ^ 63 → Says word (Number false n)
plain_says [] n d h = absurd (omega (arith, d.some))
plain_says (c ∷ cs) n d h =
    let byte = digit_byte c (and_parts (is_digit c) (list_all is_digit cs) d.digits).0 in
    let plain = digits_plain (c ∷ cs) d.digits in
    record { token = record { some = d.some; plain = plain.0; good = plain.1 }; says = rw (byte.no_letter, byte.no_minus) (digits_say false (c ∷ cs) n d h) }

minus_says : (word : Bytes) (n : ℕ) → Digits word n → n < 2 ^ 63 → Says (45 ∷ word) (Number true n)
unfolding is_blank is_log_byte
minus_says word n d h =
    let plain = digits_plain word d.digits in
    record {
      token = record { some = omega arith; plain = All-cons (λ c. is_blank c ≡ false) 45 word refl plain.0; good = plain.1 };
      says = digits_say true word n d h;
    }

id_says : (n : ℕ) → n < 2 ^ 63 → Says (decimal n) (plain_word n)
id_says n h = plain_says (decimal n) n (decimal_digits n h) h

zero_says : Says (codes "0") (Number false 0)
unfolding is_blank is_log_byte
zero_says = record { token = record { some = omega arith; plain = All-cons (λ c. is_blank c ≡ false) 48 [] refl (All-nil (λ c. is_blank c ≡ false)); good = refl }; says = refl }

letter_says : Says (codes "d") Letter
unfolding is_blank is_log_byte
letter_says = record { token = record { some = omega arith; plain = All-cons (λ c. is_blank c ≡ false) 100 [] refl (All-nil (λ c. is_blank c ≡ false)); good = refl }; says = refl }

abbrev signed_number : ℤ → SignedNumber
signed_number (pos n) = record { negative = false; size = n }
signed_number (negsuc k) = record { negative = true; size = suc k }

literal_says : (l : ℤ) → IsLiteralOf 2147483647 l → Says (signed_decimal l) (signed_word (signed_number l))
literal_says (pos n) h = plain_says (decimal n) n (decimal_digits n (omega (arith, h.within))) (omega (arith, h.within))
literal_says (negsuc k) h = minus_says (decimal (suc k)) (suc k) (decimal_digits (suc k) (omega (arith, h.within))) (omega (arith, h.within))

-- words of a line, and what they say
record LineSays (line : List Bytes) (words : List LratWord) : Type 0 where
  tokens : All IsToken line
  say : map token_word line ≡ words

last_says : (word : Bytes) (what : LratWord) → Says word what → LineSays (word ∷ []) (what ∷ [])
last_says word what s = record { tokens = All-cons IsToken word [] s.token (All-nil IsToken); say = ap (λ w. w ∷ []) s.says }

next_says : (word : Bytes) (what : LratWord) (line : List Bytes) (words : List LratWord) → Says word what → LineSays line words → LineSays (word ∷ line) (what ∷ words)
next_says word what line words s l = record { tokens = All-cons IsToken word line s.token l.tokens; say = cc (s.says, l.say) }

ids_say : (ids : List ℕ) (line : List Bytes) (words : List LratWord) → All IsId ids → LineSays line words → LineSays (map decimal ids ++ line) (map plain_word ids ++ words)
ids_say [] line words h l = l
ids_say (n ∷ ids) line words h l =
    next_says (decimal n) (plain_word n) (map decimal ids ++ line) (map plain_word ids ++ words) (id_says n (All-head IsId n ids h).1) (ids_say ids line words (All-tail IsId n ids h) l)

abbrev IsLiteral : ℤ → Type 0
IsLiteral l = IsLiteralOf 2147483647 l

literals_say : (literals : Clause) (line : List Bytes) (words : List LratWord) → All IsLiteral literals → LineSays line words
    → LineSays (map signed_decimal literals ++ line) (map signed_word (map signed_number literals) ++ words)
literals_say [] line words h l = l
literals_say (x ∷ literals) line words h l =
    next_says (signed_decimal x) (signed_word (signed_number x)) (map signed_decimal literals ++ line) (map signed_word (map signed_number literals) ++ words)
    (literal_says x (All-head IsLiteral x literals h)) (literals_say literals line words (All-tail IsLiteral x literals h) l)

-- an item behind additions of which this id is the greatest, as it is written
abbrev spelled : ℕ → LogItem → SpelledItem
spelled greatest (Add s) = addition s.id (map signed_number s.literals) false s.hints false
spelled greatest (Remove ids) = deletion (record { negative = false; size = greatest }) ids false

abbrev spelled_log : ℕ → List LogItem → List SpelledItem
spelled_log greatest [] = []
spelled_log greatest (item ∷ log) = spelled greatest item ∷ spelled_log (greatest_with greatest item) log

zero_ends : LineSays (codes "0" ∷ []) (Number false 0 ∷ [])
zero_ends = last_says (codes "0") (Number false 0) zero_says

-- an item's line before a text
addition_before : (s : StepValue) (text : Bytes) (words : List LratWord) → IsWritable (Add s) → HasWords text words
    → HasWords (line_text (addition_line s) ++ text) (item_words (spelled 0 (Add s)) ++ words)
addition_before s text words h t =
    let first = id_says s.id h.0.1 in
    let hints = ids_say s.hints (codes "0" ∷ []) (Number false 0 ∷ []) h.2 zero_ends in
    let line = literals_say s.literals (codes "0" ∷ (map decimal s.hints ++ codes "0" ∷ [])) (Number false 0 ∷ (map plain_word s.hints ++ Number false 0 ∷ [])) h.1
    (next_says (codes "0") (Number false 0) (map decimal s.hints ++ codes "0" ∷ []) (map plain_word s.hints ++ Number false 0 ∷ []) zero_says hints) in
    rw (first.says, line.say) at (line_before (decimal s.id) (map signed_decimal s.literals ++ codes "0" ∷ (map decimal s.hints ++ codes "0" ∷ [])) text words first.token line.tokens t)

deletion_before : (greatest : ℕ) (ids : List ℕ) (text : Bytes) (words : List LratWord) → greatest < 2 ^ 63 → All IsId ids → HasWords text words
    → HasWords (line_text (removal_line greatest ids) ++ text) (item_words (spelled greatest (Remove ids)) ++ words)
deletion_before greatest ids text words g h t =
    let first = id_says greatest g in
    let line = next_says (codes "d") Letter (map decimal ids ++ codes "0" ∷ []) (map plain_word ids ++ Number false 0 ∷ []) letter_says
    (ids_say ids (codes "0" ∷ []) (Number false 0 ∷ []) h zero_ends) in
    let all = line_before (decimal greatest) (codes "d" ∷ (map decimal ids ++ codes "0" ∷ [])) text words first.token line.tokens t in
    subst (λ ws. HasWords (line_text (removal_line greatest ids) ++ text) (plain_word greatest ∷ (ws ++ words))) line.say
    (subst (λ w. HasWords (line_text (removal_line greatest ids) ++ text) (w ∷ (map token_word (codes "d" ∷ (map decimal ids ++ codes "0" ∷ [])) ++ words))) first.says all)

item_before : (greatest : ℕ) (item : LogItem) (text : Bytes) (words : List LratWord) → greatest < 2 ^ 63 → IsWritable item → HasWords text words
    → HasWords (line_text (item_line greatest item) ++ text) (item_words (spelled greatest item) ++ words)
item_before greatest (Add s) text words g h t = addition_before s text words h t
item_before greatest (Remove ids) text words g h t = deletion_before greatest ids text words g h t

greatest_small : (greatest : ℕ) (item : LogItem) → greatest < 2 ^ 63 → IsWritable item → greatest_with greatest item < 2 ^ 63
greatest_small greatest (Add s) g h = let small = h.0.1 in omega arith
greatest_small greatest (Remove ids) g h = g

log_words : (greatest : ℕ) (log : List LogItem) → greatest < 2 ^ 63 → All IsWritable log → HasWords (text_of (log_lines greatest log)) (flat_map item_words (spelled_log greatest log))
unfolding text_of
log_words greatest [] g h = no_words
log_words greatest (item ∷ log) g h =
    let first = All-head IsWritable item log h in
    let next = greatest_with greatest item in
    item_before greatest item (text_of (log_lines next log)) (flat_map item_words (spelled_log next log)) g first
    (log_words next log (greatest_small greatest item g first) (All-tail IsWritable item log h))

-- what is spelled is what was written
literals_spelled : (literals : Clause) → map literal_of (map signed_number literals) ≡ literals
literals_spelled [] = refl
literals_spelled (pos n ∷ literals) = ap (λ ls. pos n ∷ ls) (literals_spelled literals)
literals_spelled (negsuc k ∷ literals) = ap (λ ls. negsuc k ∷ ls) (literals_spelled literals)

item_spelled : (greatest : ℕ) (item : LogItem) → spelled_item (spelled greatest item) ≡ item
item_spelled greatest (Add s) = ap (λ ls. Add (record s { literals = ls })) (literals_spelled s.literals)
item_spelled greatest (Remove ids) = refl

log_spelled : (greatest : ℕ) (log : List LogItem) → map spelled_item (spelled_log greatest log) ≡ log
log_spelled greatest [] = refl
log_spelled greatest (item ∷ log) = let first = item_spelled greatest item in let rest = log_spelled (greatest_with greatest item) log in cc (first, rest)

sizes_spelled : (literals : Clause) → All IsLiteral literals → AreLiteralSizes (map signed_number literals)
sizes_spelled [] h = tt
sizes_spelled (pos n ∷ literals) h =
    let first = All-head IsLiteral (pos n) literals h in
    (omega (arith, first.not_zero), omega (arith, first.within), sizes_spelled literals (All-tail IsLiteral (pos n) literals h))
sizes_spelled (negsuc k ∷ literals) h =
    let first = All-head IsLiteral (negsuc k) literals h in
    (omega (arith, first.not_zero), omega (arith, first.within), sizes_spelled literals (All-tail IsLiteral (negsuc k) literals h))

ids_positive : (ids : List ℕ) → All IsId ids → ArePositive ids
ids_positive [] h = tt
ids_positive (n ∷ ids) h = ((All-head IsId n ids h).0, ids_positive ids (All-tail IsId n ids h))

item_formed : (greatest : ℕ) (item : LogItem) → IsWritable item → IsSpelled (spelled greatest item)
item_formed greatest (Add s) h = (h.0.0, sizes_spelled s.literals h.1, ids_positive s.hints h.2)
item_formed greatest (Remove ids) h = (refl, ids_positive ids h)

log_formed : (greatest : ℕ) (log : List LogItem) → All IsWritable log → AreSpelled (spelled_log greatest log)
log_formed greatest [] h = tt
log_formed greatest (item ∷ log) h =
    (item_formed greatest item (All-head IsWritable item log h), log_formed (greatest_with greatest item) log (All-tail IsWritable item log h))

log_spells : (log : List LogItem) → All IsWritable log → Spells (lrat_text log) (spelled_log 0 log)
unfolding lrat_text ended_tokens
log_spells log h =
    let words = log_words 0 log (omega arith) h in
    record {
      good = words.good;
      formed = log_formed 0 log h;
      words = words_ended 0 (slice_split is_blank (with_end (lrat_text log))) ∙ words.words_are;
    }

pub round_trip_law : RoundTripLaw
round_trip_law log h = grammar_law.accepted (lrat_text log) (spelled_log 0 log) (log_spells log h) ∙ ap (λ items. Ok items) (log_spelled 0 log)
