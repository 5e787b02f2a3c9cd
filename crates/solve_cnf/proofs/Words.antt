-- One word more for a draft of clauses.
use Rattle.std.proofs.Common.{◌≡◌, ℕ, ◌+◌, ◌<◌, Bool, true, false, cond, List, [], ◌∷◌, ◌++◌, map, flat_map, length, get_or, drop, None, Result, ℤ, pos, refl, sym, ap, ◌∙◌, append_assoc}
use Rattle.std.specs.Prelude.{filter_map}
use Rattle.std.specs.Borrow.{Bor}
use Rattle.std.specs.List.{slice_split, onto_first, cons_option}
use Rattle.std.specs.Ordering.{int_eq}
use Rattle.std.proofs.lemmas.List.{append-nil, drop_more}
use Rattle.std.proofs.lemmas.List.Splits.{slice_split-cons_yes, slice_split-cons_no}
use Rattle.semantics.specs.Texts.{Bytes}
use Rattle.blif_semantics.specs.Lines.{words_of}
use Rattle.proof_semantics.specs.Clauses.{Clause}
use Rattle.solve_cnf.specs.Reading.{Refusal, number_of, wrong_word, ended_parts, unless_refused, clauses_of}
use Rattle.solve_cnf.specs.Slices.{line_texts}
use Rattle.text_words.specs.Slices.{texts}
use Rattle.solve_cnf.specs.FormulaDraft.{DraftValue, gone_on, clauses_with, after_number, with_number}
use Rattle.solve_cnf.specs.Refusals.{Tells}
use Rattle.solve_cnf.specs.declared.formula_error.ReadError.{ReadError}

abbrev is_end : ℤ → Bool
is_end n = int_eq n (pos 0)

-- ---- the parts of numbers

gone_on-first : (clause : Clause) (n : ℤ) (parts : List Clause) → gone_on (clause ++ n ∷ []) parts ≡ gone_on clause (onto_first n parts)
gone_on-first clause n [] = refl
gone_on-first clause n (part ∷ parts) = ap (λ p. p ∷ parts) (append_assoc clause (n ∷ []) part)

onto_nothing : (n : ℤ) (parts : List Clause) (b : Bool) → gone_on [] (cond b ([] ∷ parts) (onto_first n parts)) ≡ cond b ([] ∷ parts) (onto_first n parts)
onto_nothing n parts true = refl
onto_nothing n [] false = refl
onto_nothing n (part ∷ parts) false = refl

-- nothing before the first part
gone_on-nothing : (ns : List ℤ) → gone_on [] (slice_split is_end ns) ≡ slice_split is_end ns
gone_on-nothing [] = refl
gone_on-nothing (n ∷ ns) = onto_nothing n (slice_split is_end ns) (is_end n)

parts-end : (ended : List Clause) (clause : Clause) (n : ℤ) (ns : List ℤ) → is_end n ≡ true
    → (ended ++ clause ∷ []) ++ gone_on [] (slice_split is_end ns) ≡ ended ++ gone_on clause (slice_split is_end (n ∷ ns))
parts-end ended clause n ns is =
    append_assoc ended (clause ∷ []) (gone_on [] (slice_split is_end ns))
    ∙ ap (λ parts. ended ++ clause ∷ parts) (gone_on-nothing ns)
    ∙ ap (λ c. ended ++ c ∷ slice_split is_end ns) (sym (append-nil clause))
    ∙ ap (λ parts. ended ++ gone_on clause parts) (sym (slice_split-cons_yes is_end n ns is))

parts-literal : (ended : List Clause) (clause : Clause) (n : ℤ) (ns : List ℤ) → is_end n ≡ false
    → ended ++ gone_on (clause ++ n ∷ []) (slice_split is_end ns) ≡ ended ++ gone_on clause (slice_split is_end (n ∷ ns))
parts-literal ended clause n ns is =
    ap (λ parts. ended ++ parts) (gone_on-first clause n (slice_split is_end ns))
    ∙ ap (λ parts. ended ++ gone_on clause parts) (sym (slice_split-cons_no is_end n ns is))

-- ---- a word

number_next : (d : DraftValue) (n : ℤ) (words : List Bytes) (t : Bool) → is_end n ≡ t
    → clauses_with (after_number d n t) words
    ≡ unless_refused (filter_map (wrong_word d.variables) words) (ended_parts (d.ended ++ gone_on d.begun (slice_split is_end (n ∷ map number_of words))))
number_next d n words true is =
    ap (λ parts. unless_refused (filter_map (wrong_word d.variables) words) (ended_parts parts)) (parts-end d.ended d.begun n (map number_of words) is)
number_next d n words false is =
    ap (λ parts. unless_refused (filter_map (wrong_word d.variables) words) (ended_parts parts)) (parts-literal d.ended d.begun n (map number_of words) is)

pub word_right : (d next : DraftValue) (word : Bytes) (n : ℤ) → wrong_word d.variables word ≡ None → n ≡ number_of word → next ≡ with_number d n
    → (rest : List Bytes) → clauses_with next rest ≡ clauses_with d (word ∷ rest)
word_right d next word n right is same rest =
    ap (λ x. clauses_with x rest) (same ∙ ap (with_number d) is)
    ∙ number_next d (number_of word) rest (is_end (number_of word)) refl
    ∙ ap (λ wrong. unless_refused (cons_option wrong (filter_map (wrong_word d.variables) rest)) (ended_parts (d.ended ++ gone_on d.begun (slice_split is_end (map number_of (word ∷ rest))))))
    (sym right)

-- ---- the words of a line

-- what stands behind the last word of a list
abbrev no_word : Bor Bytes
no_word = record { ref_ptr = (0, 0); now = [] }

-- what is to come from a place on means what all the words meant at the start
abbrev pub GoesOn : DraftValue → DraftValue → List (Bor Bytes) → ℕ → List Bytes → Type 0
GoesOn start d words i all = (rest : List Bytes) → clauses_with d (texts (drop i words) ++ rest) ≡ clauses_with start (all ++ rest)

at_word : (words : List (Bor Bytes)) (i : ℕ) → i < length words → texts (drop i words) ≡ (get_or words i no_word).now ∷ texts (drop (i + 1) words)
at_word words i within = ap texts (drop_more words i no_word within)

pub words_refused : (start d : DraftValue) (words : List (Bor Bytes)) (i : ℕ) (all : List Bytes) (told : ReadError) → i < length words
    → ((rest : List Bytes) → Tells told (clauses_with d ((get_or words i no_word).now ∷ rest))) → GoesOn start d words i all → (rest : List Bytes) → Tells told (clauses_with start (all ++ rest))
words_refused start d words i all told within wrong before rest refusal tells =
    sym (before rest) ∙ ap (λ l. clauses_with d (l ++ rest)) (at_word words i within) ∙ wrong (texts (drop (i + 1) words) ++ rest) refusal tells

-- ---- lines

abbrev pub words_in : List (ℕ × Bor Bytes) → List Bytes
words_in lines = flat_map words_of (line_texts lines)

-- what stands behind the last line of a list
abbrev no_line : ℕ × Bor Bytes
no_line = (0, no_word)

at_line : (lines : List (ℕ × Bor Bytes)) (i : ℕ) → i < length lines → words_in (drop i lines) ≡ words_of (get_or lines i no_line).1.now ++ words_in (drop (i + 1) lines)
at_line lines i within = ap words_in (drop_more lines i no_line within)

pub lines_refused : (d : DraftValue) (lines : List (ℕ × Bor Bytes)) (i : ℕ) (told : ReadError) {all : Result (List Clause) Refusal} → i < length lines
    → ((rest : List Bytes) → Tells told (clauses_with d (words_of (get_or lines i no_line).1.now ++ rest))) → clauses_with d (words_in (drop i lines)) ≡ all → Tells told all
lines_refused d lines i told within wrong before refusal tells =
    sym before ∙ ap (clauses_with d) (at_line lines i within) ∙ wrong (words_in (drop (i + 1) lines)) refusal tells

-- ---- all words

pub clauses_from_start : (variables : ℕ) (words : List Bytes) → clauses_with (record { variables = variables; ended = []; begun = [] }) words ≡ clauses_of variables words
clauses_from_start variables words = ap (λ parts. unless_refused (filter_map (wrong_word variables) words) (ended_parts parts)) (gone_on-nothing (map number_of words))
