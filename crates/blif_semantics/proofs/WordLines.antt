-- Lines of words that are written, cut into the same words again.
use Rattle.std.proofs.Common.{◌≡◌, ◌≢◌, ℕ, ◌+◌, ◌-◌, ◌<◌, Bool, true, false, ◌==◌, not, ◌||◌, List, [], ◌∷◌, ◌++◌, map, length, get_or, All, None, refl, ap, ◌∙◌, append_assoc, arith}
use Rattle.std.specs.List.{AllByRecursion, filter, slice_split, suffix_len, join_with_byte, position, position_or_len}
use Rattle.std.proofs.lemmas.Bool.{ne_eqb, le-ltb, or_from}
use Rattle.std.proofs.lemmas.List.{length-append, take_all}
use Rattle.std.proofs.lemmas.List.Elements.{All-weaker, All-append, All-cons, All-get_or}
use Rattle.std.proofs.lemmas.List.Sums.{suffix_len_is, position_or_len_is}
use Rattle.std.proofs.lemmas.List.Splits.{slice_split_none, slice_split_at}
use Rattle.std.proofs.Math.Seq.{get_or-append_right}
use Rattle.semantics.specs.Texts.{Bytes, Line, text_of}
use Rattle.semantics.specs.Net.{IsNameByte}
use Rattle.blif_semantics.specs.Lines.{is_blank, physical_lines, without_comment, trimmed, before_backslash, LogicalLine, line_before, logical_from, logical_lines, words_of, statements}

-- some bytes, the last of which may end a line, since it is printable and no backslash
record IsEnded (bytes : Bytes) : Type 0 where
  some : 0 < length bytes
  last : IsNameByte (get_or bytes (length bytes - 1) 0)
  ending : get_or bytes (length bytes - 1) 0 ≢ 92

-- a word that is written
pub record IsWord (word : Bytes) : Type 0 where
  pub some : 0 < length word
  pub printable : All IsNameByte word
  pub ending : get_or word (length word - 1) 0 ≢ 92

-- at least one word
pub record IsLine (line : Line) : Type 0 where
  pub some : 0 < length line
  pub words : AllByRecursion IsWord line

-- ---- what is no byte of a joined line

-- a test that no printable byte passes but `#`, and no blank between words
record IsForeign (test : ℕ → Bool) : Type 0 where
  blank : test 32 ≡ false
  name_byte : (b : ℕ) → IsNameByte b → test b ≡ false

foreign_word : (test : ℕ → Bool) → ((b : ℕ) → IsNameByte b → test b ≡ false) → (word : Bytes) → IsWord word → All (λ b. test b ≡ false) word
foreign_word test none word h = All-weaker IsNameByte (λ b. test b ≡ false) none word h.printable

foreign_line : (test : ℕ → Bool) → IsForeign test → (words : Line) → AllByRecursion IsWord words → All (λ b. test b ≡ false) (join_with_byte 32 words)
foreign_line test none [] h = λ k d l. absurd (omega arith)
foreign_line test none (w ∷ []) h = foreign_word test none.name_byte w h.0
foreign_line test none (w ∷ v ∷ words) h =
    All-append (λ b. test b ≡ false) w (32 ∷ join_with_byte 32 (v ∷ words)) (foreign_word test none.name_byte w h.0)
    (All-cons (λ b. test b ≡ false) 32 (join_with_byte 32 (v ∷ words)) none.blank (foreign_line test none (v ∷ words) h.1))

no_line_end : IsForeign (λ b. b == 10)
no_line_end = record { blank = refl; name_byte = λ b range. ne_eqb b 10 (λ e. omega (arith, e, range.0)) }

no_comment : IsForeign (λ b. b == 35)
no_comment = record { blank = refl; name_byte = λ b range. ne_eqb b 35 range.2 }

no_blank : (b : ℕ) → IsNameByte b → is_blank b ≡ false
no_blank b range =
    or_from (b == 32 || b == 9) (b == 13)
    (or_from (b == 32) (b == 9) (ne_eqb b 32 (λ e. omega (arith, e, range.0))) (ne_eqb b 9 (λ e. omega (arith, e, range.0))))
    (ne_eqb b 13 (λ e. omega (arith, e, range.0)))

-- ---- no comment is cut from a joined line, and no backslash

without_comment-same : (line : Bytes) → All (λ b. (b == 35) ≡ false) line → without_comment line ≡ line
without_comment-same line h =
    let place : position_or_len (λ b. b == 35) line ≡ length line =
    position_or_len_is (λ b. b == 35) line (length line) 0 (omega arith) (λ k l. All-get_or (λ b. (b == 35) ≡ false) line k 0 l h) (λ l. absurd (omega (arith, l))) in
    let none : position (λ b. b == 35) line ≡ None = rw (place, le-ltb (length line) (length line) (omega arith)) refl in
    rw (none, without_comment) refl

ended_word : (word : Bytes) → IsWord word → IsEnded word
ended_word word h = record { some = h.some; last = All-get_or IsNameByte word (length word - 1) 0 (omega (arith, h.some)) h.printable; ending = h.ending }

ended_append : (front back : Bytes) → IsEnded back → IsEnded (front ++ back)
ended_append front back h =
    let place : get_or (front ++ back) (length (front ++ back) - 1) 0 ≡ get_or back (length back - 1) 0 =
    get_or-append_right front back (length (front ++ back) - 1) 0 (omega (arith, length-append front back, h.some))
    ∙ ap (λ k. get_or back k 0) (omega (arith, length-append front back, h.some)) in
    record {
      some = omega (arith, length-append front back, h.some);
      last = rw place h.last;
      ending = rw place h.ending;
    }

ended_line : (words : Line) → 0 < length words → AllByRecursion IsWord words → IsEnded (join_with_byte 32 words)
ended_line [] some h = absurd (omega arith)
ended_line (w ∷ []) some h = ended_word w h.0
ended_line (w ∷ v ∷ words) some h =
    let rest : IsEnded (join_with_byte 32 (v ∷ words)) = ended_line (v ∷ words) (omega arith) h.1 in
    ended_append w (32 ∷ join_with_byte 32 (v ∷ words)) (ended_append (32 ∷ []) (join_with_byte 32 (v ∷ words)) rest)

trimmed-same : (line : Bytes) → IsEnded line → trimmed line ≡ line
trimmed-same line h =
    let none : suffix_len is_blank line ≡ length line - length line =
    suffix_len_is is_blank line (length line) 0 (omega arith) (λ k low high. absurd (omega (arith, low, high))) (λ some. no_blank (get_or line (length line - 1) 0) h.last) in
    take_all (length line - suffix_len is_blank line) line (omega (arith, none))

before_backslash-none : (line : Bytes) → IsEnded line → before_backslash line ≡ None
before_backslash-none line h =
    let kept = trimmed-same line h in
    rw (kept, ne_eqb (get_or line (length line - 1) 0) 92 h.ending) refl

-- ---- a joined line is cut into its words

pub split_words : (test : ℕ → Bool) → test 32 ≡ true → ((b : ℕ) → IsNameByte b → test b ≡ false) → (words : Line) → 0 < length words → AllByRecursion IsWord words
    → slice_split test (join_with_byte 32 words) ≡ words
split_words test cut none [] some h = absurd (omega arith)
split_words test cut none (w ∷ []) some h = slice_split_none test w (foreign_word test none w h.0)
split_words test cut none (w ∷ v ∷ words) some h =
    slice_split_at test w 32 (join_with_byte 32 (v ∷ words)) (foreign_word test none w h.0) cut
    ∙ ap (λ rest. w ∷ rest) (split_words test cut none (v ∷ words) (omega arith) h.1)

words_kept : (words : Line) → AllByRecursion IsWord words → filter (λ w. not (length w == 0)) words ≡ words
words_kept [] h = refl
words_kept (w ∷ words) h = rw (ne_eqb (length w) 0 (λ e. omega (arith, e, h.0.some)), words_kept words h.1) refl

words_of-joined : (words : Line) → IsLine words → words_of (join_with_byte 32 words) ≡ words
words_of-joined words h = ap (filter (λ w. not (length w == 0))) (split_words is_blank refl no_blank words h.some h.words) ∙ words_kept words h.words

-- ---- a text of such lines

pub physical_lines-text_of : (lines : List Line) → AllByRecursion IsLine lines → physical_lines (text_of lines) ≡ map (join_with_byte 32) lines ++ [] ∷ []
unfolding text_of
physical_lines-text_of [] h = refl
physical_lines-text_of (line ∷ lines) h =
    ap (slice_split (λ b. b == 10)) (append_assoc (join_with_byte 32 line) (10 ∷ []) (text_of lines))
    ∙ slice_split_at (λ b. b == 10) (join_with_byte 32 line) 10 (text_of lines) (foreign_line (λ b. b == 10) no_line_end line h.0.words) refl
    ∙ ap (λ rest. join_with_byte 32 line ∷ rest) (physical_lines-text_of lines h.1)

logical_alone : (number : ℕ) (line : Bytes) (lines : List Bytes) → without_comment line ≡ line → before_backslash line ≡ None
    → logical_from number (line ∷ lines) ≡ record { number = number; bytes = line } ∷ logical_from (number + 1) lines
logical_alone number line lines uncut alone = ap (λ bytes. line_before number bytes (logical_from (number + 1) lines)) uncut ∙ rw (alone, line_before) refl

abbrev words_in : List LogicalLine → List Line
words_in lines = map (λ s. s.words) (statements lines)

words_in-more : (number : ℕ) (bytes : Bytes) (words : Line) (lines : List LogicalLine) → words_of bytes ≡ words → 0 < length words
    → words_in (record { number = number; bytes = bytes } ∷ lines) ≡ words ∷ words_in lines
words_in-more number bytes words lines is some = let kept = ne_eqb (length words) 0 (λ e. omega (arith, e, some)) in rw (is, kept) refl

-- each line is a statement of these words
statement_words : (number : ℕ) (lines : List Line) → AllByRecursion IsLine lines → words_in (logical_from number (map (join_with_byte 32) lines ++ [] ∷ [])) ≡ lines
statement_words number [] h = refl
statement_words number (line ∷ lines) h =
    let bytes : Bytes = join_with_byte 32 line in
    let others : List Bytes = map (join_with_byte 32) lines ++ [] ∷ [] in
    let uncut = without_comment-same bytes (foreign_line (λ b. b == 35) no_comment line h.0.words) in
    let alone = before_backslash-none bytes (ended_line line h.0.some h.0.words) in
    ap words_in (logical_alone number bytes others uncut alone)
    ∙ words_in-more number bytes line (logical_from (number + 1) others) (words_of-joined line h.0) h.0.some
    ∙ ap (λ rest. line ∷ rest) (statement_words (number + 1) lines h.1)

pub statements-text_of : (lines : List Line) → AllByRecursion IsLine lines → map (λ s. s.words) (statements (logical_lines (text_of lines))) ≡ lines
unfolding logical_lines
statements-text_of lines h = ap (λ parts. words_in (logical_from 1 parts)) (physical_lines-text_of lines h) ∙ statement_words 1 lines h
