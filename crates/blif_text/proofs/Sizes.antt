-- A text has no more names than bytes.
use Rattle.std.proofs.Common.{◌≡◌, ℕ, ◌+◌, ◌-◌, ◌≤◌, ◌==◌, Bool, true, false, not, cond, List, [], ◌∷◌, length, take, map, flat_map, filter, Option, Some, None, refl, ap, arith}
use Rattle.std.specs.List.{slice_split, onto_first, suffix_len}
use Rattle.std.specs.Prelude.{slice_index, position}
use Rattle.std.proofs.lemmas.List.{length-append, length-map, length-take}
use Rattle.std.proofs.lemmas.List.Splits.{slice_split-cons_yes, slice_split-cons_no}
use Rattle.std.proofs.lemmas.Option.{cond_some}
use Rattle.semantics.specs.Texts.{Bytes, Line}
use Rattle.blif_semantics.specs.declared.kind.Kind.{Kind}
use Rattle.blif_semantics.specs.declared.kind.Kind.TheVariants as kind
use Rattle.blif_semantics.specs.Lines.{is_blank, physical_lines, without_comment, trimmed, before_backslash, LogicalLine, joined_before, line_before, logical_from, logical_lines, words_of, statements}
use Rattle.blif_semantics.specs.Statements.{kind_of, kind_of_word, arguments}
use Rattle.blif_semantics.specs.Tables.{table_first, tables_of}
use Rattle.blif_semantics.specs.Reading.{is_inputs, listed, named_net, names_of}
use Rattle.blif_text.specs.LogicalLines.{has_words}

-- the sum over a list, from its front
abbrev sizes : {X : Type 0} → (X → ℕ) → List X → ℕ
sizes f [] = 0
sizes f (x ∷ xs) = f x + sizes f xs

-- ---- parts and words

abbrev nonempty : Bytes → Bool
nonempty w = not (length w == 0)

abbrev filled : List Bytes → ℕ
filled parts = length (filter nonempty parts)

abbrev total : List Bytes → ℕ
total parts = sizes (λ (part : Bytes). length part) parts

filled-cons : (b : ℕ) (bs : Bytes) (parts : List Bytes) (t : Bool) → nonempty (b ∷ bs) ≡ t → filled ((b ∷ bs) ∷ parts) ≤ 1 + filled parts
filled-cons b bs parts true e = rw e (omega arith)
filled-cons b bs parts false e = rw e (omega arith)

filled-total : (parts : List Bytes) → filled parts ≤ total parts
filled-total [] = omega arith
filled-total ([] ∷ parts) = omega (arith, filled-total parts)
filled-total ((b ∷ bs) ∷ parts) = omega (arith, filled-cons b bs parts (nonempty (b ∷ bs)) refl, filled-total parts)

total-onto : (x : ℕ) (parts : List Bytes) → total (onto_first x parts) ≡ 1 + total parts
total-onto x [] = omega arith
total-onto x (part ∷ parts) = omega arith

total-next : (p : ℕ → Bool) (b : ℕ) (bs : Bytes) → total (slice_split p bs) ≤ length bs → (t : Bool) → p b ≡ t → total (slice_split p (b ∷ bs)) ≤ 1 + length bs
total-next p b bs rest true e = rw (slice_split-cons_yes p b bs e) (omega (arith, rest))
total-next p b bs rest false e = rw (slice_split-cons_no p b bs e) (omega (arith, rest, total-onto b (slice_split p bs)))

total-split : (p : ℕ → Bool) (bs : Bytes) → total (slice_split p bs) ≤ length bs
total-split p [] = omega arith
total-split p (b ∷ bs) = let next = total-next p b bs (total-split p bs) (p b) refl in omega (arith, next)

words_below : (line : Bytes) → length (words_of line) ≤ length line
words_below line = omega (arith, filled-total (slice_split is_blank line), total-split is_blank line)

-- ---- logical lines

taken : (n : ℕ) (bs : Bytes) → length (take n bs) ≤ length bs
taken n bs = omega (arith, length-take n bs)

commented : (line : Bytes) → length (without_comment line) ≤ length line
commented line = at_place (position (λ b. b == 35) line)
  where
    at_place : (o : Option ℕ) → length {A = ℕ} (elim o [ None ↦ line | Some at ↦ take at line ]) ≤ length line
    at_place None = omega arith
    at_place (Some at) = taken at line

front_below : (line front : Bytes) → before_backslash line ≡ Some front → length front ≤ length line
front_below line front e =
    let kept : Bytes = trimmed line in
    let is : take (length kept - 1) kept ≡ front = (cond_some (slice_index kept (length kept - 1) == 92) (take (length kept - 1) kept) front e).1 in
    omega (arith, ap length is, taken (length kept - 1) kept, taken (length line - suffix_len is_blank line) line)

abbrev bytes_total : List LogicalLine → ℕ
bytes_total lines = sizes (λ l. length l.bytes) lines

joined_total : (line : LogicalLine) (lines : List LogicalLine) → bytes_total (joined_before line lines) ≡ length line.bytes + bytes_total lines
joined_total line [] = omega arith
joined_total line (next ∷ lines) = omega (arith, length-append line.bytes next.bytes)

line_below : (number : ℕ) (line : Bytes) (lines : List LogicalLine) → bytes_total (line_before number line lines) ≤ length line + bytes_total lines
line_below number line lines = at_front (before_backslash line) refl
  where
    at_front : (o : Option Bytes) → before_backslash line ≡ o
        → bytes_total (elim o [ None ↦ record { number = number; bytes = line } ∷ lines | Some bytes ↦ joined_before (record { number = number; bytes = bytes }) lines ])
        ≤ length line + bytes_total lines
    at_front None e = omega arith
    at_front (Some front) e = omega (arith, joined_total (record { number = number; bytes = front }) lines, front_below line front e)

logical_below : (number : ℕ) (parts : List Bytes) → bytes_total (logical_from number parts) ≤ total parts
logical_below number [] = omega arith
logical_below number (line ∷ parts) =
    omega (arith, line_below number (without_comment line) (logical_from (number + 1) parts), commented line, logical_below (number + 1) parts)

-- ---- statements

abbrev word_count : List Line → ℕ
word_count lines = sizes (λ (words : Line). length words) lines

abbrev words_in : List LogicalLine → List Line
words_in lines = map (λ s. s.words) (statements lines)

counted : (line : LogicalLine) (lines : List LogicalLine) → word_count (words_in lines) ≤ bytes_total lines → (t : Bool) → has_words line ≡ t
    → word_count (words_in (line ∷ lines)) ≤ length line.bytes + bytes_total lines
counted line lines rest true e = rw e (omega (arith, rest, words_below line.bytes))
counted line lines rest false e = rw e (omega (arith, rest))

words_total : (lines : List LogicalLine) → word_count (words_in lines) ≤ bytes_total lines
words_total [] = omega arith
words_total (line ∷ lines) = let next = counted line lines (words_total lines) (has_words line) refl in omega (arith, next)

-- ---- names

abbrev of_inputs : List Line → List Line
of_inputs lines = filter (λ words. is_inputs (kind_of words)) lines

names_as : (k : Kind) (word : Bytes) (words : List Bytes) (lines : List Line) → length (listed is_inputs lines) + length (tables_of lines) ≤ word_count lines
    → length (flat_map arguments (cond (is_inputs k) ((word ∷ words) ∷ of_inputs lines) (of_inputs lines))) + length (table_first k (word ∷ words) lines (tables_of lines))
    ≤ 1 + length words + word_count lines
names_as kind.Model word words lines h = omega (arith, h)
names_as kind.Inputs word words lines h = omega (arith, h, length-append words (listed is_inputs lines))
names_as kind.Outputs word words lines h = omega (arith, h)
names_as kind.Names word words lines h = omega (arith, h)
names_as kind.End word words lines h = omega (arith, h)
names_as kind.Command word words lines h = omega (arith, h)
names_as kind.Row word words lines h = omega (arith, h)

names_in : (lines : List Line) → length (listed is_inputs lines) + length (tables_of lines) ≤ word_count lines
names_in [] = omega arith
names_in ([] ∷ lines) = omega (arith, names_in lines)
names_in ((word ∷ words) ∷ lines) = let next = names_as (kind_of_word word) word words lines (names_in lines) in omega (arith, next)

-- the names of a net of names are no more than the words of its lines
names_count : (lines : List Line) → length (names_of (named_net lines)) ≤ word_count lines
unfolding named_net
names_count lines =
    omega (arith, names_in lines, length-append (listed is_inputs lines) (map (λ t. t.name) (tables_of lines)), length-map (tables_of lines) (λ t. t.name))

pub names_below : (text : Bytes) → length (names_of (named_net (words_in (logical_lines text)))) ≤ length text
unfolding logical_lines
names_below text =
    omega (arith, names_count (words_in (logical_lines text)), words_total (logical_lines text), logical_below 1 (physical_lines text), total-split (λ b. b == 10) text)
