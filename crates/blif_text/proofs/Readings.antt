-- The reading of a text, refusal by refusal.
use Rattle.std.proofs.Common.{◌≡◌, ℕ, ◌<◌, ◌≤◌, leb, Bool, true, false, not, List, [], ◌∷◌, map, length, Option, Some, None, Result, Err, refl, sym, ap, ◌∙◌, arith}
use Rattle.std.proofs.lemmas.Bool.{le-leb, leb-true, leb-false, not-false, not-true, false_from_ne_true}
use Rattle.std.proofs.lemmas.List.{append-nil}
use Rattle.semantics.specs.Texts.{Bytes, Line}
use Rattle.semantics.specs.declared.limits.TheConstants.{MOST_ROWS}
use Rattle.semantics.specs.Net.{NetValue, row_count}
use Rattle.blif_semantics.specs.Lines.{LogicalLine, Statement, words_of, logical_lines, statements}
use Rattle.blif_semantics.specs.Statements.{place_after, WrongLine, wrong, first_wrong_after, first_wrong}
use Rattle.blif_semantics.specs.Reading.{Refusal, text_long, wrong_line, named_net, numbered, unless_refused, lines_reading, single, blif_reading}
use Rattle.blif_semantics.specs.Named.{IsNamedNet}
use Rattle.blif_semantics.proofs.RightLines.{all_right}
use Rattle.blif_semantics.proofs.ReadNet.{names_formed}
use Rattle.blif_text.specs.LogicalLines.{with_words, statement_of}
use Rattle.blif_text.specs.declared.refusal.BlifRefusal.{BlifRefusal}
use Rattle.blif_text.specs.Refusals.{Tells}
use Rattle.blif_text.specs.KeptLines.{words_in, rows_in, few_rows, KeptLines, nothing_kept, outcome, unless_wrong, without_rows, refused_for_rows}
use Rattle.blif_text.specs.Places.{start, first_wrong_in}
use Rattle.blif_text.proofs.LineSteps.{statements-with_words}
use Rattle.blif_text.proofs.ManyRows.{single_refused}
use Rattle.blif_text.proofs.RowCounts.{bare_kept, row_count-lines, all_kept}

first_wrong_in-after : (earlier : List Line) (lines : List Statement) → first_wrong_in (place_after earlier) lines ≡ first_wrong_after earlier lines
first_wrong_in-after earlier [] = refl
first_wrong_in-after earlier (s ∷ rest) =
    ap (λ (o : Option WrongLine). elim (wrong (place_after earlier) s.words) [ None ↦ o | Some w ↦ Some (record { line = s.line; wrong = w }) ])
    (first_wrong_in-after (s.words ∷ earlier) rest)

-- the place is all that a judgement needs of the lines before
first_wrong-in : (lines : List Statement) → first_wrong_in start lines ≡ first_wrong lines
unfolding first_wrong
first_wrong-in lines = first_wrong_in-after [] lines

-- the lines of words of a text
abbrev pub lines_of : Bytes → List Line
lines_of text = map (λ s. s.words) (statements (logical_lines text))

-- the lines with words of a text
abbrev all_lines : Bytes → List LogicalLine
all_lines text = with_words (logical_lines text)

-- what is judged of the lines with words is judged of the text
judged : (text : Bytes) → first_wrong_in start (map statement_of (all_lines text)) ≡ first_wrong (statements (logical_lines text))
judged text = ap (first_wrong_in start) (statements-with_words (logical_lines text)) ∙ first_wrong-in (statements (logical_lines text))

words_kept : (lines : List LogicalLine) → words_in lines ≡ map (λ s. s.words) (map statement_of lines)
words_kept [] = refl
words_kept (line ∷ lines) = ap (λ rest. words_of line.bytes ∷ rest) (words_kept lines)

-- the words of the lines with words are those of the text
all_words : (text : Bytes) → words_in (all_lines text) ≡ lines_of text
all_words text = words_kept (all_lines text) ∙ ap (map (λ s. s.words)) (statements-with_words (logical_lines text))

-- ---- the lines that are kept

-- all lines of a text were taken
abbrev pub HasTaken : KeptLines → Bytes → Type 0
HasTaken k text = outcome k [] ≡ outcome nothing_kept (logical_lines text)

pub none_wrong : (text : Bytes) (k : KeptLines) → HasTaken k text → first_wrong (statements (logical_lines text)) ≡ None
none_wrong text k taken = sym (ap (λ o. o.wrong) taken ∙ judged text)

kept_few : (text : Bytes) (k : KeptLines) → HasTaken k text → k.lines ≡ few_rows 0 (all_lines text)
kept_few text k taken = sym (append-nil k.lines) ∙ ap (λ o. o.lines) taken

pub few_if : (rows : ℕ) (many : Bool) → many ≡ not (leb rows MOST_ROWS) → many ≡ false → rows ≤ MOST_ROWS
few_if rows many is few = leb-true rows MOST_ROWS (not-false (leb rows MOST_ROWS) (sym is ∙ few))

pub many_if : (rows : ℕ) (many : Bool) → many ≡ not (leb rows MOST_ROWS) → many ≡ true → MOST_ROWS < rows
many_if rows many is there = leb-false rows MOST_ROWS (not-true (leb rows MOST_ROWS) (sym is ∙ there))

-- where there are few rows, the net of the lines that are kept is that of the text
pub few_named : (text : Bytes) (k : KeptLines) → HasTaken k text → k.rows ≤ MOST_ROWS → named_net (words_in k.lines) ≡ named_net (lines_of text)
few_named text k taken few =
    ap (λ l. named_net (words_in l)) (kept_few text k taken ∙ all_kept 0 (all_lines text) (omega (arith, ap (λ o. o.rows) taken, few)))
    ∙ ap named_net (all_words text)

-- however many rows there are, the nets are the same without them
pub many_named : (text : Bytes) (k : KeptLines) → HasTaken k text → without_rows (named_net (words_in k.lines)) ≡ without_rows (named_net (lines_of text))
many_named text k taken =
    ap (λ l. without_rows (named_net (words_in l))) (kept_few text k taken)
    ∙ bare_kept 0 (all_lines text)
    ∙ ap (λ words. without_rows (named_net words)) (all_words text)

-- where many rows were counted, the net of the text has many
pub many_counted : (text : Bytes) (k : KeptLines) → HasTaken k text → MOST_ROWS < k.rows → MOST_ROWS < row_count (numbered (named_net (lines_of text)))
many_counted text k taken many =
    let rows = row_count-lines (lines_of text) (all_right (statements (logical_lines text)) (none_wrong text k taken)) in
    omega (arith, ap (λ o. o.rows) taken, ap rows_in (all_words text), rows, many)

-- a net of too many rows is refused as it is without them
pub many_told : (text : Bytes) (k : KeptLines) → HasTaken k text → MOST_ROWS < k.rows → refused_for_rows (single (without_rows (named_net (lines_of text)))) ≡ single (named_net (lines_of text))
many_told text k taken many = single_refused (named_net (lines_of text)) (many_counted text k taken many)

pub formed : (text : Bytes) → first_wrong (statements (logical_lines text)) ≡ None → IsNamedNet (named_net (lines_of text))
formed text none = names_formed (lines_of text) (all_right (statements (logical_lines text)) none)

-- a text that is not too long is refused for its first wrong line, or else read by its lines
pub reading-short : (text : Bytes) (most : ℕ) → length text ≤ most
    → blif_reading text most ≡ unless_refused (first_wrong (statements (logical_lines text))) (λ w. wrong_line w.line w.wrong) (lines_reading (lines_of text))
unfolding blif_reading
reading-short text most short = rw (le-leb (length text) most short) refl

pub reading-long : (text : Bytes) (most : ℕ) → most < length text → blif_reading text most ≡ Err text_long
unfolding blif_reading
reading-long text most long = rw (false_from_ne_true (leb (length text) most) (λ t. absurd (omega (arith, leb-true (length text) most t, long)))) refl

pub reading-right : (text : Bytes) (most : ℕ) → length text ≤ most → first_wrong (statements (logical_lines text)) ≡ None → blif_reading text most ≡ single (named_net (lines_of text))
reading-right text most short none = reading-short text most short ∙ ap (λ o. unless_refused o (λ w. wrong_line w.line w.wrong) (lines_reading (lines_of text))) none

-- a line is wrong
pub wrong_told : (text : Bytes) (most : ℕ) (told : BlifRefusal) → length text ≤ most
    → ((answer : Result NetValue Refusal) → Tells told (unless_wrong (outcome nothing_kept (logical_lines text)).wrong answer)) → Tells told (blif_reading text most)
wrong_told text most told short h = λ refusal e.
    reading-short text most short
    ∙ ap (λ o. unless_refused o (λ w. wrong_line w.line w.wrong) (lines_reading (lines_of text))) (sym (judged text))
    ∙ h (lines_reading (lines_of text)) refusal e
