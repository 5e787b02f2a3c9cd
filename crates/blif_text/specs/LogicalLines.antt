-- Logical lines between the steps of the code that joins them.
use Rattle.std.specs.Prelude.{ℕ, ◌==◌, Bool, not, List, ◌++◌, length, filter, Option, Some, None}
use Rattle.semantics.specs.Texts.{Bytes}
use Rattle.blif_semantics.specs.Lines.{LogicalLine, joined_before, words_of, Statement}

-- the line that was begun, with these bytes appended; or, where none was begun, a new line of these bytes
abbrev pub gone_on : Option LogicalLine → ℕ → Bytes → LogicalLine
gone_on None number bytes = record { number = number; bytes = bytes }
gone_on (Some begun) number bytes = record begun { bytes = begun.bytes ++ bytes }

-- the logical lines of the rest, with the line that was begun, where one was
abbrev pub after_begun : Option LogicalLine → List LogicalLine → List LogicalLine
after_begun None lines = lines
after_begun (Some begun) lines = joined_before begun lines

abbrev pub has_words : LogicalLine → Bool
has_words line = not (length (words_of line.bytes) == 0)

-- the lines that mean something
abbrev pub with_words : List LogicalLine → List LogicalLine
with_words lines = filter has_words lines

abbrev pub statement_of : LogicalLine → Statement
statement_of line = record { line = line.number; words = words_of line.bytes }
