-- The two counts with which a text is refused where it has more or fewer clauses than its header says: the
-- count of the header, and the number of clauses that were read behind it. A count of the header that is not
-- below 2 ^ 64 - 1 is told as 2 ^ 64 - 1.
use Rattle.std.specs.Prelude.{◌≡◌, ℕ, List, [], ◌∷◌, flat_map, length, Option, None, Some, Result, Ok, Err}
use Rattle.semantics.specs.Texts.{Bytes}
use Rattle.blif_semantics.specs.Lines.{words_of}
use Rattle.proof_semantics.specs.Clauses.{Clause}
use Rattle.solve_cnf.specs.Reading.{Refusal, Header, lines_of, header_of, clauses_of}
use Rattle.solve_cnf.specs.Header.{held_number}
use Rattle.solve_cnf.specs.declared.formula_error.ReadError.{ReadError}
use Rattle.solve_cnf.specs.declared.formula_error.ReadError.TheVariants as e

abbrev pub counts_with : Header → Result (List Clause) Refusal → Option (ℕ × ℕ)
counts_with header (Err refusal) = None
counts_with header (Ok clauses) = Some (held_number header.clauses, length clauses)

abbrev pub counts_behind : Option Header → List Bytes → Option (ℕ × ℕ)
counts_behind None words = None
counts_behind (Some header) words = counts_with header (clauses_of header.variables words)

-- the header, and the words of all lines behind it
abbrev pub counts_of_lines : List Bytes → Option (ℕ × ℕ)
counts_of_lines [] = None
counts_of_lines (header ∷ lines) = counts_behind (header_of (words_of header)) (flat_map words_of lines)

-- none where the text has no header, or where the lines behind the header are not clauses
unfoldable pub clause_counts : Bytes → Option (ℕ × ℕ)
clause_counts text = counts_of_lines (lines_of text)

-- the counts that a refusal tells
abbrev pub counts_of : ReadError → Option (ℕ × ℕ)
counts_of e.NoHeader = None
counts_of (e.BadHeader line) = None
counts_of (e.NoNumber line) = None
counts_of (e.NoVariable line) = None
counts_of e.Unended = None
counts_of (e.WrongCount told found) = Some (told, found)
counts_of e.OutOfMemory = None

-- if the refusal tells counts, they are these
abbrev pub Counts : ReadError → Option (ℕ × ℕ) → Type 0
Counts told counts = (said found : ℕ) → counts_of told ≡ Some (said, found) → counts ≡ Some (said, found)
