-- What a text means as a formula. Source: DIMACS: comments, the line `p cnf`, and numbers, of which 0 ends a
-- clause, over as many lines as one likes. As this tool reads it, blanks are space, tab and CR, and a number
-- may have leading zeros.
use Rattle.std.specs.Prelude.{ℕ, ◌-◌, ◌^◌, Bool, not, ◌&&◌, ◌==◌, if◌then◌else◌, List, [], ◌∷◌, map, filter}
use Rattle.std.specs.Prelude.{filter_map, flat_map, length, take, drop, slice_index, slice_index_or, codes}
use Rattle.std.specs.Prelude.{bytes_eq, nat_lt, ℤ, pos, neg_ℤ, Option, None, Some, Result, Ok, Err}
use Rattle.std.specs.List.{list_all, slice_split}
use Rattle.std.specs.Ordering.{int_eq}
use Rattle.semantics.specs.Texts.{Bytes, Line}
use Rattle.semantics.specs.Decimal.{is_digit, digits_number}
use Rattle.blif_semantics.specs.Lines.{is_blank, physical_lines, words_of}
use Rattle.proof_semantics.specs.Clauses.{Clause}
use Rattle.proof_semantics.specs.Formula.{Formula}

-- Why a text means no formula: it has no line but comments and blanks; its first line is no header; a word
-- behind it is no number, or a literal of no variable; nothing ends the last clause; there are more or fewer
-- clauses than the header says.
pub data Refusal : Type 0 where
  no_header : Refusal
  bad_header : Refusal
  no_number : Refusal
  no_variable : Refusal
  unended : Refusal
  wrong_count : Refusal

-- its first byte is `c`
abbrev pub is_comment : Bytes → Bool
is_comment line = slice_index line 0 == 99

-- the lines that are no comments and have more than blanks
abbrev pub lines_of : Bytes → List Bytes
lines_of text = filter (λ line. not (is_comment line) && not (list_all is_blank line)) (physical_lines text)

-- one digit or more
abbrev pub are_digits : Bytes → Bool
are_digits digits = not (length digits == 0) && list_all is_digit digits

-- the number of variables, and the number of clauses
pub record Header : Type 0 where
  pub variables : ℕ
  pub clauses : ℕ

-- `p`, `cnf`, the number of variables, below 2 ^ 31, and the number of clauses
abbrev pub header_of : Line → Option Header
header_of (p ∷ cnf ∷ variables ∷ clauses ∷ []) =
    if (bytes_eq p (codes "p") && bytes_eq cnf (codes "cnf")) && (are_digits variables && are_digits clauses)
    && nat_lt (digits_number variables) (2 ^ 31)
    then Some (record { variables = digits_number variables; clauses = digits_number clauses })
    else None
header_of _ = None

-- a number's sign, its digits behind the minus if there is one, and itself
abbrev pub is_negative : Bytes → Bool
is_negative word = slice_index word 0 == 45

abbrev pub digits_of : Bytes → Bytes
digits_of word = if is_negative word then drop 1 word else word

abbrev pub number_of : Bytes → ℤ
number_of word = if is_negative word then neg_ℤ (pos (digits_number (digits_of word)))
    else pos (digits_number (digits_of word))

-- what is wrong with a word as a literal of the first `variables` variables, or as 0
abbrev pub wrong_word : ℕ → Bytes → Option Refusal
wrong_word variables word =
    if are_digits (digits_of word)
    then (if nat_lt variables (digits_number (digits_of word)) then Some no_variable else None)
    else Some no_number

-- The clauses of the parts before, between and behind the zeros: each part but the last is a clause. Nothing
-- ends the last part, so it has to be empty.
abbrev pub ended_parts : List Clause → Result (List Clause) Refusal
ended_parts parts =
    if length (slice_index_or parts (length parts - 1) []) == 0 then Ok (take (length parts - 1) parts)
    else Err unended

-- the first of the refusals, if there is any
abbrev pub unless_refused : List Refusal → Result (List Clause) Refusal → Result (List Clause) Refusal
unless_refused [] clauses = clauses
unless_refused (refusal ∷ refusals) clauses = Err refusal

-- the clauses, over the first `variables` variables, that the words are, or the refusal of the first wrong
-- word
abbrev pub clauses_of : ℕ → List Bytes → Result (List Clause) Refusal
clauses_of variables words =
    unless_refused (filter_map (wrong_word variables) words)
    (ended_parts (slice_split (λ n. int_eq n (pos 0)) (map number_of words)))

abbrev pub formula_with : Header → Result (List Clause) Refusal → Result Formula Refusal
formula_with header (Err refusal) = Err refusal
formula_with header (Ok clauses) =
    if length clauses == header.clauses then Ok (record { variables = header.variables; clauses = clauses })
    else Err wrong_count

abbrev pub formula_behind : Option Header → List Bytes → Result Formula Refusal
formula_behind None words = Err bad_header
formula_behind (Some header) words = formula_with header (clauses_of header.variables words)

-- the header, and the words of all lines behind it
abbrev pub formula_of_lines : List Bytes → Result Formula Refusal
formula_of_lines [] = Err no_header
formula_of_lines (header ∷ lines) = formula_behind (header_of (words_of header)) (flat_map words_of lines)

unfoldable pub formula_of_text : Bytes → Result Formula Refusal
formula_of_text text = formula_of_lines (lines_of text)
