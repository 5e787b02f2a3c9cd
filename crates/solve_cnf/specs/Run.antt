-- What a run of the solver over a text comes to.
use Rattle.std.specs.Prelude.{◌≡◌, ℕ, ◌-◌, ◌^◌, min, ◌&&◌, [], if◌then◌else◌, nat_lt, Option, None, Some, Ok}
use Rattle.std.specs.Io.KnownBytes.{Appends, Keeps}
use Rattle.semantics.specs.Texts.{Bytes}
use Rattle.semantics.specs.Decimal.{digits_number}
use Rattle.proof_semantics.specs.Formula.{Formula}
use Rattle.cdcl_core.specs.Answers.{IsAnswer}
use Rattle.cdcl_core.specs.declared.answer.Answer.{Answer}
use Rattle.solve_cnf.specs.Reading.{are_digits, formula_of_text}
use Rattle.solve_cnf.specs.Refusals.{Tells}
use Rattle.solve_cnf.specs.Places.{refused_line, Names}
use Rattle.solve_cnf.specs.Counts.{clause_counts, Counts}
use Rattle.solve_cnf.specs.Writing.{answer_text}
use Rattle.solve_cnf.specs.declared.run.RunError.{RunError}
use Rattle.solve_cnf.specs.declared.run.RunError.TheVariants.{Refused, OutOfMemory, Write}

-- the conflicts that a word allows: a decimal number, at least 1, held as 2 ^ 64 - 1 where it is greater
abbrev pub limit_of : Bytes → Option ℕ
limit_of word = if are_digits word
    && nat_lt 0 (digits_number word) then Some (min (digits_number word) (2 ^ 64 - 1)) else None

-- The text means a formula, and what was written is the text of a right answer to it: a model that satisfies
-- it, a log that refutes it, or a log with exactly `limit` conflicts.
pub record IsAnswered (text : Bytes) (limit : ℕ) (old new : Option Bytes) : Type 0 where
  pub formula : Formula
  pub means : formula_of_text text ≡ Ok formula
  pub answer : Answer
  pub right : IsAnswer formula [] limit answer
  pub written : Appends old new (answer_text answer)

-- Either nothing was written, and the text means no formula, for the reason, at the line and with the counts
-- of clauses that are told, or memory is wanting. Or the text means a formula, and nothing is said of what
-- was written before a write failed.
abbrev pub HasFailed : Bytes → Option Bytes → Option Bytes → RunError → Type 0
HasFailed text old new (Refused told) = Tells told (formula_of_text text) × Names told (refused_line text)
    × Counts told (clause_counts text) × Keeps old new
HasFailed text old new OutOfMemory = Keeps old new
HasFailed text old new (Write error) = (formula : Formula) × (formula_of_text text ≡ Ok formula)
