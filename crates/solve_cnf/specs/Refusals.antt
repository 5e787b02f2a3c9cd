-- Why a text is not read.
use Rattle.std.specs.Prelude.{◌≡◌, Option, Some, None, Result, Err}
use Rattle.solve_cnf.specs.Reading.{Refusal, no_header, bad_header, no_number, no_variable, unended}
use Rattle.solve_cnf.specs.Reading.{wrong_count}
use Rattle.solve_cnf.specs.declared.formula_error.ReadError.{ReadError}
use Rattle.solve_cnf.specs.declared.formula_error.ReadError.TheVariants as e

-- the refusal of the definitions that the code's refusal is; want of memory is none
abbrev pub refusal_of : ReadError → Option Refusal
refusal_of e.NoHeader = Some no_header
refusal_of (e.BadHeader line) = Some bad_header
refusal_of (e.NoNumber line) = Some no_number
refusal_of (e.NoVariable line) = Some no_variable
refusal_of e.Unended = Some unended
refusal_of (e.WrongCount told found) = Some wrong_count
refusal_of e.OutOfMemory = None

-- the answer is this refusal, or the refusal is want of memory
abbrev pub Tells : {X : Type 0} → ReadError → Result X Refusal → Type 0
Tells told answer = (refusal : Refusal) → refusal_of told ≡ Some refusal → answer ≡ Err refusal
