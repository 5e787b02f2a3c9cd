-- Why a text is refused.
use Rattle.std.specs.Prelude.{◌≡◌, ℕ, Option, Some, None, Result, Err}
use Rattle.aiger_semantics.specs.CircuitLines as r
use Rattle.aiger_text.specs.declared.refusal.AigerRefusal.{AigerRefusal}
use Rattle.aiger_text.specs.declared.refusal.AigerRefusal.TheVariants as a

-- the refusal of the definitions that the code's refusal is; want of memory is none
abbrev pub refusal_of : AigerRefusal → Option r.Refusal
refusal_of a.TextLong = Some r.text_long
refusal_of a.Header = Some r.no_header
refusal_of a.Latches = Some r.has_latches
refusal_of (a.Line line) = Some (r.wrong_line line)
refusal_of (a.Symbol line) = Some (r.wrong_symbol line)
refusal_of (a.Twice variable) = Some (r.twice variable)
refusal_of (a.Undefined variable) = Some (r.undefined variable)
refusal_of a.NoOutput = Some r.no_output
refusal_of (a.Loop variable) = Some (r.loop variable)
refusal_of (a.Doubled name) = Some (r.doubled name)
refusal_of (a.Limit which) = Some (r.limit which)
refusal_of a.OutOfMemory = None

-- the answer is this refusal, or the refusal is want of memory
abbrev pub Tells : {X : Type 0} → AigerRefusal → Result X r.Refusal → Type 0
Tells told answer = (refusal : r.Refusal) → refusal_of told ≡ Some refusal → answer ≡ Err refusal

-- the number of a refusal, by which it is told on the command line
abbrev pub refusal_number : AigerRefusal → ℕ
refusal_number a.TextLong = 1
refusal_number a.Header = 2
refusal_number a.Latches = 3
refusal_number (a.Line line) = 4
refusal_number (a.Symbol line) = 5
refusal_number (a.Twice variable) = 6
refusal_number (a.Undefined variable) = 7
refusal_number a.NoOutput = 8
refusal_number (a.Loop variable) = 9
refusal_number (a.Doubled name) = 10
refusal_number (a.Limit which) = 11
refusal_number a.OutOfMemory = 12
