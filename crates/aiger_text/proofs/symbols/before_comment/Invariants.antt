use Rattle.std.proofs.Common.{◌≡◌, ℕ, ◌<◌, [], false, get_or}
use Rattle.aiger_semantics.specs.CircuitLines.{begins_comment}
use Rattle.text_words.specs.Slices.{texts}
use Rattle.aiger_text.proofs.symbols.before_comment.Given as goal

abbrev pub invariant-loop-i : goal.invariant-loop-i
invariant-loop-i l = (j : ℕ) → j < l.i → begins_comment (get_or (texts l.lines) j []) ≡ false
