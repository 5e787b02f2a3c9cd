use Rattle.std.proofs.Common.{◌≡◌}
use Rattle.semantics.specs.Error.{greatest_of, error_of_word}
use Rattle.net_errors.proofs.error.error.Given as goal

-- the greatest error of the words so far
abbrev pub invariant-loop-word : goal.invariant-loop-word
invariant-loop-word l = l.greatest ≡ greatest_of (error_of_word l.metric l.exact l.approx) l.word
