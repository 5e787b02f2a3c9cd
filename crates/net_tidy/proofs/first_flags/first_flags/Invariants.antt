use Rattle.net_tidy.specs.Flags.{IsFlagged}
use Rattle.net_tidy.proofs.first_flags.first_flags.Given as goal

abbrev pub invariant-loop-t : goal.invariant-loop-t
invariant-loop-t l = IsFlagged l.net l.flags
