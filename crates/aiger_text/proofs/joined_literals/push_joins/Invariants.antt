use Rattle.std.proofs.Common.{get_or}
use Rattle.aiger_text.proofs.JoinedLiterals.{AreJoined}
use Rattle.aiger_text.proofs.joined_literals.push_joins.Given as goal

abbrev pub invariant-loop-i : goal.invariant-loop-i
invariant-loop-i l = AreJoined l.next (get_or l.literals 0 0) l.rest l.i l.fn.lines l.lines l.left
