use Rattle.std.proofs.Common.{◌+◌, get_or, refl}
use Rattle.std.proofs.lemmas.List.{get_or_default}
use Rattle.aiger_text.proofs.JoinedLiterals.{joined_next}
use Rattle.aiger_text.proofs.joined_literals.push_joins.Goals as goal

pub loop-i-preserved : goal.loop-i-preserved
loop-i-preserved c =
    joined_next c.args.next (get_or c.args.literals.now 0 0) c.in-Some.rest.now c.loop-i.i c.args.lines.now c.loop-i.lines c.push.new.self c.loop-i.left (get_or c.in-Some.rest.now c.loop-i.i 0)
    (c.args.next + c.loop-i.i) c.loop-i.invariant c.loop-i-test.true (get_or_default c.in-Some.rest.now c.loop-i.i 0 (get_or c.in-Some.rest.now c.loop-i.i 0) c.loop-i-test.true) refl
    c.in_ok-push.ensures.ok
