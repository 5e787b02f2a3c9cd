use Rattle.std.proofs.Common.{ap, ◌∙◌, arith}
use Rattle.miter.specs.Copies.{placed, copy_at}
use Rattle.miter.proofs.Placed.{copied_more}
use Rattle.miter.proofs.copies.push_copies.Goals as goal

pub loop-t-preserved : goal.loop-t-preserved
loop-t-preserved c =
    let f = placed c.args.inputs.now c.args.first in
    let at = c.in_ok-copy.ensures ∙ ap (copy_at c.loop-t.t c.args.letter f) c.table.ensures.value in
    rw (c.in_ok-push.ensures.ok, at)
    (copied_more c.args.letter f c.args.net.now.tables c.loop-t.t c.loop-t.tables (omega (arith, c.loop-t-test.true, c.tables-t-end.ensures.value)) ∙ c.loop-t.invariant)
