use Rattle.std.proofs.Common.{set, refl, ap, ◌∙◌, arith}
use Rattle.net_tidy.proofs.Turning.{turned_next, turned_all}
use Rattle.net_tidy.proofs.marks.turn_marks.Goals as goal

pub loop-i-preserved : goal.loop-i-preserved
loop-i-preserved c =
    ap (set c.loop-i.marks c.loop-i.i) c.turned.ensures
    ∙ turned_next c.loop-i.i c.args.s c.args.pins.now c.args.marks.now c.loop-i.marks _ c.loop-i-test.true c.requires c.loop-i.invariant refl

pub returns : goal.returns
returns c = c.loop-i.invariant ∙ turned_all c.loop-i.i c.args.s c.args.pins.now c.args.marks.now (omega arith) c.requires
