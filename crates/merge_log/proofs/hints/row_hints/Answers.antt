use Rattle.std.proofs.Common.{◌∙◌, refl, sym, arith}
use Rattle.merge_log.proofs.Loops.{row_none, row_some}
use Rattle.merge_log.proofs.hints.row_hints.Goals as goal
use Rattle.merge_log.proofs.hints.row_hints.Goals.{in-Some+in_ok-imply_both, in_default}

pub loop-i-preserved : goal.loop-i-preserved
loop-i-preserved c =
    elim c.match-asked.branch [
      | in-Some+in_ok-imply_both w ↦ record {
        next = omega (arith, w.next-is, c.loop-i.invariant.next);
        rest = rw (w.chain-is, w.next-is)
            (row_some c.args.merged.now c.args.marks.now c.args.from.now.pins.now c.args.to.now.pins.now c.loop-i.i c.loop-i.next _ c.loop-i.chain _ c.loop-i-test.true c.requires.width
            c.requires.to_width c.loop-i.invariant.rest w.in-Some.sign _ w.imply_both.new.chain (sym c.asked.ensures ∙ w.in-Some.is) refl w.in_ok-imply_both.ensures);
      }
      | in_default w ↦ record {
        next = omega (arith, w.next-is, c.loop-i.invariant.next);
        rest = rw (w.chain-is, w.next-is)
            (row_none c.args.merged.now c.args.marks.now c.args.from.now.pins.now c.args.to.now.pins.now c.loop-i.i c.loop-i.next _ c.loop-i.chain _ c.loop-i-test.true c.requires.width
            c.requires.to_width c.loop-i.invariant.rest (sym c.asked.ensures ∙ w.in_default.is));
      }
    ]
