use Rattle.std.proofs.Common.{◌++◌, ap, map, ◌∙◌}
use Rattle.merge_log.specs.Chains.{asked}
use Rattle.merge_log.proofs.Loops.{flat_turn}
use Rattle.merge_log.proofs.form.all_asked.Goals as goal

pub loop-row-preserved : goal.loop-row-preserved
loop-row-preserved c =
    flat_turn (map asked) c.args.rows.now c.loop-row.row-index c.row-item.result c.loop-row.marks.items c.push_asked.new.marks.items _ c.loop-row-test.true c.row-item.is
    (c.in_ok-push_asked.ensures ∙ ap (λ row. c.loop-row.marks.items ++ map asked row) c.as_slice.ensures) c.loop-row.invariant
