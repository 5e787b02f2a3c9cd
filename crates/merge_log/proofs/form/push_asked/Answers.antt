use Rattle.merge_log.specs.Chains.{asked}
use Rattle.merge_log.proofs.Loops.{map_turn}
use Rattle.merge_log.proofs.form.push_asked.Goals as goal

pub loop-mark-preserved : goal.loop-mark-preserved
loop-mark-preserved c =
    map_turn asked c.args.row.now c.loop-mark.mark-index _ c.asked.result c.loop-mark.marks.items c.push.new.self.items _ c.loop-mark-test.true c.asked.ensures c.in_ok-push.ensures.items
    c.loop-mark.invariant
