use Rattle.merge_log.specs.Chains.{first_of}
use Rattle.merge_log.proofs.Loops.{map_turn}
use Rattle.merge_log.proofs.form.firsts.Goals as goal

pub loop-s-preserved : goal.loop-s-preserved
loop-s-preserved c =
    map_turn (first_of c.args.merged.now) c.args.signals.now c.loop-s.s-index _ c.first.result c.loop-s.firsts.items c.push.new.self.items _ c.loop-s-test.true c.first.ensures.value
    c.in_ok-push.ensures.items c.loop-s.invariant
