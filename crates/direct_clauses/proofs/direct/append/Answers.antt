use Rattle.std.proofs.Math.Seq.{take-length}
use Rattle.direct_clauses.proofs.Checking.{begins_more}
use Rattle.direct_clauses.proofs.direct.append.Goals as goal

pub loop-item-init : goal.loop-item-init
loop-item-init c = take-length c.args.log.now

pub loop-item-preserved : goal.loop-item-preserved
loop-item-preserved c = begins_more c.args.log.now c.loop-item.log c.push.new.self c.in_ok-item_copy.field-0 c.loop-item.invariant c.in_ok-push.ensures.ok
