use Rattle.std.proofs.Common.{ap, length, ◌++◌}
use Rattle.worst_case.proofs.Repeated.{one_left, taken_more, counted_more, taken_all}
use Rattle.worst_case.proofs.repeated_query.take_first.Goals as goal

pub loop-i-init : goal.loop-i-init
loop-i-init c = record { whole = ap (λ first. first ++ c.args.log.now) c.new-first.ensures; count = ap length c.new-first.ensures }

pub replace-requires : goal.replace-requires
replace-requires c = one_left c.loop-i.first c.loop-i.log c.args.log.now c.loop-i.i c.args.count c.loop-i.invariant.whole c.loop-i.invariant.count c.loop-i-test.true c.requires

pub loop-i-preserved : goal.loop-i-preserved
loop-i-preserved c =
    let low = one_left c.loop-i.first c.loop-i.log c.args.log.now c.loop-i.i c.args.count c.loop-i.invariant.whole c.loop-i.invariant.count c.loop-i-test.true c.requires in
    record {
      whole = taken_more c.loop-i.first c.push.new.self c.loop-i.log c.replace.new.self c.args.log.now c.loop-i.i c.replace.result _ c.loop-i.invariant.whole low c.in_ok-push.ensures.ok
          c.replace.ensures.put c.replace.ensures.taken;
      count = counted_more c.loop-i.first c.push.new.self c.loop-i.i c.replace.result c.loop-i.invariant.count c.in_ok-push.ensures.ok;
    }

pub returns : goal.returns
returns c = taken_all c.loop-i.first c.loop-i.log c.args.log.now c.loop-i.i c.args.count c.loop-i.invariant.whole c.loop-i.invariant.count c.loop-i.auto.i-end c.loop-i-test.false
