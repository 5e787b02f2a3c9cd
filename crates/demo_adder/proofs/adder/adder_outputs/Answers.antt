use Rattle.std.proofs.Common.{sym, arith}
use Rattle.std.proofs.lemmas.List.FromFn.{map-range_with_len_more}
use Rattle.job_semantics.specs.Demo.{sum_signal}
use Rattle.demo_adder.proofs.adder.adder_outputs.Goals as goal

pub loop-stage-preserved : goal.loop-stage-preserved
loop-stage-preserved c =
    rw (c.in_ok-push.ensures.ok, c.loop-stage.invariant, c.sum_signal.ensures)
    (sym (map-range_with_len_more (sum_signal c.args.width) 0 c.loop-stage.stage c.loop-stage.stage (omega arith)))
