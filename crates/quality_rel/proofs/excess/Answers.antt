use Rattle.std.proofs.lemmas.Result.{on_ok_weaker, IfOk-weaker}
use Rattle.quality_rel.proofs.Steps.{relative_net, relative_signal}
use Rattle.quality_rel.proofs.excess.Goals as goal

pub returns-clause-ok : goal.returns-clause-ok
returns-clause-ok c =
    on_ok_weaker c.exceed.result
    (relative_net c.args.k c.args.net.now c.not_zero_low.new.self c.times.new.self c.times-2.new.self c.times-3.new.self c.exceed.new.self
    c.args.exact.now c.args.approx.now c.in_ok-divisor.divisor c.in_ok-scaled_exact.scaled_exact c.in_ok-scaled_approx.scaled_approx c.in_ok-level.level
    c.in_ok-divisor.ensures.ok c.in_ok-divisor.ensures.bus c.in_ok-scaled_exact.ensures.ok c.in_ok-scaled_exact.ensures.bus
    c.in_ok-scaled_approx.ensures.ok c.in_ok-scaled_approx.ensures.bus c.in_ok-level.ensures.ok c.in_ok-level.ensures.bus)
    c.exceed.ensures.ok

pub returns-clause-signal : goal.returns-clause-signal
returns-clause-signal c =
    IfOk-weaker c.exceed.result _ _
    (λ s. relative_signal c.args.k c.args.net.now c.not_zero_low.new.self c.times.new.self c.times-2.new.self c.times-3.new.self
    c.args.exact.now c.args.approx.now c.in_ok-divisor.divisor c.in_ok-scaled_exact.scaled_exact c.in_ok-scaled_approx.scaled_approx c.in_ok-level.level s
    c.in_ok-divisor.ensures.ok c.in_ok-divisor.ensures.bus c.in_ok-scaled_exact.ensures.ok c.in_ok-scaled_exact.ensures.bus
    c.in_ok-scaled_approx.ensures.ok c.in_ok-scaled_approx.ensures.bus c.in_ok-level.ensures.ok c.in_ok-level.ensures.bus)
    c.exceed.ensures.signal
