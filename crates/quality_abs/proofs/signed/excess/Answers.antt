use Rattle.std.proofs.Common.{ap, ◌∙◌}
use Rattle.std.proofs.lemmas.Result.{on_ok_weaker, IfOk-weaker}
use Rattle.quality_abs.proofs.Steps.{signed_from}
use Rattle.quality_abs.proofs.signed.excess.Goals as goal

pub returns-clause-ok : goal.returns-clause-ok
returns-clause-ok c = on_ok_weaker c.exceed.result
    (λ e. e ∙ ap (λ r. r.net) (signed_from _ _ _ _ c.args.exact.now c.args.approx.now _ _ _ c.in_ok-flipped_exact.ensures.ok c.in_ok-flipped_exact.ensures.bus c.in_ok-flipped_approx.ensures.ok
    c.in_ok-flipped_approx.ensures.bus c.in_ok-bound.ensures.value)) c.exceed.ensures.ok

pub returns-clause-signal : goal.returns-clause-signal
returns-clause-signal c = IfOk-weaker c.exceed.result _ _
    (λ s e. e ∙ ap (λ r. r.signal) (signed_from _ _ _ _ c.args.exact.now c.args.approx.now _ _ _ c.in_ok-flipped_exact.ensures.ok c.in_ok-flipped_exact.ensures.bus c.in_ok-flipped_approx.ensures.ok
    c.in_ok-flipped_approx.ensures.bus c.in_ok-bound.ensures.value)) c.exceed.ensures.signal
