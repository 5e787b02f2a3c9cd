use Rattle.std.proofs.Common.{ap, ◌∙◌}
use Rattle.std.proofs.lemmas.Result.{on_ok_weaker, IfOk-weaker}
use Rattle.quality_ham.proofs.Steps.{differing_from}
use Rattle.quality_ham.proofs.excess.Goals as goal

pub returns-clause-ok : goal.returns-clause-ok
returns-clause-ok c = on_ok_weaker c.at_least.result
    (λ e. e ∙ ap (λ r. r.net) (differing_from _ _ _ _ _ _ c.in_ok-differences.ensures.ok c.in_ok-differences.ensures.bus)) c.at_least.ensures.ok

pub returns-clause-signal : goal.returns-clause-signal
returns-clause-signal c = IfOk-weaker c.at_least.result _ _
    (λ s e. e ∙ ap (λ r. r.signal) (differing_from _ _ _ _ _ _ c.in_ok-differences.ensures.ok c.in_ok-differences.ensures.bus)) c.at_least.ensures.signal
