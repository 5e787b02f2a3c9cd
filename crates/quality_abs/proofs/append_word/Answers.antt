use Rattle.std.proofs.Common.{ap, sym, ◌∙◌}
use Rattle.std.proofs.lemmas.Result.{on_ok_weaker, IfOk-weaker}
use Rattle.semantics.specs.declared.metric.Kind.TheVariants.{Abs}
use Rattle.quality_semantics.proofs.Quality.{quality_zero, quality_excess}
use Rattle.quality_abs.proofs.append_word.Goals as goal

pub returns-then-k-most-clause-ok : goal.returns-then-k-most-clause-ok
returns-then-k-most-clause-ok c = ap (λ r. r.net) (sym (quality_zero Abs c.args.net.now c.args.exact.now c.args.approx.now c.args.k (rw (← c.greatest-most.ensures.value) c.if-k-most.true)))

pub returns-then-k-most-clause-signal : goal.returns-then-k-most-clause-signal
returns-then-k-most-clause-signal c =
    c.zero.ensures.value ∙ ap (λ r. r.signal) (sym (quality_zero Abs c.args.net.now c.args.exact.now c.args.approx.now c.args.k (rw (← c.greatest-most.ensures.value) c.if-k-most.true)))

pub returns-else-k-most-clause-ok : goal.returns-else-k-most-clause-ok
returns-else-k-most-clause-ok c = on_ok_weaker c.excess.result
    (λ e. e ∙ ap (λ r. r.net) (sym (quality_excess Abs c.args.net.now c.args.exact.now c.args.approx.now c.args.k (rw (← c.greatest-most.ensures.value) c.if-k-most.false))))
    c.excess.ensures.ok

pub returns-else-k-most-clause-signal : goal.returns-else-k-most-clause-signal
returns-else-k-most-clause-signal c = IfOk-weaker c.excess.result _ _
    (λ s e. e ∙ ap (λ r. r.signal) (sym (quality_excess Abs c.args.net.now c.args.exact.now c.args.approx.now c.args.k (rw (← c.greatest-most.ensures.value) c.if-k-most.false))))
    c.excess.ensures.signal
