use Rattle.std.proofs.Common.{ap, sym, ◌∙◌, arith}
use Rattle.std.proofs.lemmas.Result.{on_ok_weaker, IfOk-weaker}
use Rattle.semantics.specs.declared.metric.Kind.TheVariants.{Ham}
use Rattle.quality_semantics.proofs.Quality.{quality_zero, quality_excess}
use Rattle.quality_ham.proofs.append_word.Goals as goal

pub returns-then-k-width-clause-ok : goal.returns-then-k-width-clause-ok
returns-then-k-width-clause-ok c = ap (λ r. r.net) (sym (quality_zero Ham c.args.net.now c.args.exact.now c.args.approx.now c.args.k (omega (arith, c.if-k-width.true, c.len-width.ensures))))

pub returns-then-k-width-clause-signal : goal.returns-then-k-width-clause-signal
returns-then-k-width-clause-signal c =
    c.zero.ensures.value
    ∙ ap (λ r. r.signal) (sym (quality_zero Ham c.args.net.now c.args.exact.now c.args.approx.now c.args.k (omega (arith, c.if-k-width.true, c.len-width.ensures))))

pub returns-else-k-width-clause-ok : goal.returns-else-k-width-clause-ok
returns-else-k-width-clause-ok c = on_ok_weaker c.excess.result
    (λ e. e ∙ ap (λ r. r.net) (sym (quality_excess Ham c.args.net.now c.args.exact.now c.args.approx.now c.args.k (omega (arith, c.if-k-width.false, c.len-width.ensures))))) c.excess.ensures.ok

pub returns-else-k-width-clause-signal : goal.returns-else-k-width-clause-signal
returns-else-k-width-clause-signal c = IfOk-weaker c.excess.result _ _
    (λ s e. e ∙ ap (λ r. r.signal) (sym (quality_excess Ham c.args.net.now c.args.exact.now c.args.approx.now c.args.k (omega (arith, c.if-k-width.false, c.len-width.ensures)))))
    c.excess.ensures.signal
