use Rattle.std.proofs.Common.{◌+◌, ap, sym, ◌∙◌}
use Rattle.std.proofs.lemmas.List.{take_rest}
use Rattle.semantics.specs.declared.limits.TheConstants.{MOST_OUTPUTS}
use Rattle.job_semantics.specs.Job.{number_from_to}
use Rattle.command_words.proofs.MetricParts.{metric-no_kind, metric-no_kind_before, metric-no_width, metric-named}
use Rattle.command_words.proofs.metric_words.metric.Goals as goal

pub returns-in_err-kind : goal.returns-in_err-kind
returns-in_err-kind c =
    rw c.from_residual.ensures (sym (metric-no_kind c.args.word.now (sym c.slash_at.ensures ∙ c.in_default.is) (sym c.in_err-kind.ensures)))

pub returns-in_err-kind-2 : goal.returns-in_err-kind-2
returns-in_err-kind-2 c =
    rw c.from_residual-in_err-kind-2.ensures
    (sym (metric-no_kind_before c.args.word.now c.in-Some.at (sym c.slash_at.ensures ∙ c.in-Some.is) (sym c.in_err-kind-2.ensures)))

pub returns-in_err-width : goal.returns-in_err-width
returns-in_err-width c =
    let rest = take_rest c.args.word.now (c.in-Some.at + 1) in
    rw c.from_residual-in_err-width.ensures
    (sym
    (metric-no_width c.args.word.now c.in-Some.at c.in_ok-kind-2.kind (sym c.slash_at.ensures ∙ c.in-Some.is) (sym c.in_ok-kind-2.ensures)
    (sym (ap (number_from_to 1 MOST_OUTPUTS) rest) ∙ sym c.in_err-width.ensures)))

pub returns : goal.returns
returns c =
    let rest = take_rest c.args.word.now (c.in-Some.at + 1) in
    sym
    (metric-named c.args.word.now c.in-Some.at c.in_ok-kind-2.kind c.in_ok-width.width (sym c.slash_at.ensures ∙ c.in-Some.is) (sym c.in_ok-kind-2.ensures)
    (sym (ap (number_from_to 1 MOST_OUTPUTS) rest) ∙ sym c.in_ok-width.ensures))
