use Rattle.std.proofs.Common.{ap, ◌∙◌, arith}
use Rattle.std.proofs.lemmas.Result.{IfOk-weaker}
use Rattle.semantics.specs.Net.{input_count}
use Rattle.worst_case.proofs.Beginnings.{bound_answer}
use Rattle.worst_case.proofs.beginning.within_bound.Goals as goal

pub returns : goal.returns
returns g c =
    let nets = c.args.nets.now in
    let count = c.inputs.ensures.value ∙ ap input_count c.exact.ensures.value in
    IfOk-weaker c.within_level.result _ _
    (λ m answer. bound_answer c.args.aim nets.exact nets.approx m (omega (arith, count, c.if-inputs-le-FEW_INPUTS.false)) answer)
    c.within_level.ensures.answer
