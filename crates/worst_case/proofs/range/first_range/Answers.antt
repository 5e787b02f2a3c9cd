use Rattle.std.proofs.Common.{ap, subst, inl, inr, ◌∙◌, arith}
use Rattle.semantics.specs.Net.{input_count}
use Rattle.worst_case.specs.VectorsTried.{IsTrial}
use Rattle.worst_case.proofs.Ranges.{smaller, IsRange-first}
use Rattle.worst_case.proofs.range.first_range.Goals as goal
use Rattle.worst_case.proofs.range.first_range.Goals.{then-inputs-le-LANE_INPUTS, else-inputs-le-LANE_INPUTS}

pub returns : goal.returns
returns c =
    let nets = c.args.nets.now in
    let tried = c.known.result.now.patterns in
    let best = c.in_ok-best.ensures in
    let count = c.inputs.ensures.value ∙ ap input_count c.exact.ensures.value in
    IsRange-first c.args.aim nets.exact nets.approx c.if-inputs-le-LANE_INPUTS.high c.in_ok-best.best.error c.in_ok-best.best.witness
    tried c.exact.ensures.candidate c.requires.within (subst (λ N. IsTrial (input_count N) tried) c.requires.judge c.known.ensures.trial) best.greatest best.width
    (elim c.if-inputs-le-LANE_INPUTS.branch [
      | then-inputs-le-LANE_INPUTS w ↦ inl (omega (arith, w.if-inputs-le-LANE_INPUTS.true, count), w.high-is)
      | else-inputs-le-LANE_INPUTS w ↦ let low = smaller c.args.aim.bound c.if-inputs-le-LANE_INPUTS.high (w.high-is ∙ w.min-high.ensures) in
          inr (omega (arith, w.if-inputs-le-LANE_INPUTS.false, count), low.0, low.1, low.2)
    ])
