use Rattle.std.proofs.Common.{◌≡◌, ◌-◌, ◌*◌, ◌^◌, ap, sym, subst, ◌∙◌, arith}
use Rattle.std.proofs.lemmas.Result.{IfOk-weaker}
use Rattle.semantics.specs.declared.metric.Metric.{Metric}
use Rattle.semantics.specs.Error.{IsCandidate, IsWithin}
use Rattle.graph_questions.specs.Levels.{question_of}
use Rattle.graph_questions.proofs.LowPlaces.{powers, candidate_for, enough}
use Rattle.graph_questions.proofs.nearness.is_small_change.Goals as goal

pub overflow_sub-most-2 : goal.overflow_sub-most-2
overflow_sub-most-2 g c =
    let p = c.args.places in
    omega (arith, c.requires.fits, c.power_of_two.ensures, (powers p c.requires.some).0, (powers p c.requires.some).1)

pub is_near-requires-clause-candidate : goal.is_near-requires-clause-candidate
is_near-requires-clause-candidate g c =
    let nets = c.args.nets.now in
    let before = c.args.change.now.before.now in
    subst (IsCandidate before) (sym c.approx.ensures.value) (candidate_for nets.exact nets.approx before c.exact.ensures.candidate c.requires.ports)

pub returns : goal.returns
returns g c =
    let nets = c.args.nets.now in
    let level = c.args.level.now in
    let before = c.args.change.now.before.now in
    let p = c.args.places in
    let far = c.in_ok-far.far in
    let pair = candidate_for nets.exact nets.approx before c.exact.ensures.candidate c.requires.ports in
    let most : far.k ≡ 2 ^ p - 1 - 2 * level.k = c.in_ok-far.ensures.k ∙ ap (λ n. n - 1 - 2 * level.k) c.power_of_two.ensures in
    IfOk-weaker c.is_near.result _ _
    (λ small said is.
    let near : IsWithin far.metric before far.k c.approx.result.now = said is in
    let near_so : IsWithin level.metric before (2 ^ p - 1 - 2 * level.k) nets.approx =
    subst (λ (m : Metric). IsWithin m before (2 ^ p - 1 - 2 * level.k) nets.approx) c.in_ok-far.ensures.metric
    (subst (λ k. IsWithin far.metric before k nets.approx) most (subst (IsWithin far.metric before far.k) c.approx.ensures.value near)) in
    enough (question_of nets level) before p c.exact.ensures.candidate pair c.requires.distance
    c.requires.change.made.inputs c.requires.change.keeps near_so c.requires.some c.requires.spared c.requires.fits)
    c.is_near.ensures
