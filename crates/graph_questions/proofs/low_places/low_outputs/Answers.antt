use Rattle.std.proofs.Common.{◌++◌, take, subst, ◌∙◌}
use Rattle.std.proofs.lemmas.Result.{IfOk-weaker}
use Rattle.semantics.specs.Net.{NetValue}
use Rattle.aig_core.specs.Signals.{AreOutputsOver}
use Rattle.graph_questions.proofs.LowPlaces.{low_is}
use Rattle.graph_questions.proofs.low_places.low_outputs.Goals as goal

pub returns-clause-low : goal.returns-clause-low
returns-clause-low c =
    let nets = c.args.nets.now in
    let exact = c.in_ok-exact.exact.items in
    let approx = c.in_ok-approx.approx.items in
    let first = subst (λ (P : NetValue). AreOutputsOver c.output_literals.new.g P c.args.inputs.now exact) c.exact.ensures.value c.in_ok-exact.ensures.outputs in
    let second = subst (λ (P : NetValue). AreOutputsOver c.output_literals-2.new.g P c.args.inputs.now approx) c.approx.ensures.value c.in_ok-approx.ensures.outputs in
    IfOk-weaker c.joined.result _ _
    (λ both is. low_is c.output_literals.new.g c.output_literals-2.new.g nets c.args.places c.args.inputs.now exact approx both.items c.in_ok-approx.ensures.grows
    c.exact.ensures.candidate c.requires.places first second (is ∙ (λ i. take c.args.places (c.deref.ensures.value i) ++ take c.args.places (c.deref-2.ensures.value i))))
    c.joined.ensures
