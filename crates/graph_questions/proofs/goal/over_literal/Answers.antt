use Rattle.std.proofs.Common.{List, ℕ, ◌++◌, length, refl, subst, ◌∙◌}
use Rattle.semantics.specs.Net.{NetValue}
use Rattle.aig_core.specs.Signals.{AreOutputsOver}
use Rattle.graph_questions.proofs.ErrorLiterals.{over_is}
use Rattle.graph_questions.proofs.goal.over_literal.Goals as goal

pub returns-clause-over : goal.returns-clause-over
returns-clause-over c =
    let nets = c.args.nets.now in
    let level = c.args.level.now in
    let exact = c.in_ok-exact.exact.items in
    let approx = c.in_ok-approx.approx.items in
    let first = subst (λ (P : NetValue). AreOutputsOver c.output_literals.new.g P c.args.inputs.now exact) c.exact.ensures.value c.in_ok-exact.ensures.outputs in
    let second = subst (λ (P : NetValue). AreOutputsOver c.output_literals-2.new.g P c.args.inputs.now approx) c.approx.ensures.value c.in_ok-approx.ensures.outputs in
    let joined = c.in_ok-both.ensures ∙ (λ i. c.deref.ensures.value i ++ c.deref-2.ensures.value i) in
    let asked = subst (λ (l : List ℕ). AreOutputsOver c.output_literals-3.new.g level.network l c.in_ok-over.over.items) c.deref-3.ensures.value c.in_ok-over.ensures.outputs in
    over_is c.output_literals.new.g c.output_literals-2.new.g c.output_literals-3.new.g level.metric nets.exact nets.approx level.network (length nets.exact.outputs) level.k c.args.inputs.now exact
    approx c.in_ok-both.both.items c.in_ok-over.over.items c.index.result.now _ c.in_ok-approx.ensures.grows c.in_ok-over.ensures.grows c.approx.ensures.candidate refl c.requires.level
    first second joined asked c.index.ensures
