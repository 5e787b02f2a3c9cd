use Rattle.std.proofs.Common.{List, ℕ, ◌++◌, ap, subst, ◌∙◌}
use Rattle.semantics.specs.Net.{NetValue}
use Rattle.bdd_nets.specs.Signals.{AreOutputsOf}
use Rattle.bdd_levels.proofs.Drawing.{over_is}
use Rattle.bdd_levels.proofs.drawn.over_diagram.Goals as goal

pub returns-clause-ok : goal.returns-clause-ok
returns-clause-ok c =
    let nets = c.args.nets.now in
    let level = c.args.level.now in
    let approximate = c.in_ok-approximate.approximate.items in
    let second = subst (λ (P : NetValue). AreOutputsOf c.output_diagrams.new.d P c.args.inputs.now approximate) c.approx.ensures.value c.in_ok-approximate.ensures.outputs in
    let joined = c.in_ok-both.ensures ∙ ap (λ (l : List ℕ). c.args.outputs.now ++ l) c.deref.ensures.value in
    let asked = subst (λ (l : List ℕ). AreOutputsOf c.output_diagrams-2.new.d level.network l c.in_ok-over.over.items) c.deref-2.ensures.value c.in_ok-over.ensures.outputs in
    over_is c.args.d.now c.output_diagrams.new.d c.output_diagrams-2.new.d nets level c.args.inputs.now c.args.outputs.now
    approximate c.in_ok-both.both.items c.in_ok-over.over.items c.index.result.now c.in_ok-approximate.ensures.grows c.in_ok-over.ensures.grows c.approx.ensures.candidate c.requires.level
    c.requires.outputs second joined asked c.index.ensures
