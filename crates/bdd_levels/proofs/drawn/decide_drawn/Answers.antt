use Rattle.std.proofs.Common.{List, ℕ, subst, ◌∙◌}
use Rattle.std.proofs.lemmas.Result.{IfOk-weaker}
use Rattle.bdd_core.specs.declared.node.Node.{Node}
use Rattle.bdd_core.specs.Diagrams.{Grows}
use Rattle.bdd_levels.specs.Levels.{IsOverOf}
use Rattle.bdd_levels.proofs.Drawing.{drawn_later, variables_later, level_decided}
use Rattle.bdd_levels.proofs.drawn.decide_drawn.Goals as goal

pub returns-in-Ok-clause-drawn : goal.returns-in-Ok-clause-drawn
returns-in-Ok-clause-drawn c =
    let grows = subst (λ (a : List Node). Grows a c.over_diagram-over.new.d) (c.allow_steps.ensures ∙ c.allow_nodes.ensures) c.over_diagram-over.ensures.grows in
    drawn_later c.args.drawing.now.diagrams c.over_diagram-over.new.d c.args.nets.now.exact c.args.variables.now c.args.drawing.now.inputs.items c.args.drawing.now.outputs.items grows c.requires.drawn

pub returns-in-Err-Spent-clause-drawn : goal.returns-in-Err-Spent-clause-drawn
returns-in-Err-Spent-clause-drawn c =
    let grows = subst (λ (a : List Node). Grows a c.over_diagram-over.new.d) (c.allow_steps.ensures ∙ c.allow_nodes.ensures) c.over_diagram-over.ensures.grows in
    drawn_later c.args.drawing.now.diagrams c.over_diagram-over.new.d c.args.nets.now.exact c.args.variables.now c.args.drawing.now.inputs.items c.args.drawing.now.outputs.items grows c.requires.drawn

pub returns-in-Err-OutOfMemory-clause-drawn : goal.returns-in-Err-OutOfMemory-clause-drawn
returns-in-Err-OutOfMemory-clause-drawn c =
    let grows = subst (λ (a : List Node). Grows a c.over_diagram-over.new.d) (c.allow_steps.ensures ∙ c.allow_nodes.ensures) c.over_diagram-over.ensures.grows in
    drawn_later c.args.drawing.now.diagrams c.over_diagram-over.new.d c.args.nets.now.exact c.args.variables.now c.args.drawing.now.inputs.items c.args.drawing.now.outputs.items grows c.requires.drawn

pub returns-in-Ok-clause-decided : goal.returns-in-Ok-clause-decided
returns-in-Ok-clause-decided c =
    let nodes = c.over_diagram-over.new.d in
    let nets = c.args.nets.now in
    let level = c.args.level.now in
    let inputs = c.args.drawing.now.inputs.items in
    let grows = subst (λ (a : List Node). Grows a nodes) (c.allow_steps.ensures ∙ c.allow_nodes.ensures) c.over_diagram-over.ensures.grows in
    let over = subst (λ (l : List ℕ). IsOverOf nodes nets level l c.in-Ok.f) c.deref.ensures.value c.in-Ok.ensures.ok in
    IfOk-weaker c.decide_diagram.result _ _
    (level_decided nodes nets level c.args.variables.now inputs c.in-Ok.f c.requires.own
    (variables_later c.args.drawing.now.diagrams nodes c.args.variables.now inputs grows c.requires.drawn.inputs_are) over c.values.ensures)
    c.decide_diagram.ensures
