use Rattle.std.proofs.Common.{◌≡◌, map, length, ap, sym, ◌∙◌, arith}
use Rattle.std.proofs.lemmas.List.{length-map}
use Rattle.hierarchy_semantics.specs.Models.{BlifModel}
use Rattle.hier_flat.specs.Flattening.{slot_signal}
use Rattle.hier_flat.specs.Plans.{part_of}
use Rattle.hier_flat.proofs.Planned.{main_tables, main_outputs}
use Rattle.hier_flat.proofs.flat_net.main_parts.Goals as goal

pub returns-clause-tables : goal.returns-clause-tables
returns-clause-tables c =
    let count : c.len.result ≡ length c.model.inside.inputs.items = omega (arith, c.len.ensures) in
    let size =
    count ∙ sym (length-map c.model.inside.inputs.items (λ w. w.now)) ∙ ap (λ (k : BlifModel). length k.inputs) (c.model.view_is ∙ c.main-plan.ensures.model) in
    main_tables c.args.plans.now c.len.result c.args.levels c.main-plan.result.now.model.now (map part_of c.main-plan.result.now.parts.items) c.in_ok-signals.signals c.new-tables.result
    c.add_visit.new.tables
    (omega (arith, c.if-levels-eq0.false)) c.main-plan.ensures.model c.main-plan.ensures.is.parts c.in_ok-signals.ensures size c.new-tables.ensures c.in_ok-add_visit.ensures

pub returns-clause-outputs : goal.returns-clause-outputs
returns-clause-outputs c =
    main_outputs c.args.plans.now c.main-plan.result.now.model.now c.in_ok-signals.signals c.in_ok-outputs.outputs c.main-plan.result.now.outputs.items c.main-plan.ensures.model
    c.in_ok-signals.ensures c.main-plan.ensures.is.outputs
    (c.in_ok-outputs.ensures ∙ ap (map (slot_signal c.in_ok-signals.signals)) c.deref.ensures.value)
