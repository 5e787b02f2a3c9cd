use Rattle.std.proofs.Common.{◌++◌, map, ap, sym, subst, ◌∙◌, arith}
use Rattle.std.specs.List.{AllByRecursion}
use Rattle.semantics.specs.Net.{IsName}
use Rattle.semantics.specs.Refusals.{has_name}
use Rattle.hierarchy_semantics.specs.Models.{Subcircuit, BlifModel, Hierarchy, model_named}
use Rattle.hierarchy_semantics.specs.Places.{actual_of}
use Rattle.hier_parts.specs.Driven.{driven_names}
use Rattle.hier_flat.specs.Outputs.{OutputPlan}
use Rattle.hier_flat.specs.Flattening.{part_signals, slot_signal, signal_in}
use Rattle.hier_flat.specs.Plans.{part_of}
use Rattle.hier_flat.specs.Visits.{visit_signal}
use Rattle.hier_flat.proofs.Planned.{outputs_named, frame_is, inside_adds}
use Rattle.hier_flat.proofs.visits.visit_inside.Goals as goal

pub returns-clause-is : goal.returns-clause-is
returns-clause-is c =
    let h : Hierarchy = c.args.plans.now in
    let s : Subcircuit = c.args.u.now.subcircuit.now in
    record {
      plan = c.at-plan.ensures.is;
      names = subst (AllByRecursion (λ (o : OutputPlan). IsName o.actual)) (sym (c.deref-2.ensures.value ∙ c.requires.plan.outputs))
          (outputs_named (driven_names h (model_named h s.model)) (λ b. has_name (model_named h s.model).outputs b.formal) s.bindings c.requires.formed);
    }

pub returns-clause-adds : goal.returns-clause-adds
returns-clause-adds c = λ inputs tables first.
    let h : Hierarchy = c.args.plans.now in
    let v = c.args.visit.now in
    let names = driven_names h v.plan.now.model.now in
    let s : Subcircuit = c.args.u.now.subcircuit.now in
    let m : BlifModel = model_named h s.model in
    let model = c.at-plan.ensures.model s.model c.requires.plan.place in
    let counted = c.at-plan.ensures.is.offsets c.in-Some.offsets c.in-Some.is ∙ ap (λ (k : BlifModel). part_signals h 0 k.parts) model in
    let framed =
    frame_is h v.signals names s m c.args.u.now.inputs.items c.in-Some.offsets c.args.first c.in_ok-inputs.inputs c.in_ok-signals.signals c.requires.plan.inputs counted
    (c.in_ok-inputs.ensures ∙ ap (map (slot_signal v.signals)) c.deref.ensures.value) c.in_ok-signals.ensures in
    inside_adds h inputs v.levels v.own (visit_signal h v) s c.at-plan.result.now.model.now (map part_of c.at-plan.result.now.parts.items) c.in_ok-signals.signals c.deref-2.result.now tables
    (omega (arith, c.if-visit-eq0.false)) model c.at-plan.ensures.is.parts
    (framed ∙ ap (λ k. map (λ name. signal_in names v.signals (actual_of s name)) m.inputs ++ part_signals h k m.parts) first)
    (c.deref-2.ensures.value ∙ c.requires.plan.outputs)
