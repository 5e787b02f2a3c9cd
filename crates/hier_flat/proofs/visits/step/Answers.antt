use Rattle.std.proofs.Common.{arith}
use Rattle.hier_flat.proofs.Visiting.{part_formed, table_step, use_step}
use Rattle.hier_flat.specs.declared.plans.PartPlan.TheVariants.{Table, Use}
use Rattle.hier_flat.proofs.visits.step.Goals as goal

pub add_table-requires-clause-named : goal.add_table-requires-clause-named
add_table-requires-clause-named c =
    part_formed c.args.plans.now c.args.visit.plan.now c.args.visit.next c.index.result.now (Table c.in-Table.t) c.requires.visit.plan
    (omega (arith, c.if-visit-len.false, c.len.ensures)) c.index.ensures c.in-Table.is

pub visit_inside-requires-clause-formed : goal.visit_inside-requires-clause-formed
visit_inside-requires-clause-formed c =
    part_formed c.args.plans.now c.args.visit.plan.now c.args.visit.next c.index.result.now (Use c.in-Use.u) c.requires.visit.plan
    (omega (arith, c.if-visit-len.false, c.len.ensures)) c.index.ensures c.in-Use.is

pub returns-in_ok-push-in-Table-clause-adds : goal.returns-in_ok-push-in-Table-clause-adds
returns-in_ok-push-in-Table-clause-adds c =
    table_step c.args.plans.now c.args.inputs c.args.visit c.in-Table.t c.index.result.now c.args.stack.now.items c.push.new.self.items c.args.tables.now c.add_table.new.tables c.requires.visit.plan
    (omega (arith, c.if-visit-len.false, c.len.ensures)) c.index.ensures c.in-Table.is c.in_ok-push-in-Table.ensures.items c.in_ok-add_table-in-Table.ensures

pub returns-in_ok-push-in-Use-2-clause-adds : goal.returns-in_ok-push-in-Use-2-clause-adds
returns-in_ok-push-in-Use-2-clause-adds c =
    use_step c.args.plans.now c.args.inputs c.args.visit c.in_ok-inside-in-Use.inside c.in-Use.u c.index.result.now c.args.stack.now.items c.push-in-Use.new.self.items c.push-in-Use-2.new.self.items
    c.args.tables.now
    (omega (arith, c.if-visit-len.false, c.len.ensures)) c.index.ensures c.in-Use.is c.in_ok-push-in-Use.ensures.items c.in_ok-push-in-Use-2.ensures.items
    (c.in_ok-inside-in-Use.ensures.adds c.args.inputs c.args.tables.now c.in_ok-first-in-Use.ensures)
