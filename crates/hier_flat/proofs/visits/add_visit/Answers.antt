use Rattle.hier_flat.specs.Visits.{with_visit}
use Rattle.hier_flat.proofs.Visiting.{top_step}
use Rattle.hier_flat.proofs.visits.add_visit.Goals as goal

pub loop-turn-preserved : goal.loop-turn-preserved
loop-turn-preserved c = (
  c.in_ok-step.ensures.stack,
  top_step c.args.plans.now c.args.inputs c.loop-turn.stack.items c.pop.new.self.items c.step.new.stack.items c.in-Some.top c.loop-turn.tables c.step.new.tables
      (with_visit c.args.plans.now c.args.inputs c.args.visit c.args.tables.now) c.in-Some.ensures.items c.in_ok-step.ensures.adds c.loop-turn.invariant.1,
)
