use Rattle.std.proofs.Common.{List, sym, subst, ◌∙◌}
use Rattle.lane_nets.specs.declared.schedule.Entry.{Entry}
use Rattle.lane_nets.specs.Schedules.{AreEntriesOf, AreFirstReads}
use Rattle.lane_nets.proofs.Schedules.{entry_reads}
use Rattle.lane_nets.proofs.schedule.scheduled.Goals as goal

pub first_reads-requires : goal.first_reads-requires
first_reads-requires c =
    λ p low. entry_reads c.args.graph.now c.deref-2.result.now c.is_graph.ensures.graph (subst (AreEntriesOf c.args.graph.now) (sym c.deref-2.ensures.value) c.in_ok-order.ensures) _ p c.nodes.ensures low

pub returns : goal.returns
returns c = record {
  order = c.in_ok-order.ensures;
  count = c.in_ok-firsts.ensures.count ∙ c.nodes.ensures;
  firsts = subst (λ (l : List Entry). AreFirstReads l c.in_ok-firsts.firsts.items) c.deref-2.ensures.value c.in_ok-firsts.ensures.firsts;
}
