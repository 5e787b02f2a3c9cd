use Rattle.std.proofs.Common.{◌+◌, length, ap, arith}
use Rattle.lane_nets.proofs.ChangedInputs.{next_kept, wides_back, walked_same, walked_graph, walked_tables}
use Rattle.lane_nets.proofs.wide_outputs.WideOutputs.reach.Goals as goal
use Rattle.lane_nets.proofs.wide_outputs.WideOutputs.reach.Goals.{in-Some, in-None}

pub set_graph_outputs-requires-clause-kept : goal.set_graph_outputs-requires-clause-kept
set_graph_outputs-requires-clause-kept c =
    c.marks_at-marks.ensures c.self.inside.patterns.now c.deref_mut.result.now c.self.invariant.changes
    (next_kept c.self.inside.patterns.now c.self.inside.walk c.in-Some.walk c.self.inside.next c.self.inside.wides.items c.deref_mut.result.now c.in-Some.is c.deref_mut.ensures.value
    c.self.invariant.next)

pub invariant_of-self : goal.invariant_of-self
invariant_of-self c =
    let i = c.self.inside in
    elim c.match-self.branch [
      | in-Some w ↦
          rw w.self-inside-is
          (walked_same i.net.now i.patterns.now i.changes.now i.walk (c.args.q + 1) w.set_graph_outputs.new.wides w.set_graph_outputs.new.outputs _ _
          (wides_back i.wides.len w.set_graph_outputs.new.wides i.wides.items (omega (arith, w.set_graph_outputs.auto.wides, w.deref_mut.ensures.len)))
          (wides_back i.outputs.len w.set_graph_outputs.new.outputs i.outputs.items (omega (arith, w.set_graph_outputs.auto.outputs, w.deref_mut-in-Some.ensures.len)))
          (walked_graph i.net.now i.patterns.now i.changes.now i.walk i.next c.args.q i.wides.items i.outputs.items w.set_graph_outputs.new.wides w.set_graph_outputs.new.outputs c.self.invariant
          (omega (arith, w.set_graph_outputs.auto.outputs, ap length w.deref_mut-in-Some.ensures.value)) w.in-Some.walk w.in-Some.is w.set_graph_outputs.ensures.walk
          w.set_graph_outputs.ensures.inputs))
      | in-None w ↦
          rw w.self-inside-is
          (walked_same i.net.now i.patterns.now i.changes.now i.walk (c.args.q + 1) w.set_table_outputs.new.wides w.set_table_outputs.new.outputs _ _
          (wides_back i.wides.len w.set_table_outputs.new.wides i.wides.items (omega (arith, w.set_table_outputs.auto.wides, w.deref_mut-in-None.ensures.len)))
          (wides_back i.outputs.len w.set_table_outputs.new.outputs i.outputs.items (omega (arith, w.set_table_outputs.auto.outputs, w.deref_mut-in-None-2.ensures.len)))
          (walked_tables i.net.now i.patterns.now i.changes.now i.walk i.next c.args.q i.wides.items i.outputs.items w.set_table_outputs.new.wides w.set_table_outputs.new.outputs c.self.invariant
          (omega (arith, w.set_table_outputs.auto.outputs, ap length w.deref_mut-in-None-2.ensures.value)) w.in-None.is
          (omega (arith, w.set_table_outputs.auto.wides, ap length w.deref_mut-in-None.ensures.value))))
    ]
