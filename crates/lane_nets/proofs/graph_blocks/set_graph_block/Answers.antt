use Rattle.std.proofs.Common.{◌+◌, ◌*◌, ◌<◌, ℕ, List, length, ◌∙◌, sym, subst, ap, arith}
use Rattle.aig_core.specs.Graph.{input_node}
use Rattle.lane_nets.specs.declared.schedule.Entry.{Entry}
use Rattle.lane_nets.specs.Blocks.{vector_at}
use Rattle.lane_nets.specs.Schedules.{IsSettled, AreEntriesOf, AreFirstReads, IsDone, entry_at}
use Rattle.lane_nets.proofs.Schedules.{entry_nodes, entry_gates, entry_reads, done_before, settled_nodes}
use Rattle.lane_nets.proofs.graph_blocks.set_graph_block.Goals as goal

pub eval_order-requires-clause-within : goal.eval_order-requires-clause-within
eval_order-requires-clause-within c =
    let g = c.args.walk.now.made.graph in
    let are = subst (AreEntriesOf c.args.walk.now.made.graph) (sym c.deref-2.ensures.value) c.requires.schedule.order in
    λ p low. entry_reads g c.deref-2.result.now c.is_graph.ensures.graph are _ p (omega (arith, c.change_inputs-from.auto.wides, c.requires.room)) low

pub eval_order-requires-clause-nodes : goal.eval_order-requires-clause-nodes
eval_order-requires-clause-nodes c =
    let g = c.args.walk.now.made.graph in
    let are = subst (AreEntriesOf c.args.walk.now.made.graph) (sym c.deref-2.ensures.value) c.requires.schedule.order in
    λ p low. omega (arith, entry_nodes g c.deref-2.result.now c.is_graph.ensures.graph are p low, c.change_inputs-from.auto.wides, c.requires.room)

pub eval_order-requires-clause-once : goal.eval_order-requires-clause-once
eval_order-requires-clause-once c = (subst (AreEntriesOf c.args.walk.now.made.graph) (sym c.deref-2.ensures.value) c.requires.schedule.order).once

pub eval_order-requires-clause-ordered : goal.eval_order-requires-clause-ordered
eval_order-requires-clause-ordered c = (subst (AreEntriesOf c.args.walk.now.made.graph) (sym c.deref-2.ensures.value) c.requires.schedule.order).ordered

pub eval_order-requires-clause-before : goal.eval_order-requires-clause-before
eval_order-requires-clause-before c =
    let g = c.args.walk.now.made.graph in
    let are = subst (AreEntriesOf c.args.walk.now.made.graph) (sym c.deref-2.ensures.value) c.requires.schedule.order in
    done_before g c.deref-2.result.now c.is_graph.ensures.graph are c.deref.result.now c.args.wides.now c.change_inputs-from.new.wides c.change_inputs-from.result
    (ap length c.deref.ensures.value ∙ c.requires.schedule.count)
    (subst (λ (l : List Entry). AreFirstReads l c.deref.result.now) (sym c.deref-2.ensures.value)
    (subst (AreFirstReads c.args.walk.now.schedule.order.items) (sym c.deref.ensures.value) c.requires.schedule.firsts))
    (subst (λ (l : List Entry). (p : ℕ) → p < length l → IsDone c.args.wides.now (entry_at l p)) (sym c.deref-2.ensures.value) c.requires.settled.done)
    c.change_inputs-from.ensures.changed (λ n past. c.change_inputs-from.ensures.gates n (omega (arith, past, c.requires.inputs)))

pub returns-clause-settled : goal.returns-clause-settled
returns-clause-settled c =
    let g = c.args.walk.now.made.graph in
    let are = subst (AreEntriesOf c.args.walk.now.made.graph) (sym c.deref-2.ensures.value) c.requires.schedule.order in
    subst (λ (l : List Entry). IsSettled l c.eval_order.new.wides) c.deref-2.ensures.value
    (record {
      constant = λ j b lane low.
          c.eval_order.ensures.others 0 (λ p within. entry_gates g c.deref-2.result.now c.is_graph.ensures.graph are p 0 within (omega arith)) j b lane low
          ∙ c.change_inputs-from.ensures.constant j b lane low ∙ c.requires.settled.constant j b lane low;
      done = c.eval_order.ensures.done;
    })

pub returns-clause-inputs : goal.returns-clause-inputs
returns-clause-inputs c =
    let g = c.args.walk.now.made.graph in
    let are = subst (AreEntriesOf c.args.walk.now.made.graph) (sym c.deref-2.ensures.value) c.requires.schedule.order in
    λ i within j b lane low.
    c.eval_order.ensures.others (input_node i)
    (λ p inside. entry_gates g c.deref-2.result.now c.is_graph.ensures.graph are p (input_node i) inside (omega (arith, within, c.requires.inputs))) j b lane low
    ∙ c.change_inputs-from.ensures.inputs i within j b lane low

pub returns-clause-block : goal.returns-clause-block
returns-clause-block c =
    let g = c.args.walk.now.made.graph in
    let are = subst (AreEntriesOf c.args.walk.now.made.graph) (sym c.deref-2.ensures.value) c.requires.schedule.order in
    λ j b lane low.
    settled_nodes g c.deref-2.result.now c.is_graph.ensures.graph are c.eval_order.new.wides j b (vector_at c.args.next.now.patterns.now.vectors (64 * (8 * c.args.next.now.q + j) + b)) lane low
    (record {
      constant = λ j b lane low.
          c.eval_order.ensures.others 0 (λ p within. entry_gates g c.deref-2.result.now c.is_graph.ensures.graph are p 0 within (omega arith)) j b lane low
          ∙ c.change_inputs-from.ensures.constant j b lane low ∙ c.requires.settled.constant j b lane low;
      done = c.eval_order.ensures.done;
    })
    (λ i within.
    c.eval_order.ensures.others (input_node i) (λ p inside. entry_gates g c.deref-2.result.now c.is_graph.ensures.graph are p (input_node i) inside (omega (arith, within))) j b lane low
    ∙ c.change_inputs-from.ensures.inputs i (omega (arith, within, c.requires.inputs)) j b lane low)
