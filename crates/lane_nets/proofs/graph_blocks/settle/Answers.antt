use Rattle.std.proofs.Common.{List, ◌∙◌, sym, subst, arith}
use Rattle.std.proofs.Math.ListN.{length-set}
use Rattle.lane_nets.specs.declared.schedule.Entry.{Entry}
use Rattle.lane_nets.specs.Schedules.{IsSettled, AreEntriesOf}
use Rattle.lane_nets.proofs.GraphWords.{constant_set}
use Rattle.lane_nets.proofs.Schedules.{entry_nodes, entry_gates, entry_reads}
use Rattle.lane_nets.proofs.graph_blocks.settle.Goals as goal

pub eval_order-requires-clause-within : goal.eval_order-requires-clause-within
eval_order-requires-clause-within c =
    let are = subst (AreEntriesOf c.args.walk.now.made.graph) (sym c.deref.ensures.value) c.requires.schedule.order in
    λ p low. entry_reads c.args.walk.now.made.graph c.deref.result.now c.is_graph.ensures.graph are _ p (length-set c.args.wides.now 0 c.equal_words.result ∙ c.requires.room) low

pub eval_order-requires-clause-nodes : goal.eval_order-requires-clause-nodes
eval_order-requires-clause-nodes c =
    let are = subst (AreEntriesOf c.args.walk.now.made.graph) (sym c.deref.ensures.value) c.requires.schedule.order in
    λ p low. omega
    (arith, entry_nodes c.args.walk.now.made.graph c.deref.result.now c.is_graph.ensures.graph are p low, length-set c.args.wides.now 0 c.equal_words.result, c.requires.room)

pub eval_order-requires-clause-once : goal.eval_order-requires-clause-once
eval_order-requires-clause-once c = (subst (AreEntriesOf c.args.walk.now.made.graph) (sym c.deref.ensures.value) c.requires.schedule.order).once

pub eval_order-requires-clause-ordered : goal.eval_order-requires-clause-ordered
eval_order-requires-clause-ordered c = (subst (AreEntriesOf c.args.walk.now.made.graph) (sym c.deref.ensures.value) c.requires.schedule.order).ordered

pub eval_order-requires-clause-before : goal.eval_order-requires-clause-before
eval_order-requires-clause-before c = λ p early. absurd (omega (arith, early))

pub returns : goal.returns
returns c =
    let are = subst (AreEntriesOf c.args.walk.now.made.graph) (sym c.deref.ensures.value) c.requires.schedule.order in
    subst (λ (l : List Entry). IsSettled l c.eval_order.new.wides) c.deref.ensures.value
    (record {
      constant = λ j b lane low.
          c.eval_order.ensures.others 0 (λ p within. entry_gates c.args.walk.now.made.graph c.deref.result.now c.is_graph.ensures.graph are p 0 within (omega arith)) j b lane low
          ∙ constant_set c.args.wides.now c.equal_words.result (omega (arith, c.requires.room)) c.equal_words.ensures j b lane low;
      done = c.eval_order.ensures.done;
    })
