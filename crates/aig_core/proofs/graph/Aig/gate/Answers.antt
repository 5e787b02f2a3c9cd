use Rattle.std.proofs.Common.{sym, subst, arith}
use Rattle.aig_core.specs.Graph.{GraphValue, IsLiteralOf}
use Rattle.aig_core.specs.Grown.{Grows, AddsAtMost}
use Rattle.aig_core.proofs.Growing.{with_gates, added_grows, added_once, added_graph, added_few, gate_conjunction, gates_differ, stored_gate}
use Rattle.aig_core.proofs.graph.Aig.gate.Goals as goal

pub invariant_of-self-2 : goal.invariant_of-self-2
invariant_of-self-2 c =
    let g : GraphValue = record { inputs = c.self.inside.inputs; gates = c.self.inside.gates.keys } in
    let few = added_few g c.insert_full.new.self.keys c.args.gate _ c.in_ok-at.ensures.keys in (
      added_graph g c.insert_full.new.self.keys c.args.gate _ c.in_ok-at.ensures.keys c.self.invariant.0 c.requires.varying c.requires.apart
          (subst (λ h. IsLiteralOf h c.args.gate.right) (sym c.self.view_is) c.requires.within) (gates_differ c.insert_full.new.self.keys c.in_ok-at.ensures.unique),
      omega (arith, few, c.if-self-len-ge-MOST_NODES.false, c.len.ensures.len),
    )

pub returns-clause-grows : goal.returns-clause-grows
returns-clause-grows c =
    let g : GraphValue = record { inputs = c.self.inside.inputs; gates = c.self.inside.gates.keys } in
    subst (λ h. Grows h (with_gates g c.insert_full.new.self.keys)) c.self.view_is (added_grows g c.insert_full.new.self.keys c.args.gate _ c.in_ok-at.ensures.keys)

pub returns-clause-one : goal.returns-clause-one
returns-clause-one c =
    let g : GraphValue = record { inputs = c.self.inside.inputs; gates = c.self.inside.gates.keys } in
    subst (λ h. AddsAtMost h c.args.gate (with_gates g c.insert_full.new.self.keys)) c.self.view_is (added_once g c.insert_full.new.self.keys c.args.gate _ c.in_ok-at.ensures.keys)

pub returns-clause-ok : goal.returns-clause-ok
returns-clause-ok c =
    let g : GraphValue = record { inputs = c.self.inside.inputs; gates = c.insert_full.new.self.keys } in
    let stored = c.in_ok-at.ensures.stored in
    gate_conjunction g c.in_ok-at.at _ c.args.gate c.in_ok-at.ensures.within (stored_gate c.insert_full.new.self.keys c.in_ok-at.at c.args.gate stored.0 stored.1 stored.2) (omega arith)
