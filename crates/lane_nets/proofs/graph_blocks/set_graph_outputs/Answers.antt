use Rattle.std.proofs.Common.{List, ℕ, sym, subst, arith}
use Rattle.aig_core.specs.Signals.{IsGraphOf}
use Rattle.lane_nets.proofs.GraphWords.{graph_outputs}
use Rattle.lane_nets.proofs.graph_blocks.set_graph_outputs.Goals as goal

pub returns-clause-outputs : goal.returns-clause-outputs
returns-clause-outputs c =
    let graph = c.requires.walk.graph in
    graph_outputs c.args.net.now c.args.walk.now.made.graph c.deref.result.now c.args.next.now.patterns.now.vectors c.args.next.now.q c.set_graph_block.new.wides c.set_literals.new.outputs
    c.see_sound.ensures.sound
    (subst (λ (ls : List ℕ). IsGraphOf c.args.net.now c.args.walk.now.made.graph ls) (sym c.deref.ensures.value) graph)
    c.set_graph_block.ensures.block (omega (arith, c.set_literals.auto.outputs, c.requires.room)) c.set_literals.ensures
