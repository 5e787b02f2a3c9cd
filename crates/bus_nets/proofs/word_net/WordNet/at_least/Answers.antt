use Rattle.std.proofs.Common.{◌∙◌}
use Rattle.bus_nets.proofs.Steps.{counting_width}
use Rattle.bus_nets.proofs.Numbers.{counting_some}
use Rattle.bus_nets.proofs.word_net.WordNet.at_least.Goals as goal

pub prove-unreachable-requires : goal.prove-unreachable-requires
prove-unreachable-requires c = c.if-prove.true (c.len.ensures ∙ counting_width _ _ _ _ _ _ c.loop-bit.invariant c.loop-bit-test.false)

pub returns-clause-value : goal.returns-clause-value
returns-clause-value c = counting_some _ _ _ _ _ _ _ _ c.loop-bit.invariant c.loop-bit-test.false c.as_slice-bit-items.ensures c.if-k-eq0.false c.get.ensures
