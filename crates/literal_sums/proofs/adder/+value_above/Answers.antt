use Rattle.std.proofs.Common.{arith, ap, sym, ◌∙◌}
use Rattle.aig_core.specs.Graph.{node_at}
use Rattle.literal_sums.proofs.Adding.{gate_known, none_known}
use Rattle.literal_sums.proofs.adder.+value_above.Goals as goal

pub returns-then-is_known : goal.returns-then-is_known
returns-then-is_known t c =
    gate_known c.args.g.now c.args.adder.now c.args.at c.args.literal c.in-And.left c.in-And.right _ _ _ _ _ (omega arith)
    (ap (node_at c.args.g.now) (sym c.node_of-2.ensures) ∙ sym c.in-And.ensures) c.is_negative.ensures
    c.value_above-first.ensures (none_known _ _ _ _) c.both.ensures c.turned.ensures

pub returns-else-is_known : goal.returns-else-is_known
returns-else-is_known t c =
    gate_known c.args.g.now c.args.adder.now c.args.at c.args.literal c.in-And.left c.in-And.right _ _ _ _ _ (omega arith)
    (ap (node_at c.args.g.now) (sym c.node_of-2.ensures) ∙ sym c.in-And.ensures) c.is_negative-in-And.ensures
    c.value_above-first.ensures c.value_above-second.ensures c.both-in-And.ensures c.turned-in-And.ensures
