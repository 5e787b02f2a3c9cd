use Rattle.std.proofs.Common.{ap, ◌∙◌, arith}
use Rattle.semantics.specs.Net.{input_count}
use Rattle.aiger_semantics.specs.NetCircuit.{table_ands}
use Rattle.aiger_text.proofs.NetLiterals.{firsts_more}
use Rattle.aiger_text.proofs.signals.first_variables.Goals as goal

pub loop-t-preserved : goal.loop-t-preserved
loop-t-preserved c =
    firsts_more (input_count c.args.net.now) c.args.net.now.tables c.loop-t.t c.loop-t.next c.loop-t.firsts.items c.push.new.self.items c.table_ands-next.result c.loop-t.invariant (omega arith)
    c.in_ok-push.ensures.items (c.table_ands-next.ensures ∙ ap table_ands c.table.ensures.value)
