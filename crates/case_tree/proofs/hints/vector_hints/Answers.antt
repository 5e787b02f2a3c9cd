use Rattle.std.proofs.Common.{◌∙◌, length, ap, arith}
use Rattle.std.proofs.lemmas.Result.{IfOk-weaker}
use Rattle.semantics.specs.Net.{input_count}
use Rattle.case_tree.proofs.Steps.{length-first_ids, hints_turned}
use Rattle.case_tree.proofs.hints.vector_hints.Goals as goal

pub bounds-firsts-count : goal.bounds-firsts-count
bounds-firsts-count c = omega (arith, c.tables-count.ensures.value, ap length c.requires.firsts, length-first_ids 1 c.args.net.now.tables)

pub returns-clause-hints : goal.returns-clause-hints
returns-clause-hints c =
    IfOk-weaker c.reversed.result _ _
    (λ ids back. hints_turned (input_count c.args.net.now) c.args.net.now.tables c.args.order.now (length c.as_mut_slice-needed.result.now) c.output.result _ c.deref.result.now
    c.args.room.now.values.items
    c.fill.new.self ids c.deref-2.result.now c.push_tables.new.hints.items c.deref.ensures.value (c.fill.ensures.after (λ y e. e))
    (ap length c.as_mut_slice-needed.ensures.value ∙ c.requires.room.needed)
    c.output.ensures.value c.in_ok-push_tables.ensures c.deref-2.ensures.value back)
    c.reversed.ensures
