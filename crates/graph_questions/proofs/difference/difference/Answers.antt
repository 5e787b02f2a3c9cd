use Rattle.std.proofs.lemmas.Result.{IfOk-weaker}
use Rattle.graph_questions.proofs.Differences.{difference_is}
use Rattle.graph_questions.proofs.difference.difference.Goals as goal

pub returns-clause-value : goal.returns-clause-value
returns-clause-value c =
    IfOk-weaker c.exclusive.result _ _
    (λ l exclusive. difference_is c.signal_literals.new.g c.signal_literals-2.new.g c.exclusive.new.g c.args.change.now c.args.after.now
    c.args.inputs.now c.in_ok-before.before.items c.in_ok-behind.behind.items l c.index.result.now c.index-2.result.now _ _ c.in_ok-behind.ensures.grows c.exclusive.ensures.grows
    c.requires.before_count c.requires.after_count c.requires.in_before c.requires.in_after
    c.in_ok-before.ensures.length c.in_ok-behind.ensures.length c.in_ok-before.ensures.signals c.in_ok-behind.ensures.signals c.index.ensures c.index-2.ensures exclusive)
    c.exclusive.ensures.value
