use Rattle.std.proofs.Common.{◌∙◌}
use Rattle.std.proofs.lemmas.Result.{IfOk-weaker}
use Rattle.bdd_nets.proofs.Splitting.{split_all}
use Rattle.bdd_nets.proofs.splits.split_rows.Goals as goal

pub returns-clause-ok : goal.returns-clause-ok
returns-clause-ok c =
    IfOk-weaker c.split.result _ _
    (λ r over. split_all c.split.new.d _ c.deref_mut.result.now _ r
    (c.deref_mut.ensures.value ∙ c.in_ok-chosen.ensures.items_if_clones_equal (λ y h. h)) over)
    c.split.ensures.ok
