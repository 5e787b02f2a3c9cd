use Rattle.std.proofs.lemmas.Result.{IfOk-weaker}
use Rattle.aig_core.proofs.Rows.{marked_zero, marked_one}
use Rattle.aig_core.proofs.tables.with_mark.Goals as goal

pub returns-in-Zero-clause-ok : goal.returns-in-Zero-clause-ok
returns-in-Zero-clause-ok c =
    rw c.in-Zero.is (IfOk-weaker _ _ _ (λ r both. marked_zero c.and.new.self c.args.pin c.opposite.result c.args.all r c.opposite.ensures.value both) c.and.ensures.ok)

pub returns-in-One-clause-ok : goal.returns-in-One-clause-ok
returns-in-One-clause-ok c =
    rw c.in-One.is (IfOk-weaker _ _ _ (λ r both. marked_one c.and-in-One.new.self c.args.pin c.args.all r both) c.and-in-One.ensures.ok)
