use Rattle.std.proofs.lemmas.Result.{IfOk-weaker}
use Rattle.aig_core.proofs.Literals.{conjunction_turned}
use Rattle.aig_core.proofs.graph.Aig.and.Goals as goal

pub returns-else-a-b-clause-ok : goal.returns-else-a-b-clause-ok
returns-else-a-b-clause-ok c =
    IfOk-weaker _ _ _ (λ r is. conjunction_turned c.and_sorted-else-a-b.new.self c.args.b c.args.a r is) c.and_sorted-else-a-b.ensures.ok
