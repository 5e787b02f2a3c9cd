use Rattle.std.proofs.lemmas.Result.{IfOk-weaker}
use Rattle.every_vector.proofs.FirstGreatest.{every_some, every_greatest}
use Rattle.few_inputs.proofs.search.greatest.Goals as goal

pub greatest_of-requires-clause-some : goal.greatest_of-requires-clause-some
greatest_of-requires-clause-some c = every_some c.args.nets.now.exact c.args.every.now c.requires

pub returns : goal.returns
returns c =
    let nets = c.args.nets.now in
    IfOk-weaker c.greatest_of.result _ _
    (λ a best. every_greatest c.args.metric nets.exact nets.approx c.args.every.now a.error a.witness c.requires best)
    c.greatest_of.ensures.greatest
