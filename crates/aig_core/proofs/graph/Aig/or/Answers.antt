use Rattle.aig_core.proofs.Literals.{disjunction}
use Rattle.aig_core.proofs.graph.Aig.or.Goals as goal

pub returns-clause-ok : goal.returns-clause-ok
returns-clause-ok c =
    disjunction c.and.new.self c.args.a c.args.b c.opposite.result c.opposite-2.result c.in_ok-none.none c.opposite-3.result c.opposite.ensures.value c.opposite-2.ensures.value
    c.in_ok-none.ensures.ok c.opposite-3.ensures.value
