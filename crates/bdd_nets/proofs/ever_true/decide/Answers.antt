use Rattle.std.proofs.lemmas.Result.{IfOk-weaker}
use Rattle.semantics.specs.Net.{input_count}
use Rattle.bdd_nets.proofs.Deciding.{decided}
use Rattle.bdd_nets.proofs.ever_true.decide.Goals as goal

pub returns-in-Ok : goal.returns-in-Ok
returns-in-Ok c =
    IfOk-weaker c.decide_diagram.result _ _
    (decided c.signal_diagram.new.d c.args.net.now.tables c.args.variables.now c.args.signal c.in-Ok.f c.in-Ok.ensures.ok c.values.ensures c.requires.distinct (input_count c.args.net.now)
    c.requires.variables)
    c.decide_diagram.ensures
