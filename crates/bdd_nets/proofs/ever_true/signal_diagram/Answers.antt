use Rattle.std.proofs.Common.{List, ℕ, subst, arith}
use Rattle.bdd_nets.specs.Signals.{AreSignalsOf}
use Rattle.bdd_nets.proofs.Signals.{signal_of_variables}
use Rattle.bdd_nets.proofs.Deciding.{signal_read}
use Rattle.bdd_nets.proofs.ever_true.signal_diagram.Goals as goal

pub returns-clause-ok : goal.returns-clause-ok
returns-clause-ok c =
    let inputs = c.in_ok-inputs.inputs.items in
    let tables = c.args.net.now.tables in
    let signals = c.in_ok-signals.signals.items in
    let are = subst (λ (l : List ℕ). AreSignalsOf c.signal_diagrams.new.d tables l signals) c.deref.ensures.value c.in_ok-signals.ensures.signals in
    signal_of_variables c.variable_diagrams.new.d c.signal_diagrams.new.d tables c.args.variables.now inputs c.args.signal c.index.result.now c.in_ok-inputs.ensures.variables
    c.in_ok-signals.ensures.grows
    (signal_read c.signal_diagrams.new.d tables inputs signals c.args.signal c.index.result.now are
    (omega (arith, c.requires.signal, c.requires.variables, c.in_ok-inputs.ensures.variables.count))
    (omega (arith, c.in_ok-signals.ensures.length, c.requires.variables, c.in_ok-inputs.ensures.variables.count)) c.index.ensures)
