use Rattle.std.proofs.Common.{ap, length, ◌++◌, ◌∷◌, [], ◌∙◌, arith}
use Rattle.aiger_semantics.specs.ReadNet.{output_table}
use Rattle.aiger_text.proofs.PortSteps.{port}
use Rattle.aiger_text.proofs.AskedLiterals.{own-name, own-next, own-end}
use Rattle.aiger_text.proofs.conjunctions.push_own_tables.Goals as goal

pub known-requires : goal.known-requires
known-requires c =
    own-name c.args.circuit.now c.requires.read c.args.ports.now c.requires.ports c.loop-place.place (omega (arith, c.loop-place.auto.place, ap length c.inputs-place.ensures))
    (omega (arith, c.loop-place-test.true, c.len-place-end.ensures)) _ _ (c.port-literal.ensures (port [] 0))

pub loop-place-preserved : goal.loop-place-preserved
loop-place-preserved c =
    own-next c.args.circuit.now c.requires.read c.args.ports.now c.requires.ports c.loop-place.place (omega (arith, c.loop-place.auto.place, ap length c.inputs-place.ensures))
    (omega (arith, c.loop-place-test.true, c.len-place-end.ensures)) c.args.variables.now c.args.tables.now c.loop-place.tables c.push.new.self c.port-literal.result.0.now c.port-literal.result.1
    (c.port-literal.ensures (port [] 0)) c.loop-place.invariant
    (c.in_ok-push.ensures.ok
    ∙ ap (λ t. c.loop-place.tables ++ t ∷ [])
    (c.in_ok-conjunction_table.ensures ∙ ap (λ n. output_table c.args.variables.now (port n c.port-literal.result.1)) c.in_ok-name.ensures))

pub returns : goal.returns
returns c =
    own-end c.args.circuit.now c.requires.read c.args.variables.now c.args.tables.now c.loop-place.tables c.args.ports.now c.loop-place.place c.requires.ports
    (omega (arith, c.loop-place-test.false, c.len-place-end.ensures)) c.loop-place.invariant
