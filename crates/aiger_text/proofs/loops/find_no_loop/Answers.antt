use Rattle.std.proofs.Common.{Err, length, ap, ◌∙◌, arith}
use Rattle.std.proofs.lemmas.Option.{same_Some}
use Rattle.aiger_semantics.specs.CircuitLines.{loop}
use Rattle.aiger_semantics.specs.Reading.{unless_refused}
use Rattle.aiger_text.proofs.UsedVariables.{slice-count, pins-within, no-loop, loop-within, loop-at}
use Rattle.aiger_text.proofs.loops.find_no_loop.Goals as goal

pub overflow_cast-inputs : goal.overflow_cast-inputs
overflow_cast-inputs c = omega (arith, c.requires.read.few, ap length c.inputs.ensures)

pub order_of-requires-clause-few_signals : goal.order_of-requires-clause-few_signals
order_of-requires-clause-few_signals c =
    omega (
      arith,
      c.requires.read.few,
      ap length c.inputs.ensures,
      slice-count c.args.circuit.now c.requires.read c.args.known.now c.requires.known c.lines-all.result.now c.lines-all.ensures c.as_slice.result.now c.in_ok-tables.tables c.as_slice.ensures
          c.in_ok-tables.ensures (length c.inputs.result.now) (ap length c.inputs.ensures),
    )

pub order_of-requires-clause-pins : goal.order_of-requires-clause-pins
order_of-requires-clause-pins c = pins-within c.args.circuit.now c.requires.read c.args.known.now c.requires.known c.lines-all.result.now c.lines-all.ensures c.as_slice.result.now
    c.in_ok-tables.tables c.as_slice.ensures c.in_ok-tables.ensures (length c.inputs.result.now) (ap length c.inputs.ensures) c.requires.defined

pub returns-in-Ok-clause-ok : goal.returns-in-Ok-clause-ok
returns-in-Ok-clause-ok c =
    let order = rw c.in-Ok.is at c.in_ok-found.ensures in
    no-loop c.args.circuit.now c.requires.read c.args.known.now c.requires.known c.lines-all.result.now c.lines-all.ensures c.as_slice.result.now c.in_ok-tables.tables c.as_slice.ensures
    c.in_ok-tables.ensures (length c.inputs.result.now) (ap length c.inputs.ensures) _ order

pub bounds-all-i : goal.bounds-all-i
bounds-all-i c =
    let found = rw c.in-Err.is at c.in_ok-found.ensures in
    loop-within c.args.circuit.now c.requires.read c.args.known.now c.requires.known c.lines-all.result.now c.lines-all.ensures c.as_slice.result.now c.in_ok-tables.tables c.as_slice.ensures
    c.in_ok-tables.ensures (length c.inputs.result.now) (ap length c.inputs.ensures) c.in-Err.i found

pub returns-clause-err : goal.returns-clause-err
returns-clause-err c =
    let found = rw c.in-Err.is at c.in_ok-found.ensures in
    λ rest refusal e. ap (λ o. unless_refused o loop rest)
    (loop-at c.args.circuit.now c.requires.read c.args.known.now c.requires.known c.lines-all.result.now c.lines-all.ensures c.as_slice.result.now c.in_ok-tables.tables c.as_slice.ensures
    c.in_ok-tables.ensures (length c.inputs.result.now) (ap length c.inputs.ensures) c.in-Err.i _ found) ∙ ap Err (same_Some _ _ e)
