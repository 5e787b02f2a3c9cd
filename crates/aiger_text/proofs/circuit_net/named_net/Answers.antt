use Rattle.std.proofs.Common.{Ok, Err, ap, sym, ◌∙◌}
use Rattle.std.proofs.lemmas.Option.{same_Some}
use Rattle.semantics.specs.Net.{NetValue}
use Rattle.semantics.specs.Refusals.{no_output, undriven, cycle}
use Rattle.aiger_text.proofs.NetSteps.{named-ok, named-doubled, named-limit, told-named}
use Rattle.aiger_text.proofs.circuit_net.named_net.Goals as goal

pub returns-in-Ok-clause-ok : goal.returns-in-Ok-clause-ok
returns-in-Ok-clause-ok c =
    let N : NetValue = record { model = c.args.model; inputs = c.args.inputs; tables = c.args.tables; outputs = c.args.outputs } in
    let accepted = rw c.in-Ok.is at c.from_parts.ensures.accepted in
    let made = rw c.in-Ok.is at c.from_parts.ensures.ok in
    named-ok N c.requires.output c.requires.driven c.requires.grounded accepted ∙ ap Ok (sym made)

pub returns-in-Err-Doubled-clause-err : goal.returns-in-Err-Doubled-clause-err
returns-in-Err-Doubled-clause-err c =
    let N : NetValue = record { model = c.args.model; inputs = c.args.inputs; tables = c.args.tables; outputs = c.args.outputs } in
    let told = rw (c.in-Err-Doubled.is, c.in-Err-Doubled.field-0-is) at c.from_parts.ensures.refused in
    λ refusal e. named-doubled N c.requires.output c.requires.driven c.requires.grounded c.in-Err-Doubled.name told ∙ ap Err (same_Some _ _ e)

pub returns-in-Err-Limit-clause-err : goal.returns-in-Err-Limit-clause-err
returns-in-Err-Limit-clause-err c =
    let N : NetValue = record { model = c.args.model; inputs = c.args.inputs; tables = c.args.tables; outputs = c.args.outputs } in
    let told = rw (c.in-Err-Limit.is, c.in-Err-Limit.field-0-is) at c.from_parts.ensures.refused in
    λ refusal e. named-limit N c.requires.output c.requires.driven c.requires.grounded c.in-Err-Limit.which told ∙ ap Err (same_Some _ _ e)

pub unreachable-requires : goal.unreachable-requires
unreachable-requires c =
    let N : NetValue = record { model = c.args.model; inputs = c.args.inputs; tables = c.args.tables; outputs = c.args.outputs } in
    let told = rw (c.in-Err-NoOutput.is, c.in-Err-NoOutput.field-0-is) at c.from_parts.ensures.refused in
    told-named N c.requires.output c.requires.driven c.requires.grounded no_output told

pub unreachable-requires-in-Err-Undriven : goal.unreachable-requires-in-Err-Undriven
unreachable-requires-in-Err-Undriven c =
    let N : NetValue = record { model = c.args.model; inputs = c.args.inputs; tables = c.args.tables; outputs = c.args.outputs } in
    let told = rw (c.in-Err-Undriven.is, c.in-Err-Undriven.field-0-is) at c.from_parts.ensures.refused in
    told-named N c.requires.output c.requires.driven c.requires.grounded (undriven c.in-Err-Undriven.field-0-0) told

pub unreachable-requires-in-Err-Cycle : goal.unreachable-requires-in-Err-Cycle
unreachable-requires-in-Err-Cycle c =
    let N : NetValue = record { model = c.args.model; inputs = c.args.inputs; tables = c.args.tables; outputs = c.args.outputs } in
    let told = rw (c.in-Err-Cycle.is, c.in-Err-Cycle.field-0-is) at c.from_parts.ensures.refused in
    told-named N c.requires.output c.requires.driven c.requires.grounded (cycle c.in-Err-Cycle.field-0-0) told
