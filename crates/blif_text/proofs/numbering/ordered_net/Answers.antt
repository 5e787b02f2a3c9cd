use Rattle.std.proofs.Common.{Ok, sym, ap, ◌∙◌}
use Rattle.semantics.specs.Net.{NetValue}
use Rattle.semantics.specs.Refusals.{first_ungrounded}
use Rattle.blif_text.proofs.Numbered.{order-grounded, table_within, cycle_told, limit_told, ordered_ok, wired}
use Rattle.blif_text.proofs.numbering.ordered_net.Goals as goal

pub get-requires : goal.get-requires
get-requires c =
    let found = rw c.in-Err.is at c.in_ok-order.ensures in
    table_within _ c.args.tables c.in-Err.i (ap (first_ungrounded c.len.result) (sym c.as_slice.ensures) ∙ found)

pub returns-in-Err-clause-err : goal.returns-in-Err-clause-err
returns-in-Err-clause-err c =
    let N : NetValue = record { model = c.args.model; inputs = c.args.inputs; tables = c.args.tables; outputs = c.args.outputs } in
    let found = rw c.in-Err.is at c.in_ok-order.ensures in
    cycle_told N c.in-Err.i c.in_ok-name-in-Err.name c.get.result.now
    (ap (λ n. first_ungrounded n c.args.tables) (sym c.len.ensures) ∙ ap (first_ungrounded c.len.result) (sym c.as_slice.ensures) ∙ found)
    (c.in_ok-name-in-Err.ensures ∙ c.name.ensures.value ∙ ap (λ t. t.name) c.get.ensures)

pub returns-in-Some-clause-err : goal.returns-in-Some-clause-err
returns-in-Some-clause-err c =
    let N : NetValue = record { model = c.args.model; inputs = c.args.inputs; tables = c.args.tables; outputs = c.args.outputs } in
    let order = rw c.in-Ok.is at c.in_ok-order.ensures in
    let none = ap (λ n. first_ungrounded n c.args.tables) (sym c.len.ensures) ∙ ap (first_ungrounded c.len.result) (sym c.as_slice.ensures) ∙ order-grounded _ _ _ order in
    limit_told N c.in-Some.which none (sym c.in-Some.is ∙ c.first_limit.ensures c.args.model)

pub from_ordered-requires-clause-wired : goal.from_ordered-requires-clause-wired
from_ordered-requires-clause-wired c =
    let N : NetValue = record { model = c.args.model; inputs = c.args.inputs; tables = c.args.tables; outputs = c.args.outputs } in
    wired N c.requires.driven c.requires.few (sym (c.first_limit.ensures c.args.model) ∙ c.in_default.is)

pub returns-clause-ok : goal.returns-clause-ok
returns-clause-ok c =
    let N : NetValue = record { model = c.args.model; inputs = c.args.inputs; tables = c.args.tables; outputs = c.args.outputs } in
    let order = rw c.in-Ok.is at c.in_ok-order.ensures in
    let none = ap (λ n. first_ungrounded n c.args.tables) (sym c.len.ensures) ∙ ap (first_ungrounded c.len.result) (sym c.as_slice.ensures) ∙ order-grounded _ _ _ order in
    ordered_ok N none (sym (c.first_limit.ensures c.args.model) ∙ c.in_default.is) ∙ ap Ok (sym c.from_ordered.ensures)
