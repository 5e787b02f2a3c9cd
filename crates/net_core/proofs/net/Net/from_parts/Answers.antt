use Rattle.std.proofs.Common.{◌≡◌, Some, None, length, sym, ap, ◌∙◌, arith}
use Rattle.std.proofs.lemmas.Option.{MatchOption-at_none, MatchOption-at_some}
use Rattle.std.proofs.lemmas.Result.{MatchResult-at_ok, MatchResult-at_err}
use Rattle.semantics.specs.Net.{NetValue, input_count, signal_names}
use Rattle.semantics.specs.Order.{IsOrderOf}
use Rattle.semantics.specs.Refusals.{first_doubled, first_undriven, first_ungrounded}
use Rattle.semantics.proofs.Ordered.{order-acyclic}
use Rattle.semantics.proofs.Refused.{acyclic-grounded, ungrounded, driven}
use Rattle.net_core.proofs.Refusing.{doubled_told, no_output_told, undriven_told, cycle_told, limit_told, none_told, wired}
use Rattle.net_core.proofs.net.Net.from_parts.Goals as goal

pub returns-in-Some-clause-refused : goal.returns-in-Some-clause-refused
returns-in-Some-clause-refused c =
    let N : NetValue = record { model = c.args.model; inputs = c.args.inputs; tables = c.args.tables; outputs = c.args.outputs } in
    let name = c.in-Some.name in
    let told = MatchOption-at_some (first_doubled (signal_names N) ≡ None) (λ n. first_doubled (signal_names N) ≡ Some n.now) name c.in-Some.is c.in_ok-name.ensures in
    doubled_told N c.in_ok-copy.field-0 (told ∙ ap Some (sym c.in_ok-copy.ensures))

pub returns-then-is_empty-clause-refused : goal.returns-then-is_empty-clause-refused
returns-then-is_empty-clause-refused c =
    let N : NetValue = record { model = c.args.model; inputs = c.args.inputs; tables = c.args.tables; outputs = c.args.outputs } in
    let differ = MatchOption-at_none (first_doubled (signal_names N) ≡ None) (λ n. first_doubled (signal_names N) ≡ Some n.now) c.in_default.is c.in_ok-name.ensures in
    no_output_told N differ (sym c.is_empty.ensures ∙ c.if-is_empty.true)

pub returns-in-Some-first_undriven-clause-refused : goal.returns-in-Some-first_undriven-clause-refused
returns-in-Some-first_undriven-clause-refused c =
    let N : NetValue = record { model = c.args.model; inputs = c.args.inputs; tables = c.args.tables; outputs = c.args.outputs } in
    let differ = MatchOption-at_none (first_doubled (signal_names N) ≡ None) (λ n. first_doubled (signal_names N) ≡ Some n.now) c.in_default.is c.in_ok-name.ensures in
    let undriven : first_undriven N ≡ Some c.in-Some-first_undriven.signal = rw (← c.len.ensures, ← c.len-2.ensures) (sym c.first_undriven.ensures ∙ c.in-Some-first_undriven.is) in
    undriven_told N differ (sym c.is_empty.ensures ∙ c.if-is_empty.false) c.in-Some-first_undriven.signal undriven

pub order_of-requires-clause-pins : goal.order_of-requires-clause-pins
order_of-requires-clause-pins c =
    let N : NetValue = record { model = c.args.model; inputs = c.args.inputs; tables = c.args.tables; outputs = c.args.outputs } in
    let all : first_undriven N ≡ None = rw (← c.len.ensures, ← c.len-2.ensures) (sym c.first_undriven.ensures ∙ c.in_default-first_undriven.is) in
    rw (c.len-count.ensures, c.as_slice.ensures) (driven N all).0

pub overflow_add-result : goal.overflow_add-result
overflow_add-result c =
    let n = c.len-count.result in
    let tables = c.as_slice.result.now in
    let told = MatchResult-at_err (λ order. IsOrderOf n tables order.items) (λ i. first_ungrounded n tables ≡ Some i) c.in-Err.table c.in-Err.is c.in_ok-order.ensures in
    let first = ungrounded n tables c.in-Err.table told in
    omega (arith, first.within, c.len-count.ensures, ap length c.as_slice.ensures, c.requires.few_signals)

pub returns-in-Err-clause-refused : goal.returns-in-Err-clause-refused
returns-in-Err-clause-refused c =
    let N : NetValue = record { model = c.args.model; inputs = c.args.inputs; tables = c.args.tables; outputs = c.args.outputs } in
    let differ = MatchOption-at_none (first_doubled (signal_names N) ≡ None) (λ n. first_doubled (signal_names N) ≡ Some n.now) c.in_default.is c.in_ok-name.ensures in
    let some = sym c.is_empty.ensures ∙ c.if-is_empty.false in
    let all : first_undriven N ≡ None = rw (← c.len.ensures, ← c.len-2.ensures) (sym c.first_undriven.ensures ∙ c.in_default-first_undriven.is) in
    let n = c.len-count.result in
    let tables = c.as_slice.result.now in
    let told = MatchResult-at_err (λ order. IsOrderOf n tables order.items) (λ i. first_ungrounded n tables ≡ Some i) c.in-Err.table c.in-Err.is c.in_ok-order.ensures in
    rw c.len-count.ensures (cycle_told N differ some all c.in-Err.table (rw (← c.len-count.ensures, ← c.as_slice.ensures) told))

pub returns-in-Some-first_limit-clause-refused : goal.returns-in-Some-first_limit-clause-refused
returns-in-Some-first_limit-clause-refused c =
    let N : NetValue = record { model = c.args.model; inputs = c.args.inputs; tables = c.args.tables; outputs = c.args.outputs } in
    let differ = MatchOption-at_none (first_doubled (signal_names N) ≡ None) (λ n. first_doubled (signal_names N) ≡ Some n.now) c.in_default.is c.in_ok-name.ensures in
    let some = sym c.is_empty.ensures ∙ c.if-is_empty.false in
    let all : first_undriven N ≡ None = rw (← c.len.ensures, ← c.len-2.ensures) (sym c.first_undriven.ensures ∙ c.in_default-first_undriven.is) in
    let n = c.len-count.result in
    let tables = c.as_slice.result.now in
    let order = MatchResult-at_ok (λ order. IsOrderOf n tables order.items) (λ i. first_ungrounded n tables ≡ Some i) c.in-Ok.order c.in-Ok.is c.in_ok-order.ensures in
    let grounded : first_ungrounded (input_count N) N.tables ≡ None =
    rw (← c.len-count.ensures, ← c.as_slice.ensures) (acyclic-grounded n tables (order-acyclic n tables c.in-Ok.order.items order)) in
    limit_told N differ some all c.in-Some-first_limit.which grounded (sym (c.first_limit.ensures c.args.model) ∙ c.in-Some-first_limit.is)

pub from_ordered-requires-clause-wired : goal.from_ordered-requires-clause-wired
from_ordered-requires-clause-wired c =
    let N : NetValue = record { model = c.args.model; inputs = c.args.inputs; tables = c.args.tables; outputs = c.args.outputs } in
    let differ = MatchOption-at_none (first_doubled (signal_names N) ≡ None) (λ n. first_doubled (signal_names N) ≡ Some n.now) c.in_default.is c.in_ok-name.ensures in
    let some = sym c.is_empty.ensures ∙ c.if-is_empty.false in
    let all : first_undriven N ≡ None = rw (← c.len.ensures, ← c.len-2.ensures) (sym c.first_undriven.ensures ∙ c.in_default-first_undriven.is) in
    wired N differ some all c.requires.few_signals (sym (c.first_limit.ensures c.args.model) ∙ c.in_default-first_limit.is)

pub returns-clause-accepted : goal.returns-clause-accepted
returns-clause-accepted c =
    let N : NetValue = record { model = c.args.model; inputs = c.args.inputs; tables = c.args.tables; outputs = c.args.outputs } in
    let differ = MatchOption-at_none (first_doubled (signal_names N) ≡ None) (λ n. first_doubled (signal_names N) ≡ Some n.now) c.in_default.is c.in_ok-name.ensures in
    let some = sym c.is_empty.ensures ∙ c.if-is_empty.false in
    let all : first_undriven N ≡ None = rw (← c.len.ensures, ← c.len-2.ensures) (sym c.first_undriven.ensures ∙ c.in_default-first_undriven.is) in
    let n = c.len-count.result in
    let tables = c.as_slice.result.now in
    let order = MatchResult-at_ok (λ order. IsOrderOf n tables order.items) (λ i. first_ungrounded n tables ≡ Some i) c.in-Ok.order c.in-Ok.is c.in_ok-order.ensures in
    let grounded : first_ungrounded (input_count N) N.tables ≡ None =
    rw (← c.len-count.ensures, ← c.as_slice.ensures) (acyclic-grounded n tables (order-acyclic n tables c.in-Ok.order.items order)) in
    none_told N differ some all grounded (sym (c.first_limit.ensures c.args.model) ∙ c.in_default-first_limit.is)
