use Rattle.std.proofs.Common.{◌≡◌, ◌==◌, None, ap, length, sym, ◌∙◌}
use Rattle.std.proofs.lemmas.Result.{err_from_is_err_and}
use Rattle.aiger_semantics.specs.ReadNet.{variables}
use Rattle.aiger_semantics.specs.Reading.{first_repeated}
use Rattle.aiger_text.proofs.NetSteps.{passed_on, repeated_told, undefined_told, loop_told}
use Rattle.aiger_text.proofs.circuit_net.net_reading.Goals as goal

pub returns-in_err-variables-clause-err : goal.returns-in_err-variables-clause-err
returns-in_err-variables-clause-err c =
    passed_on _ _ _ (err_from_is_err_and c.from_residual-in_err-variables.result c.from_residual-in_err-variables.ensures.1)
    (repeated_told c.args.circuit.now c.deref.result.now _ (c.deref.ensures.value ∙ c.in_ok-defined.ensures.value) c.in_err-variables.ensures.err)

pub returns-in_err-know_all-clause-err : goal.returns-in_err-know_all-clause-err
returns-in_err-know_all-clause-err c =
    let differ : first_repeated (variables c.args.circuit.now) ≡ None = ap first_repeated (sym (c.deref.ensures.value ∙ c.in_ok-defined.ensures.value)) ∙ c.in_ok-variables.ensures.differ in
    passed_on _ _ _ (err_from_is_err_and c.from_residual-in_err-know_all.result c.from_residual-in_err-know_all.ensures.1)
    (undefined_told c.args.circuit.now differ _ c.in_err-know_all.ensures.err)

pub returns-in_err-find_no_loop-clause-err : goal.returns-in_err-find_no_loop-clause-err
returns-in_err-find_no_loop-clause-err c =
    let differ : first_repeated (variables c.args.circuit.now) ≡ None = ap first_repeated (sym (c.deref.ensures.value ∙ c.in_ok-defined.ensures.value)) ∙ c.in_ok-variables.ensures.differ in
    let some = ap (λ ls. length ls == 0) (sym c.outputs.ensures) ∙ sym c.is_empty.ensures ∙ c.if-is_empty.false in
    passed_on _ _ _ (err_from_is_err_and c.from_residual-in_err-find_no_loop.result c.from_residual-in_err-find_no_loop.ensures.1)
    (loop_told c.args.circuit.now differ c.in_ok-know_all.ensures.ok some _ c.in_err-find_no_loop.ensures.err)
