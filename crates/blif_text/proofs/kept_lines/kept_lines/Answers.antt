use Rattle.std.proofs.Common.{◌==◌, ◌+◌, Result, length, ap, sym, subst, ◌∙◌, rules, tests}
use Rattle.std.proofs.lemmas.List.{length_push}
use Rattle.std.proofs.lemmas.Iterator.Consumers.{YieldsList-at}
use Rattle.std.proofs.lemmas.Iterator.Splits.{YieldsList-from_slice_split}
use Rattle.std.proofs.lemmas.Result.{err_from_is_err_and}
use Rattle.blif_semantics.specs.Lines.{physical_lines, logical_lines}
use Rattle.semantics.specs.Net.{NetValue}
use Rattle.blif_semantics.specs.Reading.{Refusal}
use Rattle.blif_text.specs.KeptLines.{Outcome, unless_wrong}
use Rattle.blif_text.specs.Refusals.{Tells}
use Rattle.blif_text.proofs.Numbered.{passed_on}
use Rattle.blif_text.proofs.KeptSteps.{outcome-next, outcome-told, outcome-end}
use Rattle.blif_text.proofs.Turns.{turn_at, end_at}
use Rattle.blif_text.proofs.kept_lines.kept_lines.Goals as goal

pub returns-in_err-begun-clause-err : goal.returns-in_err-begun-clause-err
unfolding logical_lines
returns-in_err-begun-clause-err c =
    let text = c.args.text.now in
    let turn =
    turn_at c.loop-line.yielded _ c.loop-line.yielded_by _ _ c.in-Some.line c.in-Some.is c.next.ensures.steps
    (YieldsList-at c.into_iter-line-iterator.ensures.into_iter_gives
    (YieldsList-from_slice_split _ (λ b. b == 10) text c.split-line-items.ensures.rest c.split-line-items.ensures.done c.split-line-items.ensures.closure (λ x b q k. search (rules, tests)))) in
    passed_on _ _ _ (err_from_is_err_and c.from_residual.result c.from_residual.ensures.1)
    (outcome-told c.loop-line.kept c.loop-line.begun c.loop-line.number (length c.loop-line.yielded) (physical_lines text) c.in-Some.line.now _ _ turn.0 turn.1 c.in_err-begun.ensures.err
    c.loop-line.invariant.same)

pub loop-line-preserved : goal.loop-line-preserved
loop-line-preserved c =
    let text = c.args.text.now in
    let turn =
    turn_at c.loop-line.yielded _ c.loop-line.yielded_by _ _ c.in-Some.line c.in-Some.is c.next.ensures.steps
    (YieldsList-at c.into_iter-line-iterator.ensures.into_iter_gives
    (YieldsList-from_slice_split _ (λ b. b == 10) text c.split-line-items.ensures.rest c.split-line-items.ensures.done c.split-line-items.ensures.closure (λ x b q k. search (rules, tests)))) in
    let size = length_push c.loop-line.yielded c.in-Some.line in
    record {
      counted = ap (λ n. n + 1) (c.loop-line.invariant.counted ∙ sym size);
      same =
          rw size
          (outcome-next c.loop-line.kept c.add_physical.new.self c.loop-line.begun c.in_ok-begun.begun c.loop-line.number (length c.loop-line.yielded) (physical_lines text) c.in-Some.line.now _
          turn.0 turn.1 c.in_ok-begun.ensures.ok c.loop-line.invariant.same);
    }

pub returns-in_err-end-clause-err : goal.returns-in_err-end-clause-err
unfolding logical_lines
returns-in_err-end-clause-err c =
    let text = c.args.text.now in
    let ended =
    end_at c.loop-line.yielded _ c.loop-line.yielded_by _ _ c.in-None.is c.next.ensures.steps
    (YieldsList-at c.into_iter-line-iterator.ensures.into_iter_gives
    (YieldsList-from_slice_split _ (λ b. b == 10) text c.split-line-items.ensures.rest c.split-line-items.ensures.done c.split-line-items.ensures.closure (λ x b q k. search (rules, tests)))) in
    let all = outcome-end c.loop-line.kept c.loop-line.begun c.loop-line.number (length c.loop-line.yielded) (physical_lines text) _ ended c.loop-line.invariant.same in
    passed_on _ _ _ (err_from_is_err_and c.from_residual-in_err-end.result c.from_residual-in_err-end.ensures.1)
    (subst (λ (o : Outcome). (answer : Result NetValue Refusal) → Tells c.in_err-end.field-0.0 (unless_wrong o.wrong answer)) all c.in_err-end.ensures.err)

pub returns-clause-ok : goal.returns-clause-ok
unfolding logical_lines
returns-clause-ok c =
    let text = c.args.text.now in
    let ended =
    end_at c.loop-line.yielded _ c.loop-line.yielded_by _ _ c.in-None.is c.next.ensures.steps
    (YieldsList-at c.into_iter-line-iterator.ensures.into_iter_gives
    (YieldsList-from_slice_split _ (λ b. b == 10) text c.split-line-items.ensures.rest c.split-line-items.ensures.done c.split-line-items.ensures.closure (λ x b q k. search (rules, tests)))) in
    c.in_ok-end.ensures.ok ∙ outcome-end c.loop-line.kept c.loop-line.begun c.loop-line.number (length c.loop-line.yielded) (physical_lines text) _ ended c.loop-line.invariant.same
