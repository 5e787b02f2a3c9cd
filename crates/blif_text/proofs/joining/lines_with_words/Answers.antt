use Rattle.std.proofs.Common.{◌≡◌, ◌==◌, ◌+◌, IfOk, length, sym, ap, subst, ◌∙◌, rules, tests}
use Rattle.std.proofs.lemmas.List.{length_push}
use Rattle.std.proofs.lemmas.Iterator.Consumers.{YieldsList-at}
use Rattle.std.proofs.lemmas.Iterator.Splits.{YieldsList-from_slice_split}
use Rattle.blif_semantics.specs.Lines.{physical_lines, logical_lines}
use Rattle.blif_text.proofs.LineSteps.{lines-next, lines-end}
use Rattle.blif_text.proofs.Turns.{turn_at, end_at}
use Rattle.blif_text.proofs.joining.lines_with_words.Goals as goal

pub loop-line-preserved : goal.loop-line-preserved
loop-line-preserved c =
    let text = c.args.text.now in
    let k = length c.loop-line.yielded in
    let turn =
    turn_at c.loop-line.yielded _ c.loop-line.yielded_by _ _ c.in-Some.line c.in-Some.is c.next.ensures.steps
    (YieldsList-at c.into_iter-line-iterator.ensures.into_iter_gives
    (YieldsList-from_slice_split _ (λ b. b == 10) text c.split-line-items.ensures.rest c.split-line-items.ensures.done c.split-line-items.ensures.closure (λ x b q k. search (rules, tests)))) in
    let size = length_push c.loop-line.yielded c.in-Some.line in
    record {
      counted = ap (λ n. n + 1) (c.loop-line.invariant.counted ∙ sym size);
      same =
          rw size
          (lines-next c.loop-line.lines.items c.add_line.new.lines.items c.loop-line.begun c.in_ok-begun.begun c.loop-line.number k (physical_lines text) c.in-Some.line.now _ turn.0 turn.1
          c.in_ok-begun.ensures c.loop-line.invariant.same);
    }

pub returns : goal.returns
unfolding logical_lines
returns c =
    let text = c.args.text.now in
    let ended =
    end_at c.loop-line.yielded _ c.loop-line.yielded_by _ _ c.in-None.is c.next.ensures.steps
    (YieldsList-at c.into_iter-line-iterator.ensures.into_iter_gives
    (YieldsList-from_slice_split _ (λ b. b == 10) text c.split-line-items.ensures.rest c.split-line-items.ensures.done c.split-line-items.ensures.closure (λ x b q k. search (rules, tests)))) in
    let all = lines-end c.loop-line.lines.items c.loop-line.begun c.loop-line.number (length c.loop-line.yielded) (physical_lines text) _ ended c.loop-line.invariant.same in
    subst (λ found. IfOk c.with_begun.result (λ v. v.items ≡ found)) all c.with_begun.ensures
