use Rattle.std.proofs.Common.{◌==◌, ◌+◌, length, drop, ap, sym, ◌∙◌, rules, tests}
use Rattle.std.proofs.lemmas.List.{length_push}
use Rattle.std.proofs.lemmas.Iterator.Consumers.{YieldsList-at}
use Rattle.std.proofs.lemmas.Iterator.Splits.{YieldsList-from_slice_split}
use Rattle.aiger_semantics.specs.TextLines.{pieces, all_numbers}
use Rattle.aiger_text.proofs.Turns.{turn_at, end_at}
use Rattle.aiger_text.proofs.NumberSteps.{behind, behind-none, numbers-next, numbers-none, numbers-end}
use Rattle.aiger_text.proofs.numbers.line_numbers.Goals as goal

pub loop-word-init : goal.loop-word-init
loop-word-init c = ap (λ v. behind v (all_numbers c.args.most (pieces c.args.line.now))) c.clear.ensures.items ∙ behind-none (all_numbers c.args.most (pieces c.args.line.now))

pub loop-word-preserved : goal.loop-word-preserved
loop-word-preserved c =
    let line = c.args.line.now in
    let k = length c.loop-word.yielded in
    let turn =
    turn_at c.loop-word.yielded _ c.loop-word.yielded_by _ _ c.in-Some.word c.in-Some.is c.next.ensures.steps
    (YieldsList-at c.into_iter-word-iterator.ensures.into_iter_gives
    (YieldsList-from_slice_split _ (λ b. b == 32) line c.split-word-items.ensures.rest c.split-word-items.ensures.done c.split-word-items.ensures.closure (λ x b q k. search (rules, tests)))) in
    let size = length_push c.loop-word.yielded c.in-Some.word in
    rw size
    (ap (λ v. behind v (all_numbers c.args.most (drop (k + 1) (pieces line)))) c.in_ok-push.ensures.items
    ∙ numbers-next c.args.most (pieces line) k c.in-Some.word.now c.in-Some-number_to.number c.loop-word.numbers.items (all_numbers c.args.most (pieces line)) turn.0 turn.1
    (sym c.number_to.ensures ∙ c.in-Some-number_to.is) c.loop-word.invariant)

pub returns-in_default : goal.returns-in_default
returns-in_default c =
    let line = c.args.line.now in
    let turn =
    turn_at c.loop-word.yielded _ c.loop-word.yielded_by _ _ c.in-Some.word c.in-Some.is c.next.ensures.steps
    (YieldsList-at c.into_iter-word-iterator.ensures.into_iter_gives
    (YieldsList-from_slice_split _ (λ b. b == 32) line c.split-word-items.ensures.rest c.split-word-items.ensures.done c.split-word-items.ensures.closure (λ x b q k. search (rules, tests)))) in
    numbers-none c.args.most (pieces line) (length c.loop-word.yielded) c.in-Some.word.now c.loop-word.numbers.items (all_numbers c.args.most (pieces line)) turn.0 turn.1
    (sym c.number_to.ensures ∙ c.in_default.is) c.loop-word.invariant

pub returns : goal.returns
returns c =
    let line = c.args.line.now in
    let ended =
    end_at c.loop-word.yielded _ c.loop-word.yielded_by _ _ c.in-None.is c.next.ensures.steps
    (YieldsList-at c.into_iter-word-iterator.ensures.into_iter_gives
    (YieldsList-from_slice_split _ (λ b. b == 32) line c.split-word-items.ensures.rest c.split-word-items.ensures.done c.split-word-items.ensures.closure (λ x b q k. search (rules, tests)))) in
    numbers-end c.args.most (pieces line) (length c.loop-word.yielded) c.loop-word.numbers.items (all_numbers c.args.most (pieces line)) ended c.loop-word.invariant
