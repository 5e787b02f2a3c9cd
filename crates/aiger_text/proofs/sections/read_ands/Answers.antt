use Rattle.std.proofs.Common.{◌+◌, Err, ap, sym, ◌∙◌, arith}
use Rattle.std.proofs.lemmas.Option.{same_Some}
use Rattle.aiger_semantics.specs.CircuitLines.{wrong_line, and_of, all_read}
use Rattle.text_words.specs.Slices.{texts}
use Rattle.aiger_text.proofs.SectionSteps.{put_all, rest_read, read-start, read-next, read-none, read-missing, read-end, text_at, texts-count}
use Rattle.aiger_text.proofs.sections.read_ands.Goals as goal

pub loop-i-init : goal.loop-i-init
loop-i-init c =
    let read = and_of c.args.most in
    let lines = texts c.args.lines.now in
    ap (λ xs. put_all xs (rest_read read c.args.first c.args.count lines 0)) c.new-ands.ensures ∙ read-start read c.args.first c.args.count lines

pub loop-i-preserved : goal.loop-i-preserved
loop-i-preserved c =
    let read = and_of c.args.most in
    let lines = texts c.args.lines.now in
    let size = texts-count c.args.lines.now in
    ap (λ xs. put_all xs (rest_read read c.args.first c.args.count lines (c.loop-i.i + 1))) c.in_ok-push.ensures.ok
    ∙ read-next read c.args.first c.args.count lines c.loop-i.i _ c.in-Some.and c.loop-i.ands (all_read read c.args.first c.args.count lines) (omega arith) (omega (arith, size))
    (text_at c.args.lines.now c.loop-i.i _ (omega arith)) (sym c.in_ok-and.ensures ∙ c.in-Some.is) c.loop-i.invariant

pub returns-in_default-clause-err : goal.returns-in_default-clause-err
returns-in_default-clause-err c =
    let read = and_of c.args.most in
    let lines = texts c.args.lines.now in
    let size = texts-count c.args.lines.now in
    λ refusal e.
    read-none read c.args.first c.args.count lines c.loop-i.i _ c.loop-i.ands (all_read read c.args.first c.args.count lines) (omega arith) (omega (arith, size))
    (text_at c.args.lines.now c.loop-i.i _ (omega arith)) (sym c.in_ok-and.ensures ∙ c.in_default.is) c.loop-i.invariant
    ∙ ap (λ n. Err (wrong_line (c.args.first + n))) (sym c.from-in_default.ensures) ∙ ap Err (same_Some _ _ e)

pub returns-then-at-lines-clause-err : goal.returns-then-at-lines-clause-err
returns-then-at-lines-clause-err c =
    let read = and_of c.args.most in
    let lines = texts c.args.lines.now in
    let size = texts-count c.args.lines.now in
    λ refusal e.
    read-missing read c.args.first c.args.count lines c.loop-i.i c.loop-i.ands (all_read read c.args.first c.args.count lines) (omega arith) (omega (arith, size, c.if-at-lines.true))
    c.loop-i.invariant
    ∙ ap (λ n. Err (wrong_line (c.args.first + n))) (sym c.from.ensures) ∙ ap Err (same_Some _ _ e)

pub returns-clause-ok : goal.returns-clause-ok
returns-clause-ok c =
    read-end (and_of c.args.most) c.args.first c.args.count (texts c.args.lines.now) c.loop-i.i c.loop-i.ands (all_read (and_of c.args.most) c.args.first c.args.count (texts c.args.lines.now))
    (omega (arith, c.loop-i-test.false)) c.loop-i.invariant
