use Rattle.std.proofs.Common.{[], ap, sym, ◌∙◌, below_more, arith}
use Rattle.std.proofs.lemmas.List.{get_or-map, take-map}
use Rattle.aiger_semantics.specs.CircuitLines.{begins_comment}
use Rattle.text_words.specs.Slices.{texts}
use Rattle.aiger_text.proofs.SectionSteps.{texts-count}
use Rattle.aiger_text.proofs.SymbolSteps.{comment-at, no-comment}
use Rattle.aiger_text.proofs.symbols.before_comment.Goals as goal

pub returns-then-begins_comment : goal.returns-then-begins_comment
returns-then-begins_comment c =
    let lines = c.args.lines.now in
    let size = texts-count lines in
    sym (take-map (λ s. s.now) c.loop-i.i lines)
    ∙ sym
    (comment-at (texts lines) c.loop-i.i [] (omega (arith, size, c.loop-i-test.true)) c.loop-i.invariant
    (ap begins_comment (get_or-map (λ s. s.now) lines c.loop-i.i _ [] c.loop-i-test.true) ∙ sym c.begins_comment.ensures ∙ c.if-begins_comment.true))

pub loop-i-preserved : goal.loop-i-preserved
loop-i-preserved c =
    below_more _ _ c.loop-i.invariant
    (ap begins_comment (get_or-map (λ s. s.now) c.args.lines.now c.loop-i.i _ [] c.loop-i-test.true) ∙ sym c.begins_comment.ensures ∙ c.if-begins_comment.false)

pub returns : goal.returns
returns c =
    let size = texts-count c.args.lines.now in
    sym (no-comment (texts c.args.lines.now) c.loop-i.i [] (omega (arith, size, c.loop-i-test.false, c.loop-i.auto.i-end)) c.loop-i.invariant)
