use Rattle.std.proofs.Common.{◌∷◌, Err, ap, sym, ◌∙◌, arith}
use Rattle.std.proofs.lemmas.Option.{same_Some}
use Rattle.text_words.specs.Slices.{texts}
use Rattle.aiger_text.proofs.SectionSteps.{text_at, texts-count}
use Rattle.aiger_text.proofs.SymbolSteps.{symbols-next, symbols-none, symbols-again}
use Rattle.aiger_text.proofs.symbols.read_symbols.Goals as goal

pub returns-in_default-clause-err : goal.returns-in_default-clause-err
returns-in_default-clause-err c =
    let lines = c.args.lines.now in
    let size = texts-count lines in
    λ refusal e.
    symbols-none c.args.header.now c.args.first (texts lines) c.loop-i.i _ c.loop-i.invariant.0 _ (omega (arith, size, c.loop-i-test.true)) (text_at lines c.loop-i.i _ c.loop-i-test.true)
    (sym c.symbol_of.ensures ∙ c.in_default.is) c.loop-i.invariant.1.1
    ∙ ap Err (same_Some _ _ e)

pub returns-then-not-add-clause-err : goal.returns-then-not-add-clause-err
returns-then-not-add-clause-err c =
    let lines = c.args.lines.now in
    let size = texts-count lines in
    λ refusal e.
    symbols-again c.args.header.now c.args.first (texts lines) c.loop-i.i _ c.in-Some.symbol c.loop-i.invariant.0 _ (omega (arith, size, c.loop-i-test.true))
    (text_at lines c.loop-i.i _ c.loop-i-test.true)
    (sym c.symbol_of.ensures ∙ c.in-Some.is) (sym (c.add.ensures.new c.loop-i.invariant.0 c.loop-i.invariant.1.0) ∙ c.if-not-add.true) c.loop-i.invariant.1.1
    ∙ ap Err (same_Some _ _ e)

pub loop-i-preserved : goal.loop-i-preserved
loop-i-preserved c =
    let lines = c.args.lines.now in
    let size = texts-count lines in (
      c.in-Some.symbol ∷ c.loop-i.invariant.0,
      (
        c.add.ensures.added c.if-not-add.false c.loop-i.invariant.0 c.loop-i.invariant.1.0,
        symbols-next c.args.header.now c.args.first (texts lines) c.loop-i.i _ c.in-Some.symbol c.loop-i.invariant.0 _ (omega (arith, size, c.loop-i-test.true))
            (text_at lines c.loop-i.i _ c.loop-i-test.true)
            (sym c.symbol_of.ensures ∙ c.in-Some.is) (sym (c.add.ensures.new c.loop-i.invariant.0 c.loop-i.invariant.1.0) ∙ c.if-not-add.false) c.loop-i.invariant.1.1,
      ),
    )
