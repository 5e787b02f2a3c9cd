use Rattle.std.proofs.Common.{sym}
use Rattle.blif_text.specs.Places.{table_of}
use Rattle.hier_blif.proofs.Judged.{wrong-told}
use Rattle.hier_blif.proofs.judging.judge.Goals as goal

pub returns-in-Some-clause-err : goal.returns-in-Some-clause-err
returns-in-Some-clause-err c =
    wrong-told _ c.loop-line.ended (table_of c.loop-line.table) c.args.lines.now c.loop-line.line-index c.line-item.result _ _ _ _ c.loop-line-test.true (sym c.line-item.is) c.words-words.ensures
    c.number.ensures (sym c.in-Some.ensures) c.loop-line.invariant
    (c.line_refusal.ensures _ c.refusal.ensures.tells)
