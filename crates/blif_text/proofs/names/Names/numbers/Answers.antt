use Rattle.std.proofs.Common.{sym, ◌∙◌}
use Rattle.blif_text.proofs.Places.{named_at, signals-next, unknown-next, unknown-here, unknown_told}
use Rattle.blif_text.proofs.names.Names.numbers.Goals as goal

pub known-requires : goal.known-requires
known-requires c = named_at c.args.words.now c.loop-word.word-index _ c.loop-word-test.true c.requires

pub returns-in_default-clause-err : goal.returns-in_default-clause-err
returns-in_default-clause-err c =
    unknown_told _ _ _
    (unknown-here c.args.self.now c.args.words.now c.loop-word.word-index _ _ c.loop-word-test.true (sym c.in_default.is ∙ c.number.ensures) c.loop-word.invariant.same)
    c.in_ok-name.ensures

pub loop-word-preserved : goal.loop-word-preserved
loop-word-preserved c = record {
  all = c.in_ok-push.ensures.ok ∙ signals-next c.args.self.now c.args.words.now c.loop-word.word-index _ c.loop-word.signals c.in-Some.signal c.loop-word-test.true c.in-Some.ensures
      c.loop-word.invariant.all;
  same = unknown-next c.args.self.now c.args.words.now c.loop-word.word-index _ c.in-Some.signal _ c.loop-word-test.true c.in-Some.ensures c.loop-word.invariant.same;
}
