use Rattle.std.proofs.Common.{arith}
use Rattle.bdd_levels.proofs.Joining.{exceeds_more, exceeds_all}
use Rattle.bdd_levels.proofs.words.excess.Goals as goal

pub loop-word-preserved : goal.loop-word-preserved
loop-word-preserved c =
    exceeds_more c.args.metric c.args.outputs c.args.k c.loop-word.net c.excess_at.new.net c.either.new.net c.loop-word.over c.in_ok-here.here c.in_ok-over.over c.loop-word.word c.loop-word.invariant
    c.in_ok-here.ensures.begins c.in_ok-here.ensures.says c.in_ok-over.ensures.begins c.in_ok-over.ensures.within c.in_ok-over.ensures.value

pub returns-clause-says : goal.returns-clause-says
returns-clause-says c =
    exceeds_all c.args.metric c.args.outputs c.args.k c.loop-word.net c.loop-word.over c.loop-word.word c.loop-word.invariant
    (omega (arith, c.loop-word-test.false, c.loop-word.auto.word-end, c.word_count-word-end.ensures))
