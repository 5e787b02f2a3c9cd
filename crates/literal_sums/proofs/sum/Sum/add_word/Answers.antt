use Rattle.literal_sums.proofs.Counting.{word_step, word_done}
use Rattle.literal_sums.proofs.sum.Sum.add_word.Goals as goal

pub loop-literal-preserved : goal.loop-literal-preserved
loop-literal-preserved c = word_step _ _ _ _ _ _ _ _ c.loop-literal-test.true c.doubled-each.ensures c.loop-literal.invariant c.in_ok-add.ensures

pub returns : goal.returns
returns c = word_done _ _ _ _ _ _ c.loop-literal-test.false c.loop-literal.invariant
