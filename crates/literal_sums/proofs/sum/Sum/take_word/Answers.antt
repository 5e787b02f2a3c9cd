use Rattle.std.proofs.lemmas.Result.{IfOk-weaker}
use Rattle.literal_sums.proofs.Counting.{word_back}
use Rattle.literal_sums.proofs.sum.Sum.take_word.Goals as goal

pub returns : goal.returns
returns c = IfOk-weaker c.add_word.result _ _ (λ u more. word_back c.args.word.now c.args.weight _ _ _ c.negative.ensures more) c.add_word.ensures
