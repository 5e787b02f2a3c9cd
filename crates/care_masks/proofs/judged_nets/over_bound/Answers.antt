use Rattle.care_masks.proofs.CareBits.{over_of_used}
use Rattle.care_masks.proofs.judged_nets.over_bound.Goals as goal

pub returns : goal.returns
returns c =
    over_of_used c.args.metric c.args.net.now c.args.bound c.args.words.now c.args.exact.now c.set_output_words.new.outputs c.over_word.result c.args.used c.set_output_words.ensures
    c.over_word.ensures
