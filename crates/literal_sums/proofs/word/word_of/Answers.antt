use Rattle.literal_sums.proofs.Taking.{word_whole}
use Rattle.literal_sums.proofs.word.word_of.Goals as goal

pub returns-then-is_nothing-clause-ok : goal.returns-then-is_nothing-clause-ok
returns-then-is_nothing-clause-ok c =
    word_whole c.take_places.new.g c.args.shift c.in_ok-word.word.items c.args.sum.now _ _ c.in_ok-word.ensures.long
    c.in_ok-left.ensures (c.is_nothing.ensures.nothing c.if-is_nothing.true) c.in_ok-word.ensures.ok
