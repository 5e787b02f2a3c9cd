use Rattle.std.proofs.Common.{arith}
use Rattle.care_masks.proofs.Breaking.{broken_bits, broken_nowhere}
use Rattle.care_masks.proofs.differences.known_broken_word.Goals as goal

pub returns-then-exceeds-eq0 : goal.returns-then-exceeds-eq0
returns-then-exceeds-eq0 c = λ b x low values. broken_nowhere c.args.net.now c.args.a_move x c.args.care c.args.exceeds b (omega arith) (omega arith)

pub returns : goal.returns
returns c =
    λ b x low values. broken_bits c.args.net.now c.args.a_move x _ _ _ _ (c.difference_word.ensures.bits b x low values) (c.broken_word.ensures b low)
