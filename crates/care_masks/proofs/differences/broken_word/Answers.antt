use Rattle.care_masks.proofs.Breaking.{chosen_bit}
use Rattle.care_masks.proofs.differences.broken_word.Goals as goal

pub returns : goal.returns
returns c = λ b low. chosen_bit c.args.differs c.args.care c.args.exceeds b c.ranges.differs.fits low
