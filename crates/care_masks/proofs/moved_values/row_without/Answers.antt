use Rattle.care_masks.proofs.MovedWords.{dashed_word}
use Rattle.care_masks.proofs.moved_values.row_without.Goals as goal

pub returns : goal.returns
returns c =
    λ b low. dashed_word c.args.marks.now c.args.pins.now c.args.words.now c.args.pin b c.row_word.result c.row_word-2.result c.requires.within
    (c.row_word.ensures b low) (c.row_word-2.ensures b low)
