use Rattle.std.proofs.Common.{◌∙◌}
use Rattle.care_masks.proofs.MovedWords.{without_word}
use Rattle.care_masks.proofs.moved_values.without_row.Goals as goal

pub returns : goal.returns
returns c =
    λ b low. without_word c.args.table.now c.as_slice-rows.result.now c.as_slice-pins.result.now c.args.words.now c.plane.result c.args.row b c.rows_word.result
    c.rows_word-2.result c.plane_word.result (c.as_slice-rows.ensures ∙ c.rows.ensures.value) (c.as_slice-pins.ensures ∙ c.pins.ensures.value) c.plane.ensures.value
    (c.rows_word.ensures b low) (c.rows_word-2.ensures b low) (c.plane_word.ensures b low)
