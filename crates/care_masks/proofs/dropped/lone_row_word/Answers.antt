use Rattle.std.proofs.Common.{◌≡◌, List, [], get_or, ap, ◌∙◌, rules}
use Rattle.std.proofs.lemmas.List.{get_or_default}
use Rattle.semantics.specs.declared.mark.Mark.{Mark}
use Rattle.chain_semantics.specs.Moves.{row_at}
use Rattle.care_masks.proofs.OverlapBits.{lone_word}
use Rattle.care_masks.proofs.dropped.lone_row_word.Goals as goal

pub returns : goal.returns
returns c =
    λ b low over.
    let rows : c.as_slice-rows.result.now ≡ c.args.table.now.rows = c.as_slice-rows.ensures ∙ c.rows.ensures.value in
    let row : c.as_slice-marks.result.now ≡ row_at c.args.table.now.rows c.args.row =
    c.as_slice-marks.ensures ∙ c.index-rows-row.is ∙ ap (λ (l : List (List Mark)). get_or l c.args.row c.index-rows-row.result) rows
    ∙ get_or_default c.args.table.now.rows c.args.row c.index-rows-row.result [] c.requires.within in
    lone_word c.args.table.now c.args.words.now c.as_slice-pins.result.now c.as_slice-marks.result.now c.args.row b c.row_word.result c.args.overlap (search rules) low
    c.requires.within row (c.as_slice-pins.ensures ∙ c.pins.ensures.value) (c.row_word.ensures b low) over
