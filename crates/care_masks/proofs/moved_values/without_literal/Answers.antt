use Rattle.std.proofs.Common.{◌≡◌, List, ◌∙◌, ap, get_or, set, []}
use Rattle.std.proofs.lemmas.List.{get_or_default}
use Rattle.semantics.specs.declared.mark.Mark.{Mark}
use Rattle.semantics.specs.declared.mark.Mark.TheVariants.{Dash}
use Rattle.semantics.specs.Value.{row_matches}
use Rattle.chain_semantics.specs.Moves.{row_at}
use Rattle.lane_nets.specs.Words.{values_at}
use Rattle.care_masks.proofs.MovedWords.{changed_word}
use Rattle.care_masks.proofs.moved_values.without_literal.Goals as goal

pub returns : goal.returns
returns c =
    λ b low.
    let rows : c.as_slice-rows.result.now ≡ c.args.table.now.rows = c.as_slice-rows.ensures ∙ c.rows.ensures.value in
    let row : c.as_slice.result.now ≡ row_at c.args.table.now.rows c.args.row =
    c.as_slice.ensures ∙ c.index-rows-row.is ∙ ap (λ (l : List (List Mark)). get_or l c.args.row c.index-rows-row.result) rows
    ∙ get_or_default c.args.table.now.rows c.args.row c.index-rows-row.result [] c.requires.row in
    changed_word c.args.table.now c.as_slice-rows.result.now c.as_slice-pins.result.now c.args.words.now c.plane.result c.args.row b c.rows_word.result
    c.rows_word-2.result c.row_without-changed.result c.plane_word.result (set (row_at c.args.table.now.rows c.args.row) c.args.pin Dash) rows
    (c.as_slice-pins.ensures ∙ c.pins.ensures.value) c.plane.ensures.value c.requires.row (c.rows_word.ensures b low) (c.rows_word-2.ensures b low)
    (c.row_without-changed.ensures b low ∙ ap (λ (l : List Mark). row_matches (set l c.args.pin Dash) c.as_slice-pins.result.now (values_at c.args.words.now b)) row)
    (c.plane_word.ensures b low)
