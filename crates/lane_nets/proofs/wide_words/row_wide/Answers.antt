use Rattle.std.proofs.Common.{◌+◌, ◌&&◌, drop, get_or, ap, ◌∙◌}
use Rattle.semantics.specs.Value.{row_matches}
use Rattle.lane_nets.specs.Words.{word_bit, values_at}
use Rattle.lane_nets.specs.Wide.{lane_words}
use Rattle.lane_nets.proofs.WordBits.{ones_bit, row_end}
use Rattle.lane_nets.proofs.WideWords.{wide_row_step}
use Rattle.lane_nets.proofs.wide_words.row_wide.Goals as goal

pub loop-i-init : goal.loop-i-init
loop-i-init c = λ j b lane low.
    ap (λ x. x && row_matches c.args.marks.now c.args.pins.now (values_at (lane_words c.args.wides.now j) b)) (ap (λ w. word_bit w b) (c.equal_words-all.ensures j lane) ∙ ones_bit b low)

pub loop-i-preserved : goal.loop-i-preserved
loop-i-preserved c = λ j b lane low.
    ap (λ w. word_bit w b && row_matches (drop (c.loop-i.i + 1) c.args.marks.now) (drop (c.loop-i.i + 1) c.args.pins.now) (values_at (lane_words c.args.wides.now j) b))
    (c.and_wide-all.ensures j lane)
    ∙ wide_row_step c.args.marks.now c.args.pins.now c.args.wides.now j c.loop-i.i b (get_or c.loop-i.all j 0) (get_or c.mark_wide.result j 0) _ c.loop-i-test.true c.requires.widths
    (c.mark_wide.ensures j b lane low) (c.loop-i.invariant j b lane low)

pub returns : goal.returns
returns c = λ j b lane low.
    row_end c.args.marks.now c.args.pins.now (lane_words c.args.wides.now j) c.loop-i.i b (get_or c.loop-i.all j 0) c.loop-i-test.false (c.loop-i.invariant j b lane low)
