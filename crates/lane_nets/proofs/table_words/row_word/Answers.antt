use Rattle.std.proofs.Common.{◌&&◌, ap}
use Rattle.semantics.specs.Value.{row_matches}
use Rattle.lane_nets.specs.Words.{values_at}
use Rattle.lane_nets.proofs.WordBits.{ones_bit, row_step, row_end}
use Rattle.lane_nets.proofs.table_words.row_word.Goals as goal

pub loop-i-init : goal.loop-i-init
loop-i-init c = λ b low. ap (λ x. x && row_matches c.args.marks.now c.args.pins.now (values_at c.args.words.now b)) (ones_bit b low)

pub loop-i-preserved : goal.loop-i-preserved
loop-i-preserved c =
    λ b low. row_step c.args.marks.now c.args.pins.now c.args.words.now c.loop-i.i b c.loop-i.all c.mark_word-all.result _ c.loop-i-test.true c.requires.widths
    (c.mark_word-all.ensures b low) (c.loop-i.invariant b low)

pub returns : goal.returns
returns c = λ b low. row_end c.args.marks.now c.args.pins.now c.args.words.now c.loop-i.i b c.loop-i.all c.loop-i-test.false (c.loop-i.invariant b low)
