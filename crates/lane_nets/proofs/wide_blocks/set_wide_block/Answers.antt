use Rattle.std.proofs.Common.{◌+◌, ◌*◌, arith}
use Rattle.lane_nets.specs.Blocks.{vector_at}
use Rattle.lane_nets.proofs.WideWords.{lane_words-length}
use Rattle.lane_nets.proofs.wide_blocks.set_wide_block.Goals as goal

pub returns : goal.returns
returns c = λ j lane. record {
  width = omega (arith, lane_words-length c.eval_wides.new.wides j, c.eval_wides.auto.wides, c.set_wide_inputs.auto.wides, c.requires.room);
  values = λ b low.
      c.eval_wides.ensures j b (vector_at c.args.patterns.now.vectors (64 * (8 * c.args.q + j) + b)) lane low
      (λ s within. c.set_wide_inputs.ensures j b s lane low (omega (arith, within, c.requires.inputs)));
}
