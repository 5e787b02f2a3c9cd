use Rattle.std.proofs.lemmas.Result.{IfOk-weaker}
use Rattle.lane_nets.specs.Lanes.{IsOutputBlock}
use Rattle.lane_nets.proofs.BlockErrors.{output_block_is}
use Rattle.lane_nets.proofs.outputs.output_block.Goals as goal

pub returns : goal.returns
returns c =
    IfOk-weaker c.output_row.result _ (IsOutputBlock c.args.net.now c.args.patterns.now.vectors c.args.k)
    (λ row is. output_block_is c.args.net.now c.args.patterns.now.vectors c.args.k c.set_block.new.words row c.set_block.ensures.built.sound c.set_block.ensures.block is)
    c.output_row.ensures
