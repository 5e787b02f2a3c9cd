use Rattle.lane_nets.proofs.WideWords.{table_outputs}
use Rattle.lane_nets.proofs.wide_blocks.set_table_outputs.Goals as goal

pub returns : goal.returns
returns c =
    table_outputs c.args.net.now c.args.patterns.now.vectors c.args.q c.set_wide_block.new.wides c.set_signals.new.outputs c.see_sound.ensures.sound c.set_wide_block.ensures c.set_signals.ensures
