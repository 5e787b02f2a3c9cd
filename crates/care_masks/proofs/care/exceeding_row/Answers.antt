use Rattle.std.proofs.Common.{drop, length, arith}
use Rattle.chain_semantics.specs.Care.{Exceeds}
use Rattle.lane_nets.specs.Blocks.{IsRowWhere}
use Rattle.care_masks.proofs.CareBits.{row_written}
use Rattle.care_masks.proofs.care.exceeding_row.Goals as goal

pub returns : goal.returns
returns c =
    λ exact vectors long outputs blocks. row_written (IsRowWhere vectors (Exceeds c.args.limit.now.metric exact c.args.limit.now.level c.args.net.now)) c.of.result
    c.set_exceeding_row.new.row (drop (length c.set_exceeding_row.new.row) c.in_ok-row.row.items) c.in_ok-row.row.len c.of.ensures
    (omega (arith, c.set_exceeding_row.auto.row, c.deref_mut.ensures.len, c.in_ok-row.ensures.len)) (c.set_exceeding_row.ensures exact vectors long outputs blocks)
