use Rattle.std.proofs.lemmas.Bool.{eqb-true}
use Rattle.std.specs.Simd.Lanes.{chunk}
use Rattle.lane_bits.proofs.Changed.{clear_from_fold, clear_part}
use Rattle.lane_bits.proofs.eights.are_clear.Goals as goal

pub returns : goal.returns
returns c = λ clear k low high.
    clear_part c.args.row.now c.args.at k (clear_from_fold 0 (chunk c.args.at 8 c.args.row.now) (eqb-true _ 0 clear)).1 low high
