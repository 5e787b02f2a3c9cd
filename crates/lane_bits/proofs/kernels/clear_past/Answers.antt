use Rattle.std.proofs.Common.{◌≡◌, ℕ, ◌*◌, ◌-◌, ◌^◌, ◌%◌, ◌<◌, length, get_or, ap, arith}
use Rattle.std.specs.Prelude.{bit_and}
use Rattle.std.proofs.lemmas.Nat.{one_shl}
use Rattle.lane_bits.proofs.LastWord.{masked_same, masked_clear, whole_clear}
use Rattle.lane_bits.proofs.kernels.clear_past.Goals as goal

-- the mask of the bits that are used
mask_is : (word count : ℕ) → bit_and word (1 * 2 ^ (count % 64) % 2 ^ 64 - 1) ≡ bit_and word (2 ^ (count % 64) - 1)
mask_is word count = let low : count % 64 < 64 = omega arith in ap (λ m. bit_and word (m - 1)) (one_shl (count % 64) 64 low)

pub returns-then-used-ne0-clause-same : goal.returns-then-used-ne0-clause-same
returns-then-used-ne0-clause-same c =
    masked_same c.args.row.now c.args.count _ c.requires c.if-used-ne0.true (mask_is (get_or c.args.row.now (length c.args.row.now - 1) 0) c.args.count)

pub returns-then-used-ne0-clause-clear : goal.returns-then-used-ne0-clause-clear
returns-then-used-ne0-clause-clear c =
    masked_clear c.args.row.now c.args.count _ c.requires c.if-used-ne0.true (mask_is (get_or c.args.row.now (length c.args.row.now - 1) 0) c.args.count)

pub returns-else-used-ne0-clause-clear : goal.returns-else-used-ne0-clause-clear
returns-else-used-ne0-clause-clear c = whole_clear c.args.row.now c.args.count c.requires c.if-used-ne0.false
