use Rattle.std.proofs.Common.{◌≡◌, ◌^◌, ◌-◌, ◌*◌, ◌%◌, ◌<◌, arith}
use Rattle.std.proofs.Math.Pow.{pow-lt}
use Rattle.care_masks.proofs.Breaking.{used_low, used_all}
use Rattle.care_masks.proofs.differences.used_word.Goals as goal

pub returns-then-left-lt64 : goal.returns-then-left-lt64
returns-then-left-lt64 c =
    let fits : 2 ^ (c.args.count - 64 * c.args.k) < 2 ^ 64 = pow-lt c.if-left-lt64.true in
    let one : 1 * 2 ^ (c.args.count - 64 * c.args.k) % 2 ^ 64 ≡ 2 ^ (c.args.count - 64 * c.args.k) = omega arith in
    λ b low. rw one (used_low c.args.count c.args.k b (c.args.count - 64 * c.args.k) low (omega arith) (omega (arith, c.requires)))

pub returns-else-left-lt64 : goal.returns-else-left-lt64
returns-else-left-lt64 c = λ b low. used_all c.args.count c.args.k b low c.if-left-lt64.false
