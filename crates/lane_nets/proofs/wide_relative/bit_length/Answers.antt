use Rattle.std.proofs.Common.{◌≡◌, ◌-◌, ◌^◌, ◌<◌, subst, arith, rules}
use Rattle.std.specs.Int.Count.{count_leading_zeros}
use Rattle.std.proofs.lemmas.Nat.{leading_length}
use Rattle.lane_nets.proofs.wide_relative.bit_length.Goals as goal

pub returns-clause-fits : goal.returns-clause-fits
returns-clause-fits c =
    let length = leading_length 32 c.args.number (search rules) in
    let is : length.0 ≡ 32 - count_leading_zeros 32 c.args.number = omega (arith, length.1) in
    subst (λ n. c.args.number < 2 ^ n) is length.2
