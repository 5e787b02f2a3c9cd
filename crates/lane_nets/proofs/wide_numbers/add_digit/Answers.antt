use Rattle.std.proofs.Common.{◌+◌, ◌^◌, length, ◌∙◌, arith}
use Rattle.lane_nets.specs.Numbers.{wide_bit, wide_number, number_below}
use Rattle.lane_nets.proofs.Numbers.{below_cleared, digit_one, digit_none}
use Rattle.lane_nets.proofs.wide_numbers.add_digit.Goals as goal

pub returns-then-one : goal.returns-then-one
returns-then-one c = λ j b lane low.
    c.add_shifted.ensures j b lane low
    ∙ digit_one c.args.one (number_below (wide_bit c.args.total.now j b) (c.args.from + length c.args.number.now)) (2 ^ c.args.from) (wide_number c.args.number.now j b) c.if-one.true

pub returns-else-one : goal.returns-else-one
returns-else-one c = λ j b lane low.
    below_cleared c.args.total.now (c.args.from + length c.args.number.now) j b c.equal_words.result (omega (arith, c.requires)) (c.equal_words.ensures j lane)
    ∙ digit_none c.args.one (number_below (wide_bit c.args.total.now j b) (c.args.from + length c.args.number.now)) (2 ^ c.args.from) (wide_number c.args.number.now j b) c.if-one.false
