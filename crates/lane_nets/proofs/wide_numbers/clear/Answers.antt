use Rattle.std.proofs.Common.{◌≡◌, ◌∙◌, ap, arith}
use Rattle.lane_nets.specs.Numbers.{wide_bit, number_below}
use Rattle.lane_nets.proofs.Numbers.{below_cleared}
use Rattle.lane_nets.proofs.wide_numbers.clear.Goals as goal

pub loop-i-preserved : goal.loop-i-preserved
loop-i-preserved c = λ j b lane low.
    below_cleared c.loop-i.total c.loop-i.i j b c.equal_words.result (omega (arith, c.requires, c.loop-i.auto.total, c.loop-i-test.true)) (c.equal_words.ensures j lane)
    ∙ c.loop-i.invariant j b lane low

pub returns : goal.returns
returns c = λ j b lane low.
    let all : c.args.count ≡ c.loop-i.i = omega (arith, c.loop-i-test.false, c.loop-i.auto.i-end) in
    ap (number_below (wide_bit c.loop-i.total j b)) all ∙ c.loop-i.invariant j b lane low
