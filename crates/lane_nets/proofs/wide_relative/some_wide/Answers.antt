use Rattle.std.proofs.Common.{[], length, get_or, ap, ◌∙◌, ◌<◌, ◌↔◌, ◌≡◌, IsTrue, subst, arith, sym}
use Rattle.lane_nets.specs.Words.{word_bit}
use Rattle.lane_nets.specs.Numbers.{wide_bit, number_below}
use Rattle.lane_nets.proofs.Numbers.{below_more, number_is}
use Rattle.lane_nets.proofs.RelativeErrors.{some_more, some_none}
use Rattle.lane_nets.proofs.wide_relative.some_wide.Goals as goal

pub loop-wide-init : goal.loop-wide-init
loop-wide-init c = λ j b lane low. some_none (get_or c.equal_words-some.result j 0) b (c.equal_words-some.ensures j lane)

pub loop-wide-preserved : goal.loop-wide-preserved
loop-wide-preserved c = λ j b lane low.
    let i = c.loop-wide.wide-index in
    rw (c.or_wide-some.ensures j lane, below_more (wide_bit c.args.number.now j b) i)
    (some_more (number_below (wide_bit c.args.number.now j b) i) i (get_or c.loop-wide.some j 0) (get_or (get_or c.args.number.now i []) j 0) b (c.loop-wide.invariant j b lane low))

pub returns : goal.returns
returns c = λ j b lane low.
    let all : c.loop-wide.wide-index ≡ length c.args.number.now = omega (arith, c.loop-wide-test.false) in
    let whole = ap (number_below (wide_bit c.args.number.now j b)) all ∙ sym (number_is c.args.number.now j b) in
    subst (λ n. IsTrue (word_bit (get_or c.loop-wide.some j 0) b) ↔ (0 < n)) whole (c.loop-wide.invariant j b lane low)
