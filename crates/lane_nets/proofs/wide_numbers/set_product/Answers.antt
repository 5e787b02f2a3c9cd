use Rattle.std.proofs.Common.{◌≡◌, ◌≤◌, ◌+◌, ◌*◌, ◌^◌, length, ap, ◌∙◌, arith, subst}
use Rattle.lane_nets.specs.Numbers.{wide_bit, wide_number, number_below}
use Rattle.lane_nets.proofs.Numbers.{number_is, product_start, product_more, product_all, rest_more, rest_none}
use Rattle.lane_nets.proofs.wide_numbers.set_product.Goals as goal

pub loop-from-init : goal.loop-from-init
loop-from-init c = record {
  few = omega arith;
  product = λ j b lane low.
      let none : 0 + length c.args.number.now ≡ length c.args.number.now = omega arith in
      product_start c.args.constant (wide_number c.args.number.now j b) _ (ap (number_below (wide_bit c.clear.new.total j b)) none ∙ c.clear.ensures j b lane low);
}

pub loop-from-preserved : goal.loop-from-preserved
loop-from-preserved c = record {
  few = rest_more c.args.constant c.loop-from.rest c.loop-from.from c.loop-from.invariant.few;
  product = λ j b lane low.
      let next : c.loop-from.from + 1 + length c.args.number.now ≡ c.loop-from.from + length c.args.number.now + 1 = omega arith in
      product_more c.args.constant c.loop-from.rest (wide_number c.args.number.now j b) c.loop-from.from _ _
      (ap (number_below (wide_bit c.add_digit.new.total j b)) next ∙ c.add_digit.ensures j b lane low) (c.loop-from.invariant.product j b lane low);
}

pub returns : goal.returns
returns c = λ j b lane low.
    let width : c.loop-from.from ≡ c.args.width = omega (arith, c.loop-from-test.false, c.loop-from.auto.from-end) in
    let few : 2 ^ c.args.width * c.loop-from.rest ≤ c.args.constant = subst (λ n. 2 ^ n * c.loop-from.rest ≤ c.args.constant) width c.loop-from.invariant.few in
    let none = rest_none c.args.constant c.loop-from.rest c.args.width c.requires.constant few in
    let full : length c.loop-from.product ≡ c.loop-from.from + length c.args.number.now = omega (arith, c.loop-from.auto.product, c.requires.room, width) in
    number_is c.loop-from.product j b ∙ ap (number_below (wide_bit c.loop-from.product j b)) full
    ∙ product_all c.args.constant c.loop-from.rest (wide_number c.args.number.now j b) c.loop-from.from _ none (c.loop-from.invariant.product j b lane low)
