use Rattle.std.proofs.Common.{◌≡◌, ◌+◌, ◌≤◌, [], length, get_or, refl, ◌∙◌, arith, get_or-set_other}
use Rattle.lane_nets.specs.Words.{word_bit}
use Rattle.lane_nets.proofs.Numbers.{add_more, add_end, add_start}
use Rattle.lane_nets.proofs.wide_numbers.add_shifted.Goals as goal

pub loop-i-init : goal.loop-i-init
loop-i-init c = record {
  sum = λ j b lane low. add_start c.args.total.now c.args.number.now c.args.from j b (get_or c.equal_words-carry.result j 0) (c.equal_words-carry.ensures j lane);
  kept = λ k past. refl;
}

pub loop-i-preserved : goal.loop-i-preserved
loop-i-preserved c =
    let room : c.args.from + c.loop-i.i + 1 ≤ length c.loop-i.total = omega (arith, c.requires, c.loop-i.auto.total, c.loop-i-test.true) in
    record {
      sum = λ j b lane low.
          add_more c.args.total.now c.loop-i.total c.args.number.now c.args.from c.loop-i.i j b (word_bit (get_or c.loop-i.carry j 0) b) (c.loop-i.invariant.sum j b lane low)
          c.add_bits-here.result.sum c.add_bits-here.result.carry (omega (arith, room)) (c.loop-i.invariant.kept (c.args.from + c.loop-i.i) (omega arith))
          (c.add_bits-here.ensures.sum j b lane low) (c.add_bits-here.ensures.carry j b lane low);
      kept = λ k past.
          get_or-set_other c.loop-i.total (c.args.from + c.loop-i.i) k c.add_bits-here.result.sum [] (λ e. omega (arith, e, past))
          ∙ c.loop-i.invariant.kept k (omega (arith, past));
    }

pub returns : goal.returns
returns c = λ j b lane low.
    let at : length c.args.number.now ≡ c.loop-i.i = omega (arith, c.loop-i-test.false) in
    add_end c.args.total.now c.loop-i.total c.args.number.now c.args.from c.loop-i.i j b (word_bit (get_or c.loop-i.carry j 0) b) (c.loop-i.invariant.sum j b lane low) c.loop-i.carry
    (length c.args.number.now) refl at (omega (arith, c.requires, c.loop-i.auto.total)) refl
