use Rattle.std.proofs.Common.{◌-◌, ◌+◌, ◌*◌, length, ap, sym, ◌∙◌, arith}
use Rattle.std.specs.Int.{from_bool}
use Rattle.std.proofs.lemmas.List.{drop_all}
use Rattle.semantics.specs.Error.{number_of}
use Rattle.lane_nets.specs.Lanes.{lane_at}
use Rattle.lane_nets.proofs.Counting.{lane_value_more, lane_value_fits, bit_at_most}
use Rattle.lane_nets.proofs.lanes.lane_value.Goals as goal

pub loop-i-init : goal.loop-i-init
loop-i-init c = sym (ap (λ l. number_of (lane_at l c.args.b)) (drop_all (length c.args.words.now - 0) c.args.words.now (omega arith)))

pub overflow_mul-number : goal.overflow_mul-number
overflow_mul-number c =
    let below = lane_value_fits c.args.words.now c.loop-i.i c.args.b c.loop-i.number c.requires.few c.loop-i-test.true c.loop-i.invariant in
    omega arith

pub overflow_add-number : goal.overflow_add-number
overflow_add-number c =
    let below = lane_value_fits c.args.words.now c.loop-i.i c.args.b c.loop-i.number c.requires.few c.loop-i-test.true c.loop-i.invariant in
    omega (arith, c.from.ensures, bit_at_most c.word_bit.result)

pub loop-i-preserved : goal.loop-i-preserved
loop-i-preserved c =
    ap (λ n. c.loop-i.number * 2 + n) (c.from.ensures ∙ ap from_bool c.word_bit.ensures)
    ∙ lane_value_more c.args.words.now c.loop-i.i c.args.b c.loop-i.number c.loop-i-test.true c.loop-i.invariant
