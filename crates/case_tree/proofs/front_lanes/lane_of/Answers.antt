use Rattle.std.proofs.Common.{◌-◌, ◌+◌, ◌*◌, length, get_or, false, ap, sym, ◌∙◌, arith}
use Rattle.std.proofs.lemmas.List.{drop_all}
use Rattle.semantics.specs.Error.{number_of}
use Rattle.lane_nets.proofs.Counting.{bit_at_most}
use Rattle.case_tree.proofs.Behind.{number_more, number_low}
use Rattle.case_tree.proofs.front_lanes.lane_of.Goals as goal

pub loop-i-init : goal.loop-i-init
loop-i-init c = sym (ap number_of (drop_all (length c.args.bits.now - 0) c.args.bits.now (omega arith)))

pub overflow_mul-number : goal.overflow_mul-number
overflow_mul-number c = omega (arith, number_low c.args.bits.now c.loop-i.i c.loop-i.number c.requires c.loop-i.invariant)

pub overflow_add-number : goal.overflow_add-number
overflow_add-number c = omega (
  arith,
  number_low c.args.bits.now c.loop-i.i c.loop-i.number c.requires c.loop-i.invariant,
  c.from.ensures,
  bit_at_most (get_or c.args.bits.now (length c.args.bits.now - 1 - c.loop-i.i) false),
)

pub loop-i-preserved : goal.loop-i-preserved
loop-i-preserved c = ap (λ n. c.loop-i.number * 2 + n) c.from.ensures ∙ number_more c.args.bits.now c.loop-i.i c.loop-i.number c.loop-i-test.true c.loop-i.invariant

pub returns-clause-low : goal.returns-clause-low
returns-clause-low c = number_low c.args.bits.now c.loop-i.i c.loop-i.number c.requires c.loop-i.invariant
