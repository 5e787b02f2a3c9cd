use Rattle.std.proofs.Common.{ap, length, ◌∙◌, arith}
use Rattle.std.proofs.lemmas.List.Edits.{length-swap}
use Rattle.std.proofs.lemmas.List.FromFn.{length-range_with_len}
use Rattle.lane_nets.proofs.cone_order.cone_order.Goals as goal

pub loop-p-init : goal.loop-p-init
loop-p-init c = ap length c.in_ok-order.ensures ∙ length-range_with_len 0 c.inputs.result ∙ c.inputs.ensures.value

pub exchange-requires-clause-p : goal.exchange-requires-clause-p
exchange-requires-clause-p c =
    omega (arith, c.loop-p-test.true, c.inputs-p-end.ensures, c.loop-p.invariant, ap length c.in_ok-order.ensures, length-range_with_len 0 c.inputs.result, c.inputs.ensures.value)

pub input-requires : goal.input-requires
input-requires c =
    omega (
      arith,
      ap length c.exchange.ensures,
      length-swap c.loop-p.order c.loop-p.p c.least_place-least.result,
      c.loop-p-test.true,
      c.inputs-p-end.ensures,
      c.loop-p.invariant,
      ap length c.in_ok-order.ensures,
      length-range_with_len 0 c.inputs.result,
      c.inputs.ensures.value,
    )

pub loop-p-preserved : goal.loop-p-preserved
loop-p-preserved c = ap length c.exchange.ensures ∙ length-swap c.loop-p.order c.loop-p.p c.least_place-least.result ∙ c.loop-p.invariant
