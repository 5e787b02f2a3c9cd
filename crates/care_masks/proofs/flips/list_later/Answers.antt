use Rattle.std.proofs.Common.{◌+◌, length, get_or, take, refl, ap, arith}
use Rattle.std.proofs.lemmas.List.{take_more_set}
use Rattle.net_core.proofs.InOrder.{next_at}
use Rattle.care_masks.proofs.Flipping.{collected_none, collected_skip, collected_more, later_all, found_again}
use Rattle.care_masks.proofs.flips.list_later.Goals as goal
use Rattle.care_masks.proofs.flips.list_later.Goals.{then-is_found_again, else-is_found_again}

pub loop-i-init : goal.loop-i-init
loop-i-init c = (omega arith, collected_none c.args.net.now c.args.t)

pub bounds-marks-inputs : goal.bounds-marks-inputs
bounds-marks-inputs c =
    let next = next_at (length c.args.net.now.inputs) c.args.net.now.tables c.args.order.now c.requires.order c.loop-i.i-index
    (get_or c.args.order.now c.loop-i.i-index 0) c.loop-i-test.true refl in
    omega (arith, next.table, c.requires.marks_room)

pub loop-i-preserved : goal.loop-i-preserved
loop-i-preserved c =
    elim c.if-is_found_again.branch [
      | then-is_found_again w ↦ (
        omega (arith, w.count-is, c.loop-i.invariant.0),
        collected_more c.args.net.now c.args.t c.args.order.now (take c.loop-i.count c.loop-i.later) c.loop-i.i-index (get_or c.args.order.now c.loop-i.i-index 0)
            c.inputs-inputs.ensures.built.sound.acyclic c.requires.order c.loop-i-test.true refl c.loop-i.invariant.1 _
            (rw (w.later-is, w.count-is) (take_more_set c.loop-i.later c.loop-i.count (get_or c.args.order.now c.loop-i.i-index 0)
            (omega (arith, c.loop-i.invariant.0, c.loop-i-test.true, c.loop-i.auto.later, c.requires.room))))
            (found_again _ c.args.t _ c.is_found_again.result c.is_found_again.ensures w.if-is_found_again.true),
      )
      | else-is_found_again w ↦ (
        omega (arith, w.count-is, c.loop-i.invariant.0),
        rw (w.later-is, w.count-is)
            (collected_skip c.args.net.now c.args.t c.args.order.now (take c.loop-i.count c.loop-i.later) c.loop-i.i-index (get_or c.args.order.now c.loop-i.i-index 0)
            c.inputs-inputs.ensures.built.sound.acyclic c.requires.order c.loop-i-test.true refl c.loop-i.invariant.1 c.args.marks.now _ c.is_found_again.result
            (ap (λ k. k + get_or c.args.order.now c.loop-i.i-index 0) c.inputs-inputs.ensures.value) c.requires.marks c.is_found_again.ensures w.if-is_found_again.false),
      )
    ]

pub returns-clause-later : goal.returns-clause-later
returns-clause-later c =
    later_all c.args.net.now c.args.t c.args.order.now (take c.loop-i.count c.loop-i.later) c.loop-i.i-index c.requires.order c.loop-i-test.false c.loop-i.invariant.1
