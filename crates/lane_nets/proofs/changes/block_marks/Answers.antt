use Rattle.std.proofs.Common.{ℕ, arith}
use Rattle.lane_nets.specs.Changes.{IsSameInput}
use Rattle.lane_nets.proofs.ChangedInputs.{same_input, marks_set, marks_left}
use Rattle.lane_nets.proofs.changes.block_marks.Goals as goal
use Rattle.lane_nets.proofs.changes.block_marks.Goals.{then-is_changed, else-is_changed}

pub loop-s-init : goal.loop-s-init
loop-s-init c = λ i none kept. absurd (omega (arith, none))

pub loop-s-preserved : goal.loop-s-preserved
loop-s-preserved c =
    let P : ℕ → Type 0 = IsSameInput c.args.patterns.now.vectors c.args.q in
    elim c.if-is_changed.branch [
      | then-is_changed w ↦ rw w.marks-is (marks_set P c.loop-s.marks c.loop-s.s (omega (arith, c.loop-s-test.true, c.loop-s.auto.s-end, c.requires.few)) c.loop-s.invariant)
      | else-is_changed w ↦
          rw w.marks-is
          (marks_left P c.loop-s.marks c.loop-s.s
          (same_input c.args.patterns.now.vectors c.row.result.now c.args.q c.loop-s.s c.row.ensures.bits (c.is_changed.ensures w.if-is_changed.false)) c.loop-s.invariant)
    ]
