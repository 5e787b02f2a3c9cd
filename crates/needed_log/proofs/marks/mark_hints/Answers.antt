use Rattle.std.proofs.Common.{◌+◌, ◌-◌, get_or, take, refl, subst, sym, arith}
use Rattle.needed_log.specs.Marks.{AreMarkedToo}
use Rattle.needed_log.proofs.Marking.{too_passed, too_marked}
use Rattle.needed_log.proofs.marks.mark_hints.Goals as goal
use Rattle.needed_log.proofs.marks.mark_hints.Goals.{then-hint-clauses, else-hint-clauses}

pub loop-hint-preserved : goal.loop-hint-preserved
loop-hint-preserved c =
    let i = c.loop-hint.hint-index in
    let inside = c.requires i 0 c.loop-hint-test.true in
    let count = c.loop-hint.invariant.count in
    elim c.if-hint-clauses.branch [
      | then-hint-clauses w ↦
          let above = w.if-hint-clauses.true in
          subst (λ marks. AreMarkedToo c.args.clauses (take (i + 1) c.args.hints.now) c.args.marks.now marks) (sym w.marks-is)
          (too_marked c.args.clauses c.args.hints.now i c.args.marks.now c.loop-hint.marks c.loop-hint-test.true c.loop-hint.invariant (get_or c.args.hints.now i 0)
          (get_or c.args.hints.now i 0 - c.args.clauses - 1) refl (omega (arith, above)) (omega (arith, above, inside, count)))
      | else-hint-clauses w ↦
          let low = w.if-hint-clauses.false in
          subst (λ marks. AreMarkedToo c.args.clauses (take (i + 1) c.args.hints.now) c.args.marks.now marks) (sym w.marks-is)
          (too_passed c.args.clauses c.args.hints.now i c.args.marks.now c.loop-hint.marks c.loop-hint-test.true c.loop-hint.invariant (get_or c.args.hints.now i 0) refl low)
    ]
