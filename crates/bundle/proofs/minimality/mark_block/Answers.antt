use Rattle.std.proofs.Common.{sym, ap, subst, ◌∙◌}
use Rattle.std.specs.List.{list_all}
use Rattle.bundle.specs.Shown.{AreMarks}
use Rattle.bundle.proofs.Marks.{still_marked}
use Rattle.bundle.proofs.minimality.mark_block.Goals as goal

pub returns-then-are_all-clause-ok : goal.returns-then-are_all-clause-ok
returns-then-are_all-clause-ok c before marks =
    still_marked c.args.asked.now before c.args.block.now.vectors c.args.marks.now.items
    (ap (list_all (λ mark. mark)) (sym c.deref.ensures.value) ∙ sym c.are_all.ensures ∙ c.if-are_all.true) marks

pub returns-clause-ok : goal.returns-clause-ok
returns-clause-ok c before marks = c.in_ok-marks.ensures before (subst (AreMarks c.args.asked.now before) (sym c.deref-2.ensures.value) marks)
