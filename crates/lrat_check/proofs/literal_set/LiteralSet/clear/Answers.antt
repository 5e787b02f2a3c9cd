use Rattle.std.proofs.Common.{subst, sym}
use Rattle.lrat_check.specs.Marks.{Unmarked}
use Rattle.lrat_check.specs.SetStanding.{AreMarked}
use Rattle.lrat_check.proofs.LiteralSets.{none_marked, all_unmarked}
use Rattle.lrat_check.proofs.literal_set.LiteralSet.clear.Goals as goal

pub invariant_of-self : goal.invariant_of-self
invariant_of-self c =
    let a = c.self.inside in
    let left = c.unmark_all.new.marks.items in
    let unmarked = subst (Unmarked a.marks.items left) c.deref.ensures.value c.unmark_all.ensures in
    subst (λ members. AreMarked members left c.new.result) (sym c.clear.ensures.items)
    (none_marked left c.new.result c.new.ensures.empty (all_unmarked a.members.items a.marks.items left a.apart c.self.invariant unmarked))
