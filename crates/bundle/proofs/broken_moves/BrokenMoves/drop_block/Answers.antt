use Rattle.std.proofs.Common.{List, Bool, ◌++◌, ap, subst}
use Rattle.lane_bits.specs.Patterns.{PatternSet}
use Rattle.bundle.specs.Shown.{BrokenValue, AreMarks}
use Rattle.bundle.proofs.Marks.{block_dropped}
use Rattle.bundle.proofs.broken_moves.BrokenMoves.drop_block.Goals as goal

pub returns-clause-taken : goal.returns-clause-taken
returns-clause-taken c vectors seen =
    let marks = c.mark_block.new.marks.items in
    block_dropped c.args.self.now (record { asked = c.self.inside.asked; marks = marks; block = c.new.result.vectors }) (ap (λ (b : BrokenValue). b.asked) c.self.view_is)
    (ap (λ (s : PatternSet). s.vectors) c.new.ensures)
    (subst (λ (b : BrokenValue). (before : List (List Bool)) → AreMarks b.asked before b.marks → AreMarks b.asked (before ++ b.block) marks) c.self.view_is c.in_ok-mark_block.ensures.ok)
    vectors seen
