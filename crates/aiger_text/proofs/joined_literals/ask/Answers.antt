use Rattle.std.proofs.Common.{get_or}
use Rattle.semantics.specs.declared.mark.Mark.TheVariants.{Zero}
use Rattle.aiger_text.proofs.JoinedLiterals.{row_asked}
use Rattle.aiger_text.proofs.joined_literals.ask.Goals as goal

pub loop-i-preserved : goal.loop-i-preserved
loop-i-preserved c =
    row_asked (λ s. get_or c.args.literals.now s 0) c.args.marks.now c.args.pins.now c.loop-i.i Zero c.loop-i.asked.items c.push_marked.new.asked.items c.loop-i.invariant c.loop-i-test.true
    c.requires.widths c.in_ok-push_marked.ensures
