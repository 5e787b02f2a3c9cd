use Rattle.std.proofs.Common.{ap, ◌∙◌, arith}
use Rattle.semantics.specs.Net.{TableValue}
use Rattle.net_tidy.proofs.Marking.{read_start, read_step, read_end}
use Rattle.net_tidy.proofs.first_flags.mark_read.Goals as goal

pub loop-t-init : goal.loop-t-init
loop-t-init c = λ s. read_start c.args.net.now.tables c.args.marks.now s (c.requires.clear s)

pub loop-t-preserved : goal.loop-t-preserved
loop-t-preserved c = λ s.
    read_step c.args.net.now.tables c.loop-t.marks c.mark.new.marks c.as_slice.result.now c.loop-t.t s (omega (arith, c.loop-t-test.true))
    (c.as_slice.ensures ∙ c.pins.ensures.value ∙ ap (λ (t : TableValue). t.pins) c.table.ensures.value) (c.mark.ensures s) (c.loop-t.invariant s)

pub returns : goal.returns
returns c = λ s. read_end c.args.net.now.tables c.loop-t.marks c.loop-t.t s (omega (arith, c.loop-t-test.false)) (c.loop-t.invariant s)
