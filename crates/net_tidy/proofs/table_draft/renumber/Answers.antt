use Rattle.std.proofs.Common.{set, ap, ◌∙◌}
use Rattle.net_tidy.specs.Places.{number_at}
use Rattle.net_tidy.proofs.Edited.{map_numbers_more}
use Rattle.net_tidy.proofs.table_draft.renumber.Goals as goal

pub loop-signal-preserved : goal.loop-signal-preserved
loop-signal-preserved c =
    ap (set c.loop-signal.signals c.loop-signal.signal-index) c.number_at.ensures
    ∙ map_numbers_more (number_at c.args.numbers.now) c.args.signals.now c.loop-signal.signals c.loop-signal.signal-index c.loop-signal-test.true c.loop-signal.auto.signals c.loop-signal.invariant
