use Rattle.std.proofs.Common.{set, ap, ◌∙◌}
use Rattle.semantics.specs.Renamed.{redirect}
use Rattle.net_tidy.proofs.Edited.{map_numbers_more}
use Rattle.net_tidy.proofs.table_draft.redirect.Goals as goal

pub loop-pin-preserved : goal.loop-pin-preserved
loop-pin-preserved c =
    ap (set c.loop-pin.pins c.loop-pin.pin-index) c.redirected.ensures
    ∙ map_numbers_more (redirect c.args.from c.args.to) c.args.pins.now c.loop-pin.pins c.loop-pin.pin-index c.loop-pin-test.true c.loop-pin.auto.pins c.loop-pin.invariant
