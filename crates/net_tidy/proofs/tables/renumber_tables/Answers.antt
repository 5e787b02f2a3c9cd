use Rattle.std.proofs.Common.{set, ap, sym, ◌∙◌}
use Rattle.std.proofs.lemmas.List.Edits.{map_over_more}
use Rattle.semantics.specs.Renamed.{renamed}
use Rattle.net_tidy.specs.Places.{number_at}
use Rattle.net_tidy.proofs.tables.renumber_tables.Goals as goal

pub loop-table-preserved : goal.loop-table-preserved
loop-table-preserved c =
    ap (set c.loop-table.tables c.loop-table.table-index) (c.renumber.ensures ∙ ap (renamed (number_at c.args.numbers.now)) (sym c.table-item.is))
    ∙ map_over_more (renamed (number_at c.args.numbers.now)) c.args.tables.now c.loop-table.tables c.loop-table.table-index _ c.loop-table-test.true c.loop-table.invariant c.table-item.is
