use Rattle.hierarchy_semantics.proofs.Counted.{tables_count, pins_count, rows_count, wide_count}
use Rattle.hierarchy_semantics.proofs.laws.counts.Goals as goal

pub returns : goal.returns
returns c = record { tables = tables_count; pins = pins_count; rows = rows_count; wide = wide_count }
