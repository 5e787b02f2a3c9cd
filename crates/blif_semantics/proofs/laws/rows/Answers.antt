use Rattle.blif_semantics.proofs.RowTables.{row-of_table}
use Rattle.blif_semantics.proofs.laws.rows.Goals as goal

pub returns : goal.returns
returns c = row-of_table
