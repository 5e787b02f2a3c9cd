use Rattle.std.proofs.Common.{◌≡◌, drop}
use Rattle.blif_semantics.specs.Tables.{named, with_rows, rows_first}
use Rattle.text_words.specs.Slices.{texts}
use Rattle.hier_parts.specs.Sections.{words_in}
use Rattle.hier_parts.proofs.models.table.Given as goal

abbrev pub invariant-loop-line : goal.invariant-loop-line
invariant-loop-line l = with_rows l.table (rows_first (words_in (drop l.line-index l.lines))) ≡ with_rows (named (texts l.names)) (rows_first (words_in l.lines))
