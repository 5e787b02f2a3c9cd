use Rattle.std.proofs.Common.{take}
use Rattle.semantics.specs.Net.{signal_names}
use Rattle.file_core.specs.Page.{Gathered}
use Rattle.blif_writing.specs.NetText.{tables_text}
use Rattle.blif_writing.proofs.writing.write_tables.Given as goal

abbrev pub invariant-loop-t : goal.invariant-loop-t
invariant-loop-t g l =
    Gathered (g.F.Files.told l.fn.files) (g.F.Files.told l.files) l.fn.page l.page (tables_text (signal_names l.net) (take l.t l.net.tables))
