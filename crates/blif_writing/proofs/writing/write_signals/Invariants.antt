use Rattle.std.proofs.Common.{take}
use Rattle.semantics.specs.Net.{signal_names}
use Rattle.file_core.specs.Page.{Gathered}
use Rattle.blif_writing.specs.NetText.{blank_names}
use Rattle.blif_writing.proofs.writing.write_signals.Given as goal

abbrev pub invariant-loop-s : goal.invariant-loop-s
invariant-loop-s g l =
    Gathered (g.F.Files.told l.fn.files) (g.F.Files.told l.files) l.fn.page l.page (blank_names (signal_names l.net) (take l.s-index l.signals))
