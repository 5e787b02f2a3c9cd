use Rattle.std.proofs.Common.{take}
use Rattle.file_core.specs.Page.{Gathered}
use Rattle.aiger_text.specs.CircuitText.{ands_text}
use Rattle.aiger_text.proofs.writing.write_ands.Given as goal

abbrev pub invariant-loop-and : goal.invariant-loop-and
invariant-loop-and g l =
    Gathered (g.F.Files.told l.fn.files) (g.F.Files.told l.files) l.fn.page l.page (ands_text (take l.and-index l.ands))
