use Rattle.std.proofs.Common.{take}
use Rattle.file_core.specs.Page.{Gathered}
use Rattle.aiger_text.specs.CircuitText.{outputs_text}
use Rattle.aiger_text.proofs.writing.write_outputs.Given as goal

abbrev pub invariant-loop-literal : goal.invariant-loop-literal
invariant-loop-literal g l =
    Gathered (g.F.Files.told l.fn.files) (g.F.Files.told l.files) l.fn.page l.page (outputs_text (take l.literal-index l.literals))
