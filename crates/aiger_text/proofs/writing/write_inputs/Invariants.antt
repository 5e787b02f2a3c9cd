use Rattle.std.proofs.Common.{take}
use Rattle.file_core.specs.Page.{Gathered}
use Rattle.aiger_text.specs.CircuitText.{inputs_text}
use Rattle.aiger_text.proofs.writing.write_inputs.Given as goal

abbrev pub invariant-loop-variable : goal.invariant-loop-variable
invariant-loop-variable g l =
    Gathered (g.F.Files.told l.fn.files) (g.F.Files.told l.files) l.fn.page l.page (inputs_text (take l.variable-index l.variables))
