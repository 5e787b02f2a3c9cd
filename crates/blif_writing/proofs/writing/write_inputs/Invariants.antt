use Rattle.std.proofs.Common.{take}
use Rattle.file_core.specs.Page.{Gathered}
use Rattle.blif_writing.specs.NetText.{blank_words}
use Rattle.blif_writing.proofs.writing.write_inputs.Given as goal

abbrev pub invariant-loop-s : goal.invariant-loop-s
invariant-loop-s g l =
    Gathered (g.F.Files.told l.fn.files) (g.F.Files.told l.files) l.fn.page l.page (blank_words (take l.s l.net.inputs))
