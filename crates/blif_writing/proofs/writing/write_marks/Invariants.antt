use Rattle.std.proofs.Common.{take}
use Rattle.file_core.specs.Page.{Gathered}
use Rattle.blif_writing.specs.NetText.{marks_text}
use Rattle.blif_writing.proofs.writing.write_marks.Given as goal

abbrev pub invariant-loop-mark : goal.invariant-loop-mark
invariant-loop-mark g l =
    Gathered (g.F.Files.told l.fn.files) (g.F.Files.told l.files) l.fn.page l.page (marks_text (take l.mark-index l.marks))
