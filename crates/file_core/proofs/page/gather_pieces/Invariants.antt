use Rattle.std.proofs.Common.{take}
use Rattle.file_core.specs.Pieces.{joined}
use Rattle.file_core.specs.Page.{Gathered}
use Rattle.file_core.proofs.page.gather_pieces.Given as goal

abbrev pub invariant-loop-piece : goal.invariant-loop-piece
invariant-loop-piece g l = Gathered (g.F.Files.told l.fn.files) (g.F.Files.told l.files) l.fn.page l.page (joined (take l.piece-index l.pieces))
