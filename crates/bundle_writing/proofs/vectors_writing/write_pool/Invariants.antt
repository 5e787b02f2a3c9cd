use Rattle.std.proofs.Common.{◌≡◌, length, take}
use Rattle.file_core.specs.Page.{Gathered}
use Rattle.bundle_writing.specs.VectorLines.{vector_lines}
use Rattle.bundle_writing.proofs.vectors_writing.write_pool.Given as goal

abbrev pub invariant-loop-i : goal.invariant-loop-i
invariant-loop-i g l = record {
  width : length l.x ≡ l.pool.inputs;
  gathered : Gathered (g.F.Files.told l.fn.files) (g.F.Files.told l.files) l.fn.page l.page (vector_lines (take l.i l.pool.vectors));
}
