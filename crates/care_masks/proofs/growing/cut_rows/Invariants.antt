use Rattle.std.proofs.Common.{◌≡◌, ◌++◌, map, take, drop}
use Rattle.care_masks.proofs.growing.cut_rows.Given as goal

abbrev pub invariant-loop-row : goal.invariant-loop-row
invariant-loop-row l = l.rows ≡ map (take l.blocks) (take l.row-index l.fn.rows) ++ drop l.row-index l.fn.rows
