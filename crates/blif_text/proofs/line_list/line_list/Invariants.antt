use Rattle.std.proofs.Common.{◌≡◌, map, take}
use Rattle.blif_text.specs.LogicalLines.{statement_of}
use Rattle.blif_text.proofs.line_list.line_list.Given as goal

abbrev pub invariant-loop-line : goal.invariant-loop-line
invariant-loop-line l = l.list ≡ map statement_of (take l.line-index l.lines)
