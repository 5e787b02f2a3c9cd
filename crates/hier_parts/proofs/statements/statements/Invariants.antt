use Rattle.std.proofs.Common.{◌≡◌, take}
use Rattle.hier_parts.proofs.statements.statements.Given as goal

abbrev pub invariant-loop-line : goal.invariant-loop-line
invariant-loop-line l = l.statements.items ≡ take l.line-index l.lines
