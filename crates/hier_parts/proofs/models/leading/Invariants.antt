use Rattle.std.proofs.Common.{◌≡◌, ◌+◌, drop}
use Rattle.hier_parts.specs.Sections.{leading}
use Rattle.hier_parts.proofs.models.leading.Given as goal

abbrev pub invariant-loop-i : goal.invariant-loop-i
invariant-loop-i l = l.i + leading (drop l.i l.lines) ≡ leading l.lines
