use Rattle.std.proofs.Common.{◌≡◌, ◌≤◌, ◌<◌, ◌-◌, ◌++◌, length}
use Rattle.hierarchy_semantics.specs.Models.{hierarchy_of}
use Rattle.hier_parts.specs.Sections.{models_from, Begins}
use Rattle.hier_parts.proofs.models.hierarchy_of.Given as goal

abbrev pub invariant-loop-start : goal.invariant-loop-start
invariant-loop-start l = record {
  some : 0 < length l.lines;
  within : l.start ≤ length l.lines;
  begins : Begins l.lines l.start;
  same : l.models.items ++ models_from l.lines l.start ≡ hierarchy_of l.lines;
}

abbrev pub decreases-loop-start : goal.decreases-loop-start
decreases-loop-start l = length l.lines - l.start
