use Rattle.std.proofs.Common.{◌≡◌, ◌-◌}
use Rattle.worst_case.specs.Maximum.{IsRange}
use Rattle.worst_case.proofs.maximum.close.Given as goal

abbrev pub invariant-loop-range : goal.invariant-loop-range
invariant-loop-range g l = record {
  range : IsRange l.aim l.nets.exact l.nets.approx l.range;
  judge : l.judge ≡ l.nets.exact;
}

abbrev pub decreases-loop-range : goal.decreases-loop-range
decreases-loop-range g l = l.range.high - l.range.low
