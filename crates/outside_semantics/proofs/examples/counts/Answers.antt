-- by computation
use Rattle.std.proofs.Common.{◌+◌, ◌-◌, ◌^◌, ◌≤◌, min, arith}
use Rattle.outside_semantics.proofs.examples.counts.Goals as goal

pub returns : goal.returns
returns c = record {
  one_more = omega arith;
  none = λ (rose : min (3 + 1) (2 ^ 64 - 1) ≤ 3). omega arith;
  at_its_end = omega arith;
  before_its_end = λ before now within rose. omega arith;
}
