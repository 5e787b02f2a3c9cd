use Rattle.std.proofs.Common.{◌≡◌, ℕ, ◌<◌, length}
use Rattle.lane_nets.specs.Wide.{AreWideOutputs, wides_at}
use Rattle.lane_nets.proofs.wide_outputs.wide_rows.Given as goal

abbrev pub invariant-loop-q : goal.invariant-loop-q
invariant-loop-q l = record {
  net : l.wide.net ≡ l.net;
  patterns : l.wide.patterns ≡ l.patterns;
  count : length l.rows ≡ l.q;
  are : (k : ℕ) → k < l.q → AreWideOutputs l.net l.patterns.vectors k (wides_at l.rows k);
}
