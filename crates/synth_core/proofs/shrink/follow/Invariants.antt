use Rattle.std.proofs.Common.{◌≡◌}
use Rattle.semantics.specs.Net.{literal_count}
use Rattle.chain_semantics.specs.Simplification.{IsInSimplificationFrom}
use Rattle.synth_core.specs.AllowedMoves.{IsPool}
use Rattle.synth_core.proofs.shrink.follow.Given as goal

-- the net is a member of the chain
abbrev pub invariant-loop-next : goal.invariant-loop-next
invariant-loop-next g l = record {
  aim : l.tester.aim ≡ l.fn.tester.aim;
  judge : g.J.Judging.exact l.tester.judge ≡ g.J.Judging.exact l.fn.tester.judge;
  member : IsInSimplificationFrom l.fn.tester.aim.metric l.nets.exact l.fn.tester.aim.bound l.nets.approx l.member;
  pool : IsPool l.nets.exact l.tester.pool;
}

-- each turn removes literals
abbrev pub decreases-loop-next : goal.decreases-loop-next
decreases-loop-next g l = literal_count l.member
