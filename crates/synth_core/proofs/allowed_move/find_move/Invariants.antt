use Rattle.std.proofs.Common.{◌≡◌, length}
use Rattle.synth_core.specs.AllowedMoves.{IsMaskedPool, IsSearched, masks_over}
use Rattle.synth_core.proofs.allowed_move.find_move.Given as goal

-- the pool breaks each move so far, the masks are over it, and each of those moves was taken back
abbrev pub invariant-loop-trials : goal.invariant-loop-trials
invariant-loop-trials g l = record {
  aim : l.tester.aim ≡ l.fn.tester.aim;
  judge : g.J.Judging.exact l.tester.judge ≡ g.J.Judging.exact l.fn.tester.judge;
  searched : IsSearched (masks_over l.fn.tester.aim l.nets l.tester.pool.vectors) l.moves;
  scratch : l.trials.scratch ≡ l.nets.approx;
  masked : IsMaskedPool l.fn.tester.aim l.nets l.tester.pool l.trials.masks;
}

abbrev pub decreases-loop-trials : goal.decreases-loop-trials
decreases-loop-trials g l = length l.moves
