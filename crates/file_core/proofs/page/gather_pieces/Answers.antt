use Rattle.std.proofs.lemmas.Result.{err_from_is_err_and}
use Rattle.file_core.proofs.Gathering.{Gathered-nil}
use Rattle.file_core.proofs.Outcomes.{Gathers-next_piece}
use Rattle.file_core.proofs.Pieces.{Gathered-next_piece}
use Rattle.file_core.proofs.page.gather_pieces.Goals as goal

pub loop-piece-init : goal.loop-piece-init
loop-piece-init g c = Gathered-nil _ _

pub loop-piece-preserved : goal.loop-piece-preserved
loop-piece-preserved g c = Gathered-next_piece _ _ _ c.loop-piece-test.true c.loop-piece.invariant c.in_ok-gather.ensures.gathers.ok

pub returns-in_err-gather : goal.returns-in_err-gather
returns-in_err-gather g c =
    let p = err_from_is_err_and c.from_residual.result c.from_residual.ensures.1 in
    rw p.1 (Gathers-next_piece _ _ _ c.loop-piece-test.true c.loop-piece.invariant c.in_err-gather.ensures.gathers)
