use Rattle.std.proofs.Common.{[], refl}
use Rattle.std.proofs.lemmas.Result.{err_from_is_err_and}
use Rattle.file_core.proofs.Told.{Took-nil, Took-part, TakeFailed-part}
use Rattle.file_core.proofs.append.put_all.Goals as goal

pub loop-rest-init : goal.loop-rest-init
loop-rest-init g c = ([], refl, Took-nil _)

pub loop-rest-preserved : goal.loop-rest-preserved
loop-rest-preserved g c = Took-part _ _ _ c.loop-rest.invariant c.in_ok-count.ensures.ok

pub returns-in_err-count : goal.returns-in_err-count
returns-in_err-count g c =
    let p = err_from_is_err_and c.from_residual.result c.from_residual.ensures.1 in
    rw p.1 (record { ok = tt; err = TakeFailed-part _ _ c.loop-rest.invariant c.in_err-count.ensures.err })
