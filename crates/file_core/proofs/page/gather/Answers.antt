use Rattle.std.proofs.lemmas.Result.{err_from_is_err_and, on_ok_weaker, on_err_weaker}
use Rattle.file_core.proofs.Told.{WriteFailed-after, WriteFailed-more}
use Rattle.file_core.proofs.Gathering.{Gathered-kept, Gathered-both_sent}
use Rattle.file_core.proofs.Outcomes.{Gathers-ok}
use Rattle.file_core.proofs.page.gather.Goals as goal

pub returns-then-has_room-clause-gathers : goal.returns-then-has_room-clause-gathers
returns-then-has_room-clause-gathers g c = Gathers-ok (Gathered-kept _ _ _ _ c.put.ensures)

pub returns-in_err-send-clause-gathers : goal.returns-in_err-send-clause-gathers
returns-in_err-send-clause-gathers g c =
    let p = err_from_is_err_and c.from_residual.result c.from_residual.ensures.1 in
    rw p.1 (record { ok = tt; err = WriteFailed-more _ c.in_err-send.ensures.writes.err; emptied = c.in_err-send.ensures.emptied })

pub returns-clause-gathers : goal.returns-clause-gathers
returns-clause-gathers g c = record {
  ok = on_ok_weaker _ (Gathered-both_sent _ c.in_ok-send.ensures.writes.ok c.in_ok-send.ensures.emptied) c.append_all.ensures.ok;
  err = on_err_weaker _ (WriteFailed-after c.in_ok-send.ensures.writes.ok) c.append_all.ensures.err;
  emptied = on_err_weaker _ (λ _. c.in_ok-send.ensures.emptied) c.append_all.ensures.err;
}
