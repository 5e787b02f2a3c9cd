use Rattle.conversions.proofs.InputReadings.{NetRead-from, NetUnread-from, unread_net}
use Rattle.conversions.proofs.input.read_net.Goals as goal

pub returns-in-Err-clause-err : goal.returns-in-Err-clause-err
returns-in-Err-clause-err g c = unread_net _ _ _ c.in-Err.answer c.in-Err.ensures.err

pub returns-in-Ok-read_blif-clause-ok : goal.returns-in-Ok-read_blif-clause-ok
returns-in-Ok-read_blif-clause-ok g c = NetRead-from c.in-Ok.ensures.ok c.bytes.ensures.value c.in-Ok-read_blif.ensures.ok

pub returns-clause-err : goal.returns-clause-err
returns-clause-err g c =
    NetUnread-from c.in-Err-read_blif.reason c.blif_answer.result c.in-Ok.ensures.ok c.bytes.ensures.value c.in-Err-read_blif.ensures.err c.blif_answer.ensures
