use Rattle.bundle_texts.proofs.ReportCuts.{no_old, no_new}
use Rattle.bundle_texts.proofs.report_reading.two_counts.Goals as goal

pub returns-in_err-old : goal.returns-in_err-old
returns-in_err-old c =
    rw c.from_residual-in_err-old.ensures (no_old c.args.key.now c.args.text.now c.in_ok-rest.rest.now c.in_ok-rest.ensures c.in_err-old.ensures)

pub returns-in_err-new : goal.returns-in_err-new
returns-in_err-new c =
    rw c.from_residual-in_err-new.ensures
    (no_new c.args.key.now c.args.text.now c.in_ok-rest.rest.now c.in_ok-rest.ensures c.in_ok-old.old c.in_ok-old.rest.now c.in_ok-old.ensures c.in_err-new.ensures)
