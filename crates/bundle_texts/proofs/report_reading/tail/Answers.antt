use Rattle.bundle_texts.proofs.ReportCuts.{no_literals, no_minimal}
use Rattle.bundle_texts.proofs.report_reading.tail.Goals as goal

pub returns-in_err-old_literals : goal.returns-in_err-old_literals
returns-in_err-old_literals c =
    rw c.from_residual-in_err-old_literals.ensures
    (no_literals c.args.text.now c.in_ok-old_tables.old_tables c.in_ok-old_tables.new_tables c.in_ok-old_tables.rest.now c.in_ok-old_tables.ensures c.in_err-old_literals.ensures)

pub returns-in_err-minimal : goal.returns-in_err-minimal
returns-in_err-minimal c =
    rw c.from_residual-in_err-minimal.ensures
    (no_minimal c.args.text.now c.in_ok-old_tables.old_tables c.in_ok-old_tables.new_tables c.in_ok-old_tables.rest.now c.in_ok-old_tables.ensures
    c.in_ok-old_literals.old_literals c.in_ok-old_literals.new_literals c.in_ok-old_literals.rest.now c.in_ok-old_literals.ensures c.in_err-minimal.ensures)
