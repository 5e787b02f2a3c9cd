use Rattle.std.proofs.Common.{refl}
use Rattle.bundle_texts.proofs.ReportCuts.{no_maximum, no_witness, no_bits}
use Rattle.bundle_texts.proofs.report_reading.front.Goals as goal

pub returns-in_err-maximum : goal.returns-in_err-maximum
returns-in_err-maximum c =
    rw c.from_residual-in_err-maximum.ensures
    (no_maximum c.args.head.now c.args.width c.args.text.now c.in_ok-rest.rest.now c.in_ok-rest.ensures _ refl c.in_err-maximum.ensures)

pub returns-in_err-rest-2 : goal.returns-in_err-rest-2
returns-in_err-rest-2 c =
    rw c.from_residual-in_err-rest-2.ensures
    (no_witness c.args.head.now c.args.width c.args.text.now c.in_ok-rest.rest.now c.in_ok-rest.ensures _ refl c.in_ok-maximum.maximum c.in_ok-maximum.rest.now c.in_ok-maximum.ensures
    c.in_err-rest-2.ensures)

pub returns-in_err-digits : goal.returns-in_err-digits
returns-in_err-digits c =
    rw c.from_residual-in_err-digits.ensures
    (no_bits c.args.head.now c.args.width c.args.text.now c.in_ok-rest.rest.now c.in_ok-rest.ensures _ refl c.in_ok-maximum.maximum c.in_ok-maximum.rest.now c.in_ok-maximum.ensures
    c.in_ok-rest-2.rest.now c.in_ok-rest-2.ensures c.in_err-digits.ensures)
