use Rattle.std.proofs.Common.{sym}
use Rattle.bundle_texts.proofs.CutTexts.{no_end, no_number, a_number}
use Rattle.bundle_texts.proofs.pieces.number_before.Goals as goal

pub returns-in_err-word : goal.returns-in_err-word
returns-in_err-word c =
    rw c.from_residual.ensures (no_end c.args.most c.args.end c.args.text.now c.requires.few c.requires.no_digit c.in_err-word.ensures)

pub returns-in_err-number : goal.returns-in_err-number
returns-in_err-number c =
    rw c.from_residual-in_err-number.ensures
    (no_number c.args.most c.args.end c.args.text.now c.requires.few c.requires.no_digit c.in_ok-word.word.now c.in_ok-word.rest.now c.in_ok-word.ensures.0 c.in_ok-word.ensures.1
    (sym c.in_err-number.ensures))

pub returns : goal.returns
returns c =
    a_number c.args.most c.args.end c.args.text.now c.requires.few c.requires.no_digit c.in_ok-word.word.now c.in_ok-word.rest.now c.in_ok-word.ensures.0 c.in_ok-word.ensures.1
    c.in_ok-number.number (sym c.in_ok-number.ensures)
