use Rattle.std.proofs.Common.{◌∙◌, refl}
use Rattle.bundle_texts.specs.Pieces.{bits_in}
use Rattle.bundle_texts.proofs.ReportCuts.{no_front, no_tail, read_is}
use Rattle.bundle_texts.proofs.report_reading.read_version.Goals as goal

pub returns-in_default : goal.returns-in_default
returns-in_default c =
    no_front c.args.inputs c.args.version c.args.metric c.args.bound c.args.text.now c.as_bytes.result.now
    (c.as_bytes.ensures.value ∙ c.as_str.ensures.value ∙ c.head-head.ensures) c.in_default.ensures

pub returns-in_default-tail : goal.returns-in_default-tail
returns-in_default-tail c =
    no_tail c.args.inputs c.args.version c.args.metric c.args.bound c.args.text.now c.as_bytes.result.now
    (c.as_bytes.ensures.value ∙ c.as_str.ensures.value ∙ c.head-head.ensures)
    c.in-Some.maximum (bits_in c.in-Some.digits.now) c.in-Some.rest.now c.in-Some.ensures c.in_default-tail.ensures

pub returns : goal.returns
returns c =
    read_is c.args.inputs c.args.version c.args.metric c.args.bound c.args.text.now c.as_bytes.result.now
    (c.as_bytes.ensures.value ∙ c.as_str.ensures.value ∙ c.head-head.ensures)
    c.in-Some.maximum (bits_in c.in-Some.digits.now) c.in-Some.rest.now c.in-Some.ensures _ refl refl c.in_ok-bits_of.ensures c.in-Some-tail.ensures
