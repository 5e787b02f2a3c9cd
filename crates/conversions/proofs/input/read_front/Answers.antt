use Rattle.std.proofs.Common.{◌+◌, ◌-◌, length, ap, ◌∙◌, arith}
use Rattle.conversions.proofs.InputReadings.{FrontRead-from}
use Rattle.conversions.proofs.input.read_front.Goals as goal

pub returns-in-Ok-clause-ok : goal.returns-in-Ok-clause-ok
returns-in-Ok-clause-ok g c =
    let limit = c.in-Ok.ensures.aim ∙ ap (λ f. f.limit) c.new-front.ensures in
    let text = c.read_file-read.new.intake.bytes in
    FrontRead-from (omega (arith, c.bytes.ensures.within, limit)) (ap (λ n. n + 1 - length text) limit) c.in-Ok.ensures.ok
