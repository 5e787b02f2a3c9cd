use Rattle.std.proofs.Common.{◌^◌, get_or, ◌∙◌}
use Rattle.aiger_text.proofs.TableLines.{opposites_fit}
use Rattle.aiger_text.proofs.lines.push_table.Goals as goal

pub push_joins-requires : goal.push_joins-requires
push_joins-requires c =
    opposites_fit (λ s. get_or c.args.literals.now s 0) c.args.first c.in_ok-next.next (2 ^ 31) c.args.table.now c.as_slice-rows.result.now c.as_slice-pins.result.now c.deref.result.now
    (c.as_slice-rows.ensures ∙ c.rows.ensures.value) c.in_ok-next.ensures.next (c.deref.ensures.value ∙ c.in_ok-next.ensures.opposites) c.requires.fits
