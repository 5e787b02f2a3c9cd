use Rattle.std.proofs.Common.{ap, ◌∙◌, length}
use Rattle.hierarchy_semantics.specs.Models.{BlifModel}
use Rattle.hier_flat.proofs.Limited.{limit_told}
use Rattle.hier_flat.proofs.counting.counted_limit.Goals as goal

pub returns : goal.returns
returns c =
    limit_told c.args.models.now c.passes.result c.passes-2.result c.passes-3.result c.passes-4.result c.passes-5.result c.passes-6.result c.input_count.result c.output_count.result
    c.in_ok-tables.tables c.in_ok-wide.wide c.in_ok-pins.pins c.in_ok-rows.rows c.limit_by.result
    c.limit_by.ensures c.passes.ensures c.passes-2.ensures c.passes-3.ensures c.passes-4.ensures c.passes-5.ensures c.passes-6.ensures
    (c.input_count.ensures ∙ ap (λ (m : BlifModel). length m.inputs) c.requires.main) (c.output_count.ensures ∙ ap (λ (m : BlifModel). length m.outputs) c.requires.main)
    c.in_ok-tables.ensures c.in_ok-wide.ensures c.in_ok-pins.ensures c.in_ok-rows.ensures
