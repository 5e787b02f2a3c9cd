use Rattle.std.proofs.Common.{ℕ, ◌+◌, ap, ◌∙◌}
use Rattle.semantics.specs.Net.{TableValue, input_count}
use Rattle.chain_semantics.specs.TidyRules.{has, is_read, constant_pin}
use Rattle.net_tidy.proofs.Stepping.{rule_by_found}
use Rattle.net_tidy.proofs.first_flags.marked_rule_at.Goals as goal

pub returns : goal.returns
returns c =
    let table = c.table-table.ensures.value in
    c.rule_by.ensures
    ∙ rule_by_found c.args.net.now c.args.t _ _ _ _ _ _
    (c.constant_pin.ensures ∙ ap (constant_pin (input_count c.args.net.now) c.args.net.now.tables) table)
    (c.as_slice.ensures ∙ c.pins.ensures.value ∙ ap (λ (t : TableValue). t.pins) table)
    (c.as_slice-2.ensures ∙ c.rows.ensures.value ∙ ap (λ (t : TableValue). t.rows) table)
    (c.plane.ensures.value ∙ ap (λ (t : TableValue). t.plane) table)
    (c.requires.output (c.inputs.result + c.args.t) ∙ ap (λ (n : ℕ). has c.args.net.now.outputs (n + c.args.t)) c.inputs.ensures.value)
    (c.requires.read (c.inputs.result + c.args.t) ∙ ap (λ (n : ℕ). is_read c.args.net.now.tables (n + c.args.t)) c.inputs.ensures.value)
