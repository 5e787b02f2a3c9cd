use Rattle.std.proofs.Common.{◌≡◌, ℕ, ◌+◌, List, ap, ◌∙◌}
use Rattle.semantics.specs.Net.{TableValue, input_count}
use Rattle.chain_semantics.specs.TidyRules.{has, constant_pin}
use Rattle.net_tidy.specs.Places.{DraftValue}
use Rattle.net_tidy.proofs.Stepping.{rule_by_found}
use Rattle.net_tidy.proofs.net_draft.NetDraft.rule_where.Goals as goal

pub returns : goal.returns
returns c =
    let tables : c.as_slice.result.now ≡ c.args.self.now.net.tables = c.as_slice.ensures ∙ ap (λ (D : DraftValue). D.net.tables) c.self.view_is in
    let outputs : c.deref.result.now ≡ c.args.self.now.net.outputs = c.deref.ensures.value ∙ ap (λ (D : DraftValue). D.net.outputs) c.self.view_is in
    c.rule_by.ensures
    ∙ rule_by_found c.args.self.now.net c.args.t _ _ _ _ _ _
    (c.constant_pin.ensures ∙ ap (λ (n : ℕ). constant_pin n c.as_slice.result.now c.table-table.result.now) c.inputs-inputs.ensures
    ∙ ap (λ (ts : List TableValue). constant_pin (input_count c.args.self.now.net) ts c.table-table.result.now) tables
    ∙ ap (constant_pin (input_count c.args.self.now.net) c.args.self.now.net.tables) c.table-table.ensures)
    (c.pins.ensures ∙ ap (λ (t : TableValue). t.pins) c.table-table.ensures) (c.rows.ensures ∙ ap (λ (t : TableValue). t.rows) c.table-table.ensures)
    (c.plane.ensures ∙ ap (λ (t : TableValue). t.plane) c.table-table.ensures)
    (c.has.ensures ∙ ap (λ (n : ℕ). has c.deref.result.now (n + c.args.t)) c.inputs-inputs.ensures ∙ ap (λ (os : List ℕ). has os (input_count c.args.self.now.net + c.args.t)) outputs)
    c.requires.read
