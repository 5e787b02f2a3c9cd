use Rattle.std.proofs.Common.{◌≡◌, ◌<◌, List, ℕ, length, get_or, refl, ap, sym, ◌∙◌, arith}
use Rattle.std.proofs.lemmas.List.{get_or_default}
use Rattle.semantics.specs.Net.{no_table, table_at, input_count, table_count}
use Rattle.chain_semantics.specs.TidyRules.{without_pin}
use Rattle.net_tidy.specs.Places.{DraftValue}
use Rattle.net_tidy.proofs.Flagged.{flagged-remove_pin, held_set}
use Rattle.net_tidy.proofs.net_draft.NetDraft.remove_pin.Goals as goal

pub invariant_of-self : goal.invariant_of-self
invariant_of-self c =
    let within : c.args.t < length c.self.inside.tables = (let low = c.requires.within in omega (arith, low, ap (λ (D : DraftValue). table_count D.net) c.self.view_is)) in
    let inputs : c.inputs-inputs.result ≡ length c.self.inside.inputs = c.inputs-inputs.ensures ∙ sym (ap (λ (D : DraftValue). input_count D.net) c.self.view_is) in
    held_set (record { model = c.self.inside.model; inputs = c.self.inside.inputs; tables = c.self.inside.tables; outputs = c.self.inside.outputs.items })
    c.self.inside.gone.items _ _ c.args.t (without_pin c.args.q (table_at c.self.inside.tables c.args.t))
    (flagged-remove_pin _ _ c.inputs-inputs.result _ c.args.q _ (table_at c.self.inside.tables c.args.t) _ _ _ _ _ c.self.invariant.0 inputs within
    (get_or_default c.self.inside.tables c.args.t no_table (table_at c.self.inside.tables c.args.t) within) refl (ap (λ (ps : List ℕ). get_or ps c.args.q 0) c.pins.ensures)
    c.remove_pin.ensures c.raise_signal.ensures.count c.raise_signal.ensures.others c.raise_edited.ensures.count c.raise_edited.ensures.others)
    c.remove_pin.ensures c.self.invariant.1 c.self.invariant.2
