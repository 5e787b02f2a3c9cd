use Rattle.std.proofs.Common.{◌≡◌, ◌<◌, length, refl, ap, sym, ◌∙◌, arith}
use Rattle.semantics.specs.Net.{table_at, input_count, table_count, constant_table}
use Rattle.net_tidy.specs.Places.{DraftValue}
use Rattle.net_tidy.proofs.Flagged.{flagged-make_constant, held_set}
use Rattle.net_tidy.proofs.net_draft.NetDraft.make_constant.Goals as goal

pub invariant_of-self : goal.invariant_of-self
invariant_of-self c =
    let within : c.args.t < length c.self.inside.tables = (let low = c.requires.within in omega (arith, low, ap (λ (D : DraftValue). table_count D.net) c.self.view_is)) in
    let inputs : c.inputs-inputs.result ≡ length c.self.inside.inputs = c.inputs-inputs.ensures ∙ sym (ap (λ (D : DraftValue). input_count D.net) c.self.view_is) in
    held_set (record { model = c.self.inside.model; inputs = c.self.inside.inputs; tables = c.self.inside.tables; outputs = c.self.inside.outputs.items })
    c.self.inside.gone.items _ _ c.args.t (constant_table (table_at c.self.inside.tables c.args.t).name c.args.value)
    (flagged-make_constant _ _ c.inputs-inputs.result _ c.args.value (table_at c.self.inside.tables c.args.t) _ _ _ _ _ _ c.self.invariant.0 inputs within
    refl c.pins.ensures c.make_constant.ensures c.raise_signals.ensures.count c.raise_signals.ensures.others c.raise_edited.ensures.count c.raise_edited.ensures.others)
    c.make_constant.ensures c.self.invariant.1 c.self.invariant.2
