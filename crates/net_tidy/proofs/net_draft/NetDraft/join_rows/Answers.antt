use Rattle.std.proofs.Common.{◌<◌, length, refl, ap, arith}
use Rattle.semantics.specs.Net.{table_count}
use Rattle.net_tidy.specs.Places.{DraftValue}
use Rattle.net_tidy.proofs.Flagged.{flagged-rows, held_set}
use Rattle.net_tidy.proofs.net_draft.NetDraft.join_rows.Goals as goal

pub invariant_of-self : goal.invariant_of-self
invariant_of-self c =
    let within : c.args.t < length c.self.inside.tables = (let low = c.requires.within in omega (arith, low, ap (λ (D : DraftValue). table_count D.net) c.self.view_is)) in
    held_set (record { model = c.self.inside.model; inputs = c.self.inside.inputs; tables = c.self.inside.tables; outputs = c.self.inside.outputs.items })
    c.self.inside.gone.items _ _ c.args.t _ (flagged-rows _ _ _ _ _ _ c.self.invariant.0 within c.raise.ensures refl) c.join_rows.ensures c.self.invariant.1 c.self.invariant.2
