use Rattle.std.proofs.Common.{◌<◌, length, ap, ◌∙◌, true, arith}
use Rattle.std.proofs.lemmas.List.{length-set}
use Rattle.semantics.specs.Net.{table_count}
use Rattle.net_tidy.specs.Places.{DraftValue}
use Rattle.net_tidy.proofs.Flagged.{flagged-gone}
use Rattle.net_tidy.proofs.net_draft.NetDraft.leave.Goals as goal

pub invariant_of-self : goal.invariant_of-self
invariant_of-self c =
    let count = c.self.invariant.1 in
    let low = c.requires in
    let room : c.args.t < length c.self.inside.gone.items = omega (arith, low, count, ap (λ (D : DraftValue). table_count D.net) c.self.view_is) in (
      flagged-gone _ _ _ _ c.self.invariant.0 room,
      length-set c.self.inside.gone.items c.args.t true ∙ c.self.invariant.1,
      c.self.invariant.2,
    )
