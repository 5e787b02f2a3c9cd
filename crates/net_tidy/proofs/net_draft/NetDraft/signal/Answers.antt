use Rattle.std.proofs.Common.{ap, arith}
use Rattle.semantics.specs.Net.{table_count}
use Rattle.net_tidy.specs.Places.{DraftValue}
use Rattle.net_tidy.proofs.net_draft.NetDraft.signal.Goals as goal

pub overflow_add-result : goal.overflow_add-result
overflow_add-result c =
    let few = c.self.invariant.2 in
    let within = c.requires in
    let count = c.len.ensures in
    omega (arith, few, within, count, ap (λ (D : DraftValue). table_count D.net) c.self.view_is)
