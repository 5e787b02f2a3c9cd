use Rattle.std.proofs.Common.{refl, subst}
use Rattle.cnf_core.specs.Drafts.{ItemDraftValue, Grows}
use Rattle.cnf_core.proofs.Drafts.{Grows-push_number}
use Rattle.cnf_core.proofs.item_draft.ItemDraft.push_number.Goals as goal

pub returns-clause-grows : goal.returns-clause-grows
returns-clause-grows c =
    let old : ItemDraftValue = record { literals = c.self.inside.literals; numbers = c.self.inside.numbers } in
    let new : ItemDraftValue = record old { numbers = c.push.new.self } in
    subst (λ (v : ItemDraftValue). Grows v new) c.self.view_is (Grows-push_number c.push.result old new _ c.push.ensures.ok c.push.ensures.err refl)
