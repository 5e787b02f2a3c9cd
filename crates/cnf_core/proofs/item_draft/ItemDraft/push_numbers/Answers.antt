use Rattle.std.proofs.Common.{subst}
use Rattle.cnf_core.specs.Drafts.{ItemDraftValue, Grows}
use Rattle.cnf_core.proofs.Drafts.{Grows-numbers}
use Rattle.cnf_core.proofs.item_draft.ItemDraft.push_numbers.Goals as goal

pub returns-clause-grows : goal.returns-clause-grows
returns-clause-grows c =
    let old : ItemDraftValue = record { literals = c.self.inside.literals; numbers = c.self.inside.numbers } in
    let new : ItemDraftValue = record old { numbers = c.take_numbers.new.numbers } in
    subst (λ (v : ItemDraftValue). Grows v new) c.self.view_is (Grows-numbers old c.take_numbers.new.numbers c.take_numbers.ensures.grown)
