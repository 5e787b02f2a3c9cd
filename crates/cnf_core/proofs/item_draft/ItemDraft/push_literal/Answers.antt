use Rattle.std.proofs.Common.{w32, refl, subst}
use Rattle.std.proofs.lemmas.Int.{to_z-of_z}
use Rattle.cnf_core.specs.Drafts.{ItemDraftValue, Grows}
use Rattle.cnf_core.proofs.Drafts.{AreLiterals-push, Grows-push_literal}
use Rattle.cnf_core.proofs.item_draft.ItemDraft.push_literal.Goals as goal

pub invariant_of-self : goal.invariant_of-self
invariant_of-self c =
    AreLiterals-push c.push.result c.push.new.self c.self.inside.literals _ c.args.literal (to_z-of_z w32 c.args.literal c.ranges.literal) c.self.invariant c.requires c.push.ensures.ok
    c.push.ensures.err

pub returns-clause-grows : goal.returns-clause-grows
returns-clause-grows c =
    let old : ItemDraftValue = record { literals = c.self.inside.literals; numbers = c.self.inside.numbers } in
    let new : ItemDraftValue = record old { literals = c.push.new.self } in
    subst (λ (v : ItemDraftValue). Grows v new) c.self.view_is (Grows-push_literal c.push.result old new _ c.push.ensures.ok c.push.ensures.err refl)
