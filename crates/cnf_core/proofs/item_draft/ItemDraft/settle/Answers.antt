use Rattle.std.proofs.Common.{sym, subst}
use Rattle.proof_parts.specs.Literals.{AreLiterals}
use Rattle.cnf_core.specs.Drafts.{whole}
use Rattle.cnf_core.proofs.Drafts.{AreLiterals-at_hand}
use Rattle.cnf_core.proofs.item_draft.ItemDraft.settle.Goals as goal

pub invariant_of-self : goal.invariant_of-self
invariant_of-self c = subst (λ d. AreLiterals (whole d)) (sym c.settle.ensures) (AreLiterals-at_hand c.self.inside.literals c.self.invariant)
