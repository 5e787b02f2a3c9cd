use Rattle.std.proofs.Common.{sym, subst}
use Rattle.proof_parts.specs.Literals.{AreLiterals}
use Rattle.cnf_core.proofs.Drafts.{AreLiterals-at_hand}
use Rattle.cnf_core.proofs.item_draft.ItemDraft.step.Goals as goal

pub from_slice-requires : goal.from_slice-requires
from_slice-requires c = subst AreLiterals (sym c.as_slice.ensures) (AreLiterals-at_hand c.self.inside.literals c.self.invariant)
