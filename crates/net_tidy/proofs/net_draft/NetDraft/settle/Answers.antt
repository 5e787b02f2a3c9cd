use Rattle.std.proofs.Common.{◌≡◌, None, subst, sym}
use Rattle.net_tidy.specs.Rule.{rule_at}
use Rattle.net_tidy.specs.Places.{DraftValue, Stays, IsFlaggedIn}
use Rattle.net_tidy.proofs.Flagged.{flagged-settled}
use Rattle.net_tidy.proofs.net_draft.NetDraft.settle.Goals as goal

pub invariant_of-self : goal.invariant_of-self
invariant_of-self c = (
  subst (IsFlaggedIn _) (sym c.take_down.ensures)
      (flagged-settled _ _ _ c.self.invariant.0 (subst (λ (D : DraftValue). Stays D.gone c.args.t → rule_at D.net c.args.t ≡ None) (sym c.self.view_is) c.requires.none)),
  c.self.invariant.1,
  c.self.invariant.2,
)
