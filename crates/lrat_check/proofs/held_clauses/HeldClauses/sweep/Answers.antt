use Rattle.std.proofs.Common.{ap, subst, sym, ◌∙◌}
use Rattle.proof_semantics.specs.Logs.{Held}
use Rattle.lrat_check.specs.HeldEntries.{HeldValue, held_in, AreInOrder}
use Rattle.lrat_check.proofs.HeldMaps.{order_left, held_in_left}
use Rattle.lrat_check.proofs.held_clauses.HeldClauses.sweep.Goals as goal

pub invariant_of-self : goal.invariant_of-self
invariant_of-self c =
    subst (λ e. AreInOrder e c.self.inside.last) (sym c.drop_ended.ensures) (order_left c.self.inside.entries.items c.self.inside.last c.self.invariant)

pub returns-then-self-len : goal.returns-then-self-len
returns-then-self-len c =
    let value : Held → HeldValue = λ h. record { held = h; last = c.self.inside.last } in
    ap (λ e. value (held_in e)) c.drop_ended.ensures ∙ ap value (held_in_left c.self.inside.entries.items) ∙ c.self.view_is
