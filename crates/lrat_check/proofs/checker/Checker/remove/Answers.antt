use Rattle.std.proofs.Common.{◌≡◌, ◌∷◌, ◌++◌, [], subst, sym, rules}
use Rattle.proof_semantics.specs.declared.item.Item.TheVariants.{Remove}
use Rattle.lrat_check.specs.Checker.{CheckerValue, removed, StandsAfter}
use Rattle.lrat_check.proofs.Standing.{stands_removed}
use Rattle.lrat_check.proofs.checker.Checker.remove.Goals as goal

pub returns-clause-stands : goal.returns-clause-stands
returns-clause-stands c formula log h =
    let left : CheckerValue = record { held = c.remove_all.new.self.held; last = c.remove_all.new.self.last; done = c.self.inside.done } in
    let is : left ≡ removed c.args.self.now c.args.ids.now = search rules in
    subst (StandsAfter formula (log ++ Remove c.args.ids.now ∷ [])) (sym is) (stands_removed formula log c.args.self.now c.args.ids.now h)
