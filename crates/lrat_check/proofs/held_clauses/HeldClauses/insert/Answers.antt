use Rattle.std.proofs.Common.{◌≡◌, ◌<◌, [], ◌∷◌, ◌++◌, Some, refl, ap, ◌∙◌, rules, arith}
use Rattle.std.specs.FinMap as map
use Rattle.proof_semantics.specs.Logs.{Held}
use Rattle.lrat_check.specs.declared.held_clauses.Entry.{Entry}
use Rattle.lrat_check.specs.HeldEntries.{HeldValue, held_in}
use Rattle.lrat_check.proofs.HeldMaps.{inserted}
use Rattle.lrat_check.proofs.held_clauses.HeldClauses.insert.Goals as goal

pub returns-clause-ok : goal.returns-clause-ok
returns-clause-ok c =
    let es = c.self.inside.entries.items in
    let id = c.args.id in
    let entry : Entry = record { id = id; clause = Some c.args.clause } in
    let value : Held → HeldValue = λ h. record { held = h; last = id } in
    let is = c.self.view_is ∙ c.sweep.ensures in
    let after : c.self.inside.last < id = omega (arith, c.requires, ap (λ (v : HeldValue). v.last) is) in
    let pushed : c.push.new.self.items ≡ es ++ entry ∷ [] = search rules in
    ap (λ e. value (held_in e)) pushed ∙ ap value (inserted es c.self.inside.last entry c.args.clause c.self.invariant after refl)
    ∙ ap (λ (v : HeldValue). value (map.insert v.held id c.args.clause)) is
