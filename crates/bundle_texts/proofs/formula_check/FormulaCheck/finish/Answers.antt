use Rattle.std.proofs.Common.{◌≡◌, ◌≢◌, ℕ, min, true, false, ◌<◌, length, sym, subst, arith}
use Rattle.std.specs.Prelude.{◌↔◌}
use Rattle.std.proofs.lemmas.Bool.{eqb-true, eq-eqb}
use Rattle.semantics.specs.Texts.{Bytes}
use Rattle.proof_semantics.specs.Formula.{dimacs_text}
use Rattle.file_reading.specs.Reading.{IsAllWanted}
use Rattle.bundle_texts.specs.declared.formula_check.FormulaCheck.TheInside.{Inside}
use Rattle.bundle_texts.specs.TextCheck.{TextCheck, room_at}
use Rattle.bundle_texts.specs.FormulaStanding.{check_view, StandsAt, Stands}
use Rattle.bundle_texts.proofs.FormulaChecks.{same_ends, differs}
use Rattle.bundle_texts.proofs.formula_check.FormulaCheck.finish.Goals as goal

same_content : (a : Inside) (v : TextCheck) (count : ℕ) → check_view a ≡ v → Stands a → a.is_same ≡ true → count ≡ min 1 (length a.rest)
    → (content : Bytes) → IsAllWanted content v.text v.room → (count ≡ 0) ↔ (content ≡ dimacs_text v.formula)
same_content a v count view stands is left =
    let same = subst (λ b. StandsAt b a.formula.now a.text.bytes a.rest) is stands in
    let going : 0 < room_at a.is_same = subst (λ b. 0 < room_at b) (sym is) (omega arith) in
    subst (λ (u : TextCheck). (content : Bytes) → IsAllWanted content u.text u.room → (count ≡ 0) ↔ (content ≡ dimacs_text u.formula)) view
    (λ content wanted. same_ends a.formula.now a.text.bytes a.rest content (room_at a.is_same) count same going left wanted)

other_content : (a : Inside) (v : TextCheck) → check_view a ≡ v → Stands a → a.is_same ≡ false
    → (content : Bytes) → IsAllWanted content v.text v.room → content ≢ dimacs_text v.formula
other_content a v view stands is =
    let never = subst (λ b. StandsAt b a.formula.now a.text.bytes a.rest) is stands in
    subst (λ (u : TextCheck). (content : Bytes) → IsAllWanted content u.text u.room → content ≢ dimacs_text u.formula) view
    (λ content wanted. differs a.formula.now a.text.bytes a.rest content (room_at a.is_same) never wanted)

pub returns-then-is_same : goal.returns-then-is_same
returns-then-is_same c content wanted =
    let told = same_content c.self.inside c.args.self c.fill.result c.self.view_is c.self.invariant c.if-is_same.true c.fill.ensures.count content wanted in
    ((λ h. told.0 (eqb-true c.fill.result 0 h)), λ h. eq-eqb c.fill.result 0 (told.1 h))

pub returns-else-is_same : goal.returns-else-is_same
returns-else-is_same c content wanted =
    ((λ h. cc), λ h. absurd (other_content c.self.inside c.args.self c.self.view_is c.self.invariant c.if-is_same.false content wanted h))
