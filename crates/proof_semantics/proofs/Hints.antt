-- The answer to hints, one hint further, and that it is Ok exactly where they end in a conflict.
use Rattle.std.proofs.Common.{◌≡◌, ℕ, true, false, List, [], ◌∷◌, refl, ap, sym, ◌∙◌, ℤ, Option, None, Some, Result, Ok, Err}
use Rattle.std.specs.Prelude.{⊤}
use Rattle.std.specs.FinSet as literals
use Rattle.proof_semantics.specs.declared.step_refusal.StepRefusal.{StepRefusal}
use Rattle.proof_semantics.specs.declared.step_refusal.StepRefusal.TheVariants.{UnknownId, NotUnit, NoConflict}
use Rattle.proof_semantics.specs.Clauses.{Clause}
use Rattle.proof_semantics.specs.Logs.{LiteralSet, open_literals, EndsInConflict, hint_answer, held_answer, is_empty, hints_answer}

-- a literal joins the set
pub hints-unit : (held : ℕ → Option Clause) (set : LiteralSet) (hint next : ℕ) (hints : List ℕ) (l : ℤ) → held_answer set hint false (held hint) ≡ Ok (Some l)
    → hints_answer held set (hint ∷ next ∷ hints) ≡ hints_answer held (literals.insert set l) (next ∷ hints)
hints-unit held set hint next hints l e = rw (e, hints_answer) refl

-- a conflict at the last hint
pub hints-conflict : (held : ℕ → Option Clause) (set : LiteralSet) (hint : ℕ) → held_answer set hint true (held hint) ≡ Ok None → hints_answer held set (hint ∷ []) ≡ Ok tt
hints-conflict held set hint e = rw (e, hints_answer) refl

-- a refusal
pub hints-refused : (held : ℕ → Option Clause) (set : LiteralSet) (hint : ℕ) (hints : List ℕ) (refusal : StepRefusal) → held_answer set hint (is_empty hints) (held hint) ≡ Err refusal
    → hints_answer held set (hint ∷ hints) ≡ Err refusal
hints-refused held set hint hints refusal e = rw (e, hints_answer) refl

-- ---- answers and conflicts

no_refusal : (refusal : StepRefusal) (answer : Result ⊤ StepRefusal) → answer ≡ Ok tt → answer ≡ Err refusal → ⊥
no_refusal refusal answer h k = cc (h, k)

pub accepted-from : (held : ℕ → Option Clause) (hints : List ℕ) (set : LiteralSet) → EndsInConflict held set hints → hints_answer held set hints ≡ Ok tt
accepted-from held [] set h = absurd h
accepted-from held (hint ∷ []) set (clause, is, none) = hints-conflict held set hint (ap (held_answer set hint true) is ∙ ap (hint_answer hint true) none)
accepted-from held (hint ∷ next ∷ hints) set (clause, l, is, unit, rest) =
    hints-unit held set hint next hints l (ap (held_answer set hint false) is ∙ ap (hint_answer hint false) unit) ∙ accepted-from held (next ∷ hints) (literals.insert set l) rest

-- the last hint
last_conflict : (held : ℕ → Option Clause) (set : LiteralSet) (hint : ℕ) (o : Option Clause) → held hint ≡ o → hints_answer held set (hint ∷ []) ≡ Ok tt → EndsInConflict held set (hint ∷ [])
last_conflict held set hint None is e = absurd (no_refusal (UnknownId hint) _ e (hints-refused held set hint [] (UnknownId hint) (ap (held_answer set hint true) is)))
last_conflict held set hint (Some clause) is e = by_open (open_literals set clause) refl where
  by_open : (opened : List ℤ) → open_literals set clause ≡ opened → EndsInConflict held set (hint ∷ [])
  by_open [] none = (clause, is, none)
  by_open (l ∷ rest) some =
      absurd (no_refusal NoConflict _ e (hints-refused held set hint [] NoConflict (ap (held_answer set hint true) is ∙ ap (hint_answer hint true) some)))

-- a hint before the last, given what follows from the hints behind it
earlier_unit : (held : ℕ → Option Clause) (set : LiteralSet) (hint next : ℕ) (hints : List ℕ) (o : Option Clause) → held hint ≡ o → hints_answer held set (hint ∷ next ∷ hints) ≡ Ok tt
    → ((more : LiteralSet) → hints_answer held more (next ∷ hints) ≡ Ok tt → EndsInConflict held more (next ∷ hints)) → EndsInConflict held set (hint ∷ next ∷ hints)
earlier_unit held set hint next hints None is e rest =
    absurd (no_refusal (UnknownId hint) _ e (hints-refused held set hint (next ∷ hints) (UnknownId hint) (ap (held_answer set hint false) is)))
earlier_unit held set hint next hints (Some clause) is e rest = by_open (open_literals set clause) refl where
  by_open : (opened : List ℤ) → open_literals set clause ≡ opened → EndsInConflict held set (hint ∷ next ∷ hints)
  by_open [] none =
      absurd (no_refusal (NotUnit hint) _ e (hints-refused held set hint (next ∷ hints) (NotUnit hint) (ap (held_answer set hint false) is ∙ ap (hint_answer hint false) none)))
  by_open (l ∷ []) unit =
      let step = hints-unit held set hint next hints l (ap (held_answer set hint false) is ∙ ap (hint_answer hint false) unit) in
      (clause, l, is, unit, rest (literals.insert set l) (sym step ∙ e))
  by_open (l ∷ m ∷ more) two =
      absurd (no_refusal (NotUnit hint) _ e (hints-refused held set hint (next ∷ hints) (NotUnit hint) (ap (held_answer set hint false) is ∙ ap (hint_answer hint false) two)))

pub conflict-from : (held : ℕ → Option Clause) (hints : List ℕ) (set : LiteralSet) → hints_answer held set hints ≡ Ok tt → EndsInConflict held set hints
conflict-from held [] set e = absurd (no_refusal NoConflict _ e refl)
conflict-from held (hint ∷ []) set e = last_conflict held set hint (held hint) refl e
conflict-from held (hint ∷ next ∷ hints) set e = earlier_unit held set hint next hints (held hint) refl e (conflict-from held (next ∷ hints))
