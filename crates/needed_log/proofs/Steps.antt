-- What stands at a place of a derivation: a step that goes on from the items before it, and whose hints are ids of the formula or of earlier additions.
use Rattle.std.proofs.Common.{◌≡◌, ℕ, zero, suc, ◌+◌, ◌<◌, ◌≤◌, ◌==◌, Bool, true, false, cond, List, [], ◌∷◌, ◌++◌}
use Rattle.std.proofs.Common.{length, get_or, take, refl, ap, subst, sym, ◌∙◌, inl, inr, arith, append_assoc, length-append, Option, Some}
use Rattle.std.specs.Prelude.{All, ◌⊎◌}
use Rattle.std.specs.List.{Contains}
use Rattle.std.specs.Cmp.{nat_cmp_total, unsigned_tied}
use Rattle.std.specs.FinMap.{get, insert, empty, get-insert, get-empty}
use Rattle.std.specs.FinSet as literals
use Rattle.std.specs.Ordering.{nat_cmp}
use Rattle.std.proofs.lemmas.Bool.{eqb-true}
use Rattle.std.proofs.lemmas.List.{append-nil, length-take-le}
use Rattle.std.proofs.lemmas.List.Elements.{All-nil, All-cons, All-weaker, All-contains}
use Rattle.proof_semantics.specs.declared.item.Item.TheVariants.{Add, Remove}
use Rattle.proof_semantics.specs.Clauses.{Clause, IsLiteralOf}
use Rattle.proof_semantics.specs.Formula.{Formula}
use Rattle.proof_semantics.specs.Logs.{StepValue, LogItem, Held, LiteralSet, EndsInConflict, Derives, IsSoundFrom, held_from, held_of, last_added_after, AddsInTurn, IsDerivation}
use Rattle.proof_semantics.specs.Conflicts.{added_clauses, clauses_with}
use Rattle.proof_semantics.specs.ConflictLaws.{IsNextStep}
use Rattle.proof_semantics.proofs.HeldClauses.{held_of-push}
use Rattle.needed_log.specs.Needed.{hints_at, hints_of}
use Rattle.needed_log.specs.Marks.{AreWithin}
use Rattle.needed_log.specs.Renumbered.{ids_of}

-- ---- the ids that are held

held_from-within : (clauses : List Clause) (held : Held) (next id : ℕ) (clause : Clause) → get (held_from held next clauses) id ≡ Some clause
    → (get held id ≡ Some clause) ⊎ ((next ≤ id) × (id < next + length clauses))
held_from-within [] held next id clause e = inl e
held_from-within (c ∷ clauses) held next id clause e = by_rest (held_from-within clauses (insert held next c) (suc next) id clause e) where
  at_test : (t : Bool) → (id == next) ≡ t → cond t (Some c) (get held id) ≡ Some clause → (get held id ≡ Some clause) ⊎ ((next ≤ id) × (id < next + suc (length clauses)))
  at_test true same f = let is = eqb-true id next same in inr (omega (arith, is), omega (arith, is))
  at_test false same f = inl f

  by_rest : (get (insert held next c) id ≡ Some clause) ⊎ ((suc next ≤ id) × (id < suc next + length clauses)) → (get held id ≡ Some clause) ⊎ ((next ≤ id) × (id < next + suc (length clauses)))
  by_rest (inl f) = at_test (id == next) refl (sym (get-insert nat_cmp_total held next c id ∙ ap (λ b. cond b (Some c) (get held id)) (unsigned_tied id next)) ∙ f)
  by_rest (inr (low, high)) = inr (omega (arith, low), omega (arith, high))

-- only ids from 1 on, one for each clause, are held
pub held_of-within : (clauses : List Clause) (id : ℕ) (clause : Clause) → get (held_of clauses) id ≡ Some clause → (0 < id) × (id ≤ length clauses)
held_of-within clauses id clause e = by_case (held_from-within clauses empty 1 id clause e) where
  by_case : (get (empty {R = nat_cmp}) id ≡ Some clause) ⊎ ((1 ≤ id) × (id < 1 + length clauses)) → (0 < id) × (id ≤ length clauses)
  by_case (inl f) = let none = get-empty {X = Clause} nat_cmp id in cc
  by_case (inr (low, high)) = (omega (arith, low), omega (arith, high))

-- each hint of a conflict is held
hints_held : (P : ℕ → Type 0) (held : ℕ → Option Clause) → ((id : ℕ) (clause : Clause) → held id ≡ Some clause → P id) → (hints : List ℕ) (set : LiteralSet)
    → EndsInConflict held set hints → All P hints
hints_held P held h [] set e = absurd e
hints_held P held h (hint ∷ []) set (clause, is, none) = All-cons P hint [] (h hint clause is) (All-nil P)
hints_held P held h (hint ∷ next ∷ hints) set (clause, l, is, unit, rest) =
    All-cons P hint (next ∷ hints) (h hint clause is) (hints_held P held h (next ∷ hints) (literals.insert set l) rest)

-- ---- the clauses that are added

-- the clause of an addition
abbrev pub clause_of : LogItem → Clause
clause_of (Add s) = s.literals
clause_of (Remove ids) = []

pub added_at : (variables last : ℕ) (log : List LogItem) (k : ℕ) (d : LogItem) → AddsInTurn variables last log → k < length log → get_or (added_clauses log) k [] ≡ clause_of (get_or log k d)
added_at variables last [] k d h within = absurd (omega (arith, within))
added_at variables last (Remove ids ∷ log) k d h within = absurd h
added_at variables last (Add s ∷ log) zero d h within = refl
added_at variables last (Add s ∷ log) (suc k) d h within = added_at variables s.id log k d h.2 (omega (arith, within))

pub added_counted : (variables last : ℕ) (log : List LogItem) → AddsInTurn variables last log → length (added_clauses log) ≡ length log
added_counted variables last [] h = refl
added_counted variables last (Remove ids ∷ log) h = absurd h
added_counted variables last (Add s ∷ log) h = ap suc (added_counted variables s.id log h.2)

pub take_in_turn : (variables last : ℕ) (log : List LogItem) (k : ℕ) → AddsInTurn variables last log → AddsInTurn variables last (take k log)
take_in_turn variables last log zero h = tt
take_in_turn variables last [] (suc k) h = tt
take_in_turn variables last (Remove ids ∷ log) (suc k) h = absurd h
take_in_turn variables last (Add s ∷ log) (suc k) h = (h.0, h.1, take_in_turn variables s.id log k h.2)

-- the last addition is the clause at the last place
pub last_at : (variables last : ℕ) (before : Option Clause) (log : List LogItem) (k : ℕ) (d : LogItem) → AddsInTurn variables last log → suc k ≡ length log
    → last_added_after before log ≡ Some (clause_of (get_or log k d))
last_at variables last before [] k d h e = absurd (omega (arith, e))
last_at variables last before (Remove ids ∷ log) k d h e = absurd h
last_at variables last before (Add s ∷ []) zero d h e = refl
last_at variables last before (Add s ∷ []) (suc k) d h e = absurd (omega (arith, e))
last_at variables last before (Add s ∷ t ∷ log) zero d h e = absurd (omega (arith, e))
last_at variables last before (Add s ∷ t ∷ log) (suc k) d h e = last_at variables s.id (Some s.literals) (t ∷ log) k d h.2 (omega (arith, e))

-- ---- steps

pub record IsStepAt (f : Formula) (log : List LogItem) (k : ℕ) (s : StepValue) : Type 0 where
  pub is : (d : LogItem) → get_or log k d ≡ Add s
  pub next : IsNextStep f (take k log) s

record Follows (variables : ℕ) (clauses : List Clause) (last : ℕ) (log : List LogItem) (k : ℕ) (s : StepValue) : Type 0 where
  is : (d : LogItem) → get_or log k d ≡ Add s
  id : s.id ≡ last + k + 1
  literals : All (IsLiteralOf variables) s.literals
  derives : Derives (held_of (clauses ++ added_clauses (take k log))) s

follows : (variables : ℕ) (log : List LogItem) (clauses : List Clause) (held : Held) (last k : ℕ) → held ≡ held_of clauses → last ≡ length clauses
    → IsSoundFrom held last log → AddsInTurn variables last log → k < length log → (s : StepValue) × Follows variables clauses last log k s
follows variables [] clauses held last k is at sound turn within = absurd (omega (arith, within))
follows variables (Remove ids ∷ log) clauses held last k is at sound turn within = absurd turn
follows variables (Add t ∷ log) clauses held last zero is at (rises, here, sound) (next, ok, turn) within =
    let same : held_of (clauses ++ []) ≡ held = ap held_of (append-nil clauses) ∙ sym is in
    (t, record { is = λ d. refl; id = omega (arith, next); literals = ok; derives = subst (λ h. Derives h t) (sym same) here })
follows variables (Add t ∷ log) clauses held last (suc k) is at (rises, here, sound) (next, ok, turn) within =
    let more : insert held t.id t.literals ≡ held_of (clauses ++ t.literals ∷ []) =
    ap (λ h. insert h t.id t.literals) is ∙ sym (held_of-push clauses t.id t.literals (next ∙ ap (λ n. n + 1) at)) in
    let rest = follows variables log (clauses ++ t.literals ∷ []) (insert held t.id t.literals) t.id k more (omega (arith, next, at, length-append clauses (t.literals ∷ []))) sound turn
    (omega (arith, within)) in
    let found = rest.1 in
    let id = found.id in (
      rest.0,
      record {
        is = found.is;
        id = omega (arith, id, next);
        literals = found.literals;
        derives = subst (λ all. Derives (held_of all) rest.0) (append_assoc clauses (t.literals ∷ []) (added_clauses (take k log))) found.derives;
      },
    )

pub step_at : (f : Formula) (log : List LogItem) (k : ℕ) → IsDerivation f log → k < length log → (s : StepValue) × IsStepAt f log k s
step_at f log k h within =
    let found = follows f.variables log f.clauses (held_of f.clauses) (length f.clauses) k refl refl h.sound h.in_turn within in
    let at = found.1 in
    let id = at.id in
    let short = h.short in
    let before : length (take k log) ≡ k = length-take-le k log (omega (arith, within)) in
    (found.0, record { is = at.is; next = record { id = omega (arith, id, before); short = omega (arith, id, short, within); literals = at.literals; derives = at.derives } })

pub id_at : (f : Formula) (log : List LogItem) (k : ℕ) (s : StepValue) → k < length log → IsStepAt f log k s → s.id ≡ length f.clauses + 1 + k
id_at f log k s within h = let id = h.next.id in let before : length (take k log) ≡ k = length-take-le k log (omega (arith, within)) in omega (arith, id, before)

pub length_before : (f : Formula) (log : List LogItem) (k : ℕ) → IsDerivation f log → k < length log → length (clauses_with f.clauses (take k log)) ≡ length f.clauses + k
length_before f log k h within =
    length-append f.clauses (added_clauses (take k log))
    ∙ ap (λ n. length f.clauses + n)
    (added_counted f.variables (length f.clauses) (take k log) (take_in_turn f.variables (length f.clauses) log k h.in_turn) ∙ length-take-le k log (omega (arith, within)))

pub hints_before : (f : Formula) (log : List LogItem) (k : ℕ) (s : StepValue) → IsDerivation f log → k < length log → IsStepAt f log k s → AreWithin (length f.clauses) k s.hints
hints_before f log k s h within at =
    let all = length_before f log k h within in
    hints_held (λ id. id ≤ length f.clauses + k) (get (held_of (clauses_with f.clauses (take k log))))
    (λ id clause e. let low = (held_of-within (clauses_with f.clauses (take k log)) id clause e).1 in omega (arith, low, all)) s.hints _ at.next.derives

-- the hints of an item are ids of the formula or of earlier additions
pub hint_before : (f : Formula) (log : List LogItem) (k id : ℕ) → IsDerivation f log → k < length log → Contains (hints_at log k) id → id ≤ length f.clauses + k
hint_before f log k id h within m =
    let found = step_at f log k h within in
    All-contains (λ id. id ≤ length f.clauses + k) found.0.hints id (hints_before f log k found.0 h within found.1)
    (subst (λ item. Contains (hints_of item) id) (found.1.is (Remove [])) m)

pub hints_within : (f : Formula) (log : List LogItem) (k : ℕ) (d : LogItem) → IsDerivation f log → k < length log → AreWithin (length f.clauses) (length log) (hints_of (get_or log k d))
hints_within f log k d h within =
    let found = step_at f log k h within in
    let before = hints_before f log k found.0 h within found.1 in
    subst (λ item. AreWithin (length f.clauses) (length log) (hints_of item)) (sym (found.1.is d))
    (All-weaker (λ id. id ≤ length f.clauses + k) (λ id. id ≤ length f.clauses + length log) (λ id low. omega (arith, low, within)) found.0.hints before)

pub ids_within : (f : Formula) (log : List LogItem) (k : ℕ) (d : LogItem) → IsDerivation f log → k < length log → AreWithin (length f.clauses) (length log) (ids_of (get_or log k d))
ids_within f log k d h within =
    let found = step_at f log k h within in
    let before = hints_before f log k found.0 h within found.1 in
    let id = id_at f log k found.0 within found.1 in
    subst (λ item. AreWithin (length f.clauses) (length log) (ids_of item)) (sym (found.1.is d))
    (All-cons (λ id. id ≤ length f.clauses + length log) found.0.id found.0.hints (omega (arith, id, within))
    (All-weaker (λ id. id ≤ length f.clauses + k) (λ id. id ≤ length f.clauses + length log) (λ id low. omega (arith, low, within)) found.0.hints before))
