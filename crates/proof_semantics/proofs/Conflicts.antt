-- Derivations and chains of conflicts go on.
use Rattle.std.proofs.Common.{◌≡◌, ℕ, suc, ◌+◌, ◌<◌, ◌≤◌, List, [], ◌∷◌, ◌++◌, take, length, refl, ap, subst, sym, ◌∙◌, arith, append_assoc, length-append, inl, inr, Option, None, Some}
use Rattle.std.specs.Prelude.{All}
use Rattle.std.specs.FinMap.{insert}
use Rattle.std.proofs.lemmas.Bool.{cases_lt}
use Rattle.std.proofs.lemmas.List.{append-nil, take-append-le, get_or-take, length-take}
use Rattle.std.proofs.lemmas.List.Elements.{All-contains, Contains-append_right, Contains-get_or}
use Rattle.std.proofs.Math.ListN.{get_or-append}
use Rattle.std.proofs.Math.Seq.{take-append_seam, get_or-append_seam}
use Rattle.proof_semantics.specs.declared.item.Item.TheVariants.{Add, Remove}
use Rattle.proof_semantics.specs.Clauses.{Clause, IsLiteralOf}
use Rattle.proof_semantics.specs.Formula.{Formula}
use Rattle.proof_semantics.specs.Logs.{StepValue, LogItem, Held, Derives, held_of, IsSoundFrom, AddsInTurn, last_added_after, IsDerivation}
use Rattle.proof_semantics.specs.Conflicts.{IsPartOf, IsNew, clause_at, added_clauses, clauses_with, IsConflictChain}
use Rattle.proof_semantics.specs.ConflictLaws.{IsNextStep, DerivationLaw, ConflictLaw}
use Rattle.proof_semantics.proofs.HeldClauses.{held_of-push}

-- ---- derivations

record GoesOn (variables : ℕ) (held : Held) (last : ℕ) (log : List LogItem) : Type 0 where
  sound : IsSoundFrom held last log
  in_turn : AddsInTurn variables last log

goes-on : (variables : ℕ) (log : List LogItem) (clauses : List Clause) (held : Held) (last : ℕ) (s : StepValue) → held ≡ held_of clauses → last ≡ length clauses
    → IsSoundFrom held last log → AddsInTurn variables last log → s.id ≡ last + length log + 1 → All (IsLiteralOf variables) s.literals
    → Derives (held_of (clauses ++ added_clauses log)) s → GoesOn variables held last (log ++ Add s ∷ [])
goes-on variables [] clauses held last s is at sound turn id literals derives =
    let same : held_of (clauses ++ []) ≡ held = ap held_of (append-nil clauses) ∙ sym is in
    record {
      sound = (omega (arith, id), subst (λ h. Derives h s) same derives, tt);
      in_turn = (omega (arith, id), literals, tt);
    }
goes-on variables (Add t ∷ log) clauses held last s is at (rises, here, sound) (next, ok, turn) id literals derives =
    let more : insert held t.id t.literals ≡ held_of (clauses ++ t.literals ∷ []) =
    ap (λ h. insert h t.id t.literals) is ∙ sym (held_of-push clauses t.id t.literals (next ∙ ap (λ n. n + 1) at)) in
    let rest = goes-on variables log (clauses ++ t.literals ∷ []) (insert held t.id t.literals) t.id s more (omega (arith, next, at, length-append clauses (t.literals ∷ [])))
    sound turn (omega (arith, id, next)) literals
    (subst (λ all. Derives (held_of all) s) (sym (append_assoc clauses (t.literals ∷ []) (added_clauses log))) derives) in
    record { sound = (rises, here, rest.sound); in_turn = (next, ok, rest.in_turn) }
goes-on variables (Remove ids ∷ log) clauses held last s is at sound turn id literals derives = absurd turn

derivation-next : (f : Formula) (log : List LogItem) (s : StepValue) → IsDerivation f log → IsNextStep f log s → IsDerivation f (log ++ Add s ∷ [])
derivation-next f log s h n =
    let on = goes-on f.variables log f.clauses (held_of f.clauses) (length f.clauses) s refl refl h.sound h.in_turn n.id n.literals n.derives in
    let id = n.id in
    let short = n.short in
    record { sound = on.sound; in_turn = on.in_turn; short = omega (arith, length-append log (Add s ∷ [])) }

last-pushed : (before : Option Clause) (log : List LogItem) (s : StepValue) → last_added_after before (log ++ Add s ∷ []) ≡ Some s.literals
last-pushed before [] s = refl
last-pushed before (Add t ∷ log) s = last-pushed (Some t.literals) log s
last-pushed before (Remove ids ∷ log) s = last-pushed before log s

pub derivation_law : DerivationLaw
derivation_law = record {
  next = derivation-next;
  refutes = λ f log s h n none.
      let on = derivation-next f log s h n in
      record { sound = on.sound; ends = last-pushed None log s ∙ ap Some none };
}

-- ---- chains

added-pushed : (log : List LogItem) (s : StepValue) → added_clauses (log ++ Add s ∷ []) ≡ added_clauses log ++ s.literals ∷ []
added-pushed [] s = refl
added-pushed (Add t ∷ log) s = ap (λ rest. t.literals ∷ rest) (added-pushed log s)
added-pushed (Remove ids ∷ log) s = added-pushed log s

added-counted : (variables last : ℕ) (log : List LogItem) → AddsInTurn variables last log → length (added_clauses log) ≡ length log
added-counted variables last [] h = refl
added-counted variables last (Add t ∷ log) h = ap suc (added-counted variables t.id log h.2)
added-counted variables last (Remove ids ∷ log) h = absurd h

-- each step of a derivation adds a clause
pub length-added : (f : Formula) (log : List LogItem) → IsDerivation f log → length (added_clauses log) ≡ length log
length-added f log h = added-counted f.variables (length f.clauses) log h.in_turn

-- the clauses with one step more
pub clauses_with-pushed : (clauses : List Clause) (log : List LogItem) (s : StepValue) → clauses_with clauses (log ++ Add s ∷ []) ≡ clauses_with clauses log ++ s.literals ∷ []
clauses_with-pushed clauses log s = ap (λ added. clauses ++ added) (added-pushed log s) ∙ sym (append_assoc clauses (added_clauses log) (s.literals ∷ []))

-- what is new behind the first clauses, with one clause more
new-pushed : (formula added : List Clause) (C : Clause) (k : ℕ) → k < length added → IsNew (formula ++ take k added) (clause_at added k)
    → IsNew (formula ++ take k (added ++ C ∷ [])) (clause_at (added ++ C ∷ []) k)
new-pushed formula added C k low h =
    let before : take k (added ++ C ∷ []) ≡ take k added = take-append-le k added (C ∷ []) (omega arith) in
    let here : clause_at (added ++ C ∷ []) k ≡ clause_at added k = get_or-append added (C ∷ []) [] k low in
    rw (before, here) h

new-last : (formula added : List Clause) (C : Clause) (k : ℕ) → k ≡ length added → IsNew (formula ++ added) C → IsNew (formula ++ take k (added ++ C ∷ [])) (clause_at (added ++ C ∷ []) k)
new-last formula added C k last h =
    let before : take (length added) (added ++ C ∷ []) ≡ added = take-append_seam added (C ∷ []) in
    let here : clause_at (added ++ C ∷ []) (length added) ≡ C = get_or-append_seam added C [] [] in
    rw (last, before, here) h

chain-next : (f : Formula) (merged conflicts : ℕ) (log : List LogItem) (s : StepValue) → IsConflictChain f merged conflicts log → IsNextStep f log s
    → IsNew (clauses_with f.clauses log) s.literals → IsConflictChain f merged (conflicts + 1) (log ++ Add s ∷ [])
chain-next f merged conflicts log s h n new =
    let count = h.count in
    let all = length-added f log h.derivation in
    record {
      derivation = derivation-next f log s h.derivation n;
      count = omega (arith, length-append log (Add s ∷ []));
      new = λ k from within. rw (added-pushed log s) (elim (cases_lt k (length log)) [
        | inl low ↦ new-pushed f.clauses (added_clauses log) s.literals k (omega arith) (h.new k from (omega arith))
        | inr high ↦ new-last f.clauses (added_clauses log) s.literals k (omega arith) new
      ]);
    }

chain-differ : (f : Formula) (merged conflicts : ℕ) (log : List LogItem) → IsConflictChain f merged conflicts log → (j k : ℕ) → j < k → merged ≤ k → k < merged + conflicts
    → ¬ IsPartOf (clause_at (added_clauses log) j) (clause_at (added_clauses log) k)
chain-differ f merged conflicts log h j k low from within =
    let added : List Clause = added_clauses log in
    let count = h.count in
    let all = length-added f log h.derivation in
    let inside : j < length (take k added) = omega (arith, length-take k added) in
    let here : clause_at (take k added) j ≡ clause_at added j = get_or-take k added j [] low in
    subst (λ part. ¬ IsPartOf part (clause_at added k)) here
    (All-contains (λ part. ¬ IsPartOf part (clause_at added k)) (f.clauses ++ take k added) (clause_at (take k added) j) (h.new k from within).apart
    (Contains-append_right f.clauses (take k added) (clause_at (take k added) j) (Contains-get_or (take k added) j [] inside)))

pub conflict_law : ConflictLaw
conflict_law = record {
  none = λ f log h. record { derivation = h; count = omega arith; new = λ k from within. absurd (omega arith) };
  next = chain-next;
  differ = chain-differ;
}
