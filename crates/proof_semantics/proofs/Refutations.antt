-- What a step derives is true wherever the held clauses are, so a refuted formula has no satisfying assignment.
use Rattle.std.proofs.Common.{◌≡◌, ℕ, zero, suc, ◌<◌, Bool, true, false, cond, not, ◌||◌, List, [], ◌∷◌, length, refl, ap, subst, sym, ◌∙◌, inl, inr, ℤ, pos, negsuc, neg_ℤ, Option, None, Some, Ok}
use Rattle.std.specs.Prelude.{filter}
use Rattle.std.specs.Ordering.{int_eq, int_cmp, nat_cmp, eq_by_cmp}
use Rattle.std.specs.FinMap.{get, insert, remove, empty, get-insert, get-remove, get-empty}
use Rattle.std.specs.Cmp.{nat_cmp_total, int_cmp_total}
use Rattle.std.specs.FinSet as literals
use Rattle.std.specs.FinSet.{contains-insert, contains-empty}
use Rattle.std.proofs.Math.IntN.{neg_ℤ-neg_ℤ}
use Rattle.std.proofs.lemmas.Bool.Decides.{Decides-int_eq}
use Rattle.std.proofs.lemmas.Bool.{or_parts, and_parts, not-true, false_from_ne_true, true_from_ne_false, cases_lt, lt-leb, le-leb}
use Rattle.semantics.specs.Value.{Assignment}
use Rattle.proof_semantics.specs.declared.item.Item.TheVariants.{Add, Remove}
use Rattle.proof_semantics.specs.Clauses.{Clause, literal_value, clause_value, Satisfies, IsUnsatisfiable}
use Rattle.proof_semantics.specs.NetClauses.{goal_clauses}
use Rattle.proof_semantics.specs.Logs.{Held, LiteralSet, with_negations, is_false_in, open_literals, EndsInConflict, Derives, step_answer, StepValue, LogItem, removed_from, IsSoundFrom, IsSoundLog}
use Rattle.proof_semantics.specs.Logs.{last_added_after, last_added, held_from, held_of, Refutes}
use Rattle.proof_semantics.specs.Laws.{AllHeldTrue, RefutationLaw}
use Rattle.proof_semantics.proofs.TruthValues.{or_false}
use Rattle.proof_semantics.proofs.Hints.{accepted-from, conflict-from}
use Rattle.proof_semantics.proofs.NetValues.{goal_law}
use Rattle.proof_semantics.proofs.TableClauses.{with_literals-value}

-- the opposite of each literal of the set is false
unfoldable pub NegationsFail : Assignment → LiteralSet → Type 0
NegationsFail a set = (l : ℤ) → literals.contains set l ≡ true → literal_value a (neg_ℤ l) ≡ false

pub negation_fails : (a : Assignment) (l : ℤ) → literal_value a l ≡ true → literal_value a (neg_ℤ l) ≡ false
negation_fails a (pos zero) h = cc
negation_fails a (pos (suc k)) h = ap not h
negation_fails a (negsuc k) h = not-true (a (suc k)) h

pub false_in-fails : (a : Assignment) (set : LiteralSet) (l : ℤ) → NegationsFail a set → is_false_in set l ≡ true → literal_value a l ≡ false
unfolding NegationsFail
false_in-fails a set l h e = subst (λ x. literal_value a x ≡ false) (neg_ℤ-neg_ℤ l) (h (neg_ℤ l) e)

filter-value : (a : Assignment) (set : LiteralSet) → NegationsFail a set → (clause : Clause) → clause_value a (filter (λ l. not (is_false_in set l)) clause) ≡ clause_value a clause
filter-value a set h [] = refl
filter-value a set h (l ∷ clause) = at_test (is_false_in set l) refl (filter-value a set h clause) where
  at_test : (t : Bool) → is_false_in set l ≡ t → clause_value a (filter (λ y. not (is_false_in set y)) clause) ≡ clause_value a clause
      → clause_value a (cond (not t) (l ∷ filter (λ y. not (is_false_in set y)) clause) (filter (λ y. not (is_false_in set y)) clause)) ≡ clause_value a (l ∷ clause)
  at_test true e rest = let fails = false_in-fails a set l h e in rw fails rest
  at_test false e rest = ap (λ b. literal_value a l || b) rest

open_literals-value : (a : Assignment) (set : LiteralSet) → NegationsFail a set → (clause : Clause) → clause_value a (open_literals set clause) ≡ clause_value a clause
open_literals-value a set h clause = with_literals-value a [] (filter (λ l. not (is_false_in set l)) clause) ∙ filter-value a set h clause

pub NegationsFail-insert : (a : Assignment) (set : LiteralSet) (l : ℤ) → NegationsFail a set → literal_value a (neg_ℤ l) ≡ false → NegationsFail a (literals.insert set l)
unfolding NegationsFail
NegationsFail-insert a set l h k q e = at_test (int_eq q l) refl (sym (contains-insert int_cmp_total set l q) ∙ e) where
  at_test : (t : Bool) → int_eq q l ≡ t → (t || literals.contains set q) ≡ true → literal_value a (neg_ℤ q) ≡ false
  at_test true same m = let is : q ≡ l = (Decides-int_eq q l).0 same in subst (λ x. literal_value a (neg_ℤ x) ≡ false) (sym is) k
  at_test false same m = h q m

-- where the held clauses are true and the negations of the set's literals are false, no hints end in a conflict
no_conflict : (a : Assignment) (held : ℕ → Option Clause) → ((id : ℕ) (clause : Clause) → held id ≡ Some clause → clause_value a clause ≡ true) → (hints : List ℕ) (set : LiteralSet)
    → NegationsFail a set → EndsInConflict held set hints → ⊥
no_conflict a held all [] set h e = e
no_conflict a held all (hint ∷ []) set h (clause, is, none) =
    let value : false ≡ true = ap (clause_value a) (sym none) ∙ open_literals-value a set h clause ∙ all hint clause is in cc
no_conflict a held all (hint ∷ next ∷ hints) set h (clause, l, is, unit, rest) =
    let value : literal_value a l ≡ true = sym (or_false (literal_value a l)) ∙ ap (clause_value a) (sym unit) ∙ open_literals-value a set h clause ∙ all hint clause is in
    no_conflict a held all (next ∷ hints) (literals.insert set l) (NegationsFail-insert a set l h (negation_fails a l value)) rest

pub negations-fail : (a : Assignment) (clause : Clause) (set : LiteralSet) → NegationsFail a set → clause_value a clause ≡ false → NegationsFail a (with_negations set clause)
negations-fail a [] set h e = h
negations-fail a (l ∷ clause) set h e =
    let both = or_parts _ _ e in
    let twice : literal_value a (neg_ℤ (neg_ℤ l)) ≡ false = subst (λ x. literal_value a x ≡ false) (sym (neg_ℤ-neg_ℤ l)) both.0 in
    negations-fail a clause (literals.insert set (neg_ℤ l)) (NegationsFail-insert a set (neg_ℤ l) h twice) both.1

pub none-fails : (a : Assignment) → NegationsFail a literals.empty
unfolding NegationsFail
none-fails a q e = let none = contains-empty int_cmp q in cc

pub derives_sound : (a : Assignment) (held : Held) (s : StepValue) → AllHeldTrue a held
    → Derives held s → clause_value a s.literals ≡ true
derives_sound a held s all d = true_from_ne_false _
    (λ fails. no_conflict a (get held) all s.hints (with_negations literals.empty s.literals) (negations-fail a s.literals literals.empty (none-fails a) fails) d)

AllHeldTrue-insert : (a : Assignment) (held : Held) (id : ℕ) (clause : Clause) → AllHeldTrue a held → clause_value a clause ≡ true → AllHeldTrue a (insert held id clause)
AllHeldTrue-insert a held id clause h k q c e = at_test (eq_by_cmp nat_cmp q id) (sym (get-insert nat_cmp_total held id clause q) ∙ e) where
  at_test : (t : Bool) → cond t (Some clause) (get held q) ≡ Some c → clause_value a c ≡ true
  at_test true e' = let same : clause ≡ c = cc in subst (λ x. clause_value a x ≡ true) same k
  at_test false e' = h q c e'

AllHeldTrue-remove : (a : Assignment) (held : Held) (id : ℕ) → AllHeldTrue a held → AllHeldTrue a (remove held id)
AllHeldTrue-remove a held id h q c e = at_test (eq_by_cmp nat_cmp q id) (sym (get-remove nat_cmp_total held id q) ∙ e) where
  at_test : (t : Bool) → cond t None (get held q) ≡ Some c → clause_value a c ≡ true
  at_test true e' = cc
  at_test false e' = h q c e'

AllHeldTrue-removed_from : (a : Assignment) (ids : List ℕ) (held : Held) → AllHeldTrue a held → AllHeldTrue a (removed_from held ids)
AllHeldTrue-removed_from a [] held h = h
AllHeldTrue-removed_from a (id ∷ ids) held h = AllHeldTrue-removed_from a ids (remove held id) (AllHeldTrue-remove a held id h)

AllHeldTrue-from : (a : Assignment) (clauses : List Clause) (held : Held) (next : ℕ) → AllHeldTrue a held → Satisfies a clauses → AllHeldTrue a (held_from held next clauses)
AllHeldTrue-from a [] held next h k = h
AllHeldTrue-from a (clause ∷ clauses) held next h k =
    let both = and_parts _ _ k in
    AllHeldTrue-from a clauses (insert held next clause) (suc next) (AllHeldTrue-insert a held next clause h both.0) both.1

sound-true : (a : Assignment) (log : List LogItem) (held : Held) (last : ℕ) (before : Option Clause) → AllHeldTrue a held
    → ((clause : Clause) → before ≡ Some clause → clause_value a clause ≡ true) → IsSoundFrom held last log
    → (clause : Clause) → last_added_after before log ≡ Some clause → clause_value a clause ≡ true
sound-true a [] held last before h k sound clause e = k clause e
sound-true a (Add s ∷ log) held last before h k sound clause e =
    let here = derives_sound a held s h sound.1 in
    sound-true a log (insert held s.id s.literals) s.id (Some s.literals) (AllHeldTrue-insert a held s.id s.literals h here)
    (λ c same. let is : s.literals ≡ c = cc in subst (λ x. clause_value a x ≡ true) is here) sound.2 clause e
sound-true a (Remove ids ∷ log) held last before h k sound clause e =
    sound-true a log (removed_from held ids) last before (AllHeldTrue-removed_from a ids held h) k sound clause e

pub added_true : (a : Assignment) (formula : List Clause) (log : List LogItem) (clause : Clause) → Satisfies a formula → IsSoundLog formula log → last_added log ≡ Some clause
    → clause_value a clause ≡ true
added_true a formula log clause all sound e =
    let start : AllHeldTrue a empty = λ id clause e. let none = get-empty {X = Clause} nat_cmp id in cc in
    let held = AllHeldTrue-from a formula empty 1 start all in
    sound-true a log (held_of formula) (length formula) None held (λ clause e. cc) sound clause e

pub refutes_sound : (formula : List Clause) (log : List LogItem) → Refutes formula log → IsUnsatisfiable formula
refutes_sound formula log r a all = let ends = added_true a formula log [] all r.sound r.ends in cc

accepted_rises : (held : Held) (last : ℕ) (s : StepValue) → step_answer held last s ≡ Ok tt → (last < s.id) × Derives held s
accepted_rises held last s e =
    elim (cases_lt last s.id) [
      | inl low ↦ (low, conflict-from (get held) s.hints (with_negations literals.empty s.literals) (rw (lt-leb s.id last low) at e))
      | inr high ↦ let refused = rw (le-leb s.id last high) at e in let no : ⊥ = cc (refused) in absurd no
    ]

rising_accepted : (held : Held) (last : ℕ) (s : StepValue) → last < s.id → Derives held s → step_answer held last s ≡ Ok tt
rising_accepted held last s low d = rw (lt-leb s.id last low) (accepted-from (get held) s.hints (with_negations literals.empty s.literals) d)

pub refutation_law : RefutationLaw
refutation_law = record {
  accepted = λ held last s. (accepted_rises held last s, λ h. rising_accepted held last s h.0 h.1);
  step = derives_sound;
  added = added_true;
  refuted = refutes_sound;
  goal = λ n tables signal log h within r x width.
      false_from_ne_true _ (λ e.
      let model = (goal_law n tables signal h within).1 (x, width, e) in
      refutes_sound (goal_clauses n tables signal) log r model.0 model.1);
}
