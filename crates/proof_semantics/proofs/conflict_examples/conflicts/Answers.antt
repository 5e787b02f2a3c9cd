-- by computation, and by what is held in a map and what stands in a set
use Rattle.std.proofs.Common.{◌≡◌, ℕ, zero, suc, true, false, ◌++◌, refl, ap, sym, ◌∙◌, arith, List, [], ◌∷◌, get_or, ℤ, pos, neg_ℤ, Ok}
use Rattle.std.specs.Prelude.{All}
use Rattle.std.specs.Cmp.{nat_cmp_total, int_cmp_total}
use Rattle.std.specs.Ordering.{int_cmp, int_eq}
use Rattle.std.specs.List.{Contains, list_all, AllByRecursion}
use Rattle.std.specs.FinSet as literals
use Rattle.std.specs.FinSet.{contains-insert, contains-empty}
use Rattle.std.specs.FinMap.{get, get-insert}
use Rattle.std.proofs.lemmas.Bool.Decides.{Decides-int_eq}
use Rattle.std.proofs.lemmas.List.Elements.{All-nil, All-contains_itself, All-from_recursion, All-weaker, Contains-append_left}
use Rattle.std.proofs.lemmas.List.Folds.{list_any_at}
use Rattle.std.proofs.lemmas.List.Sums.{list_all-from_AllPass}
use Rattle.proof_semantics.specs.declared.item.Item.TheVariants.{Add}
use Rattle.proof_semantics.specs.Clauses.{Clause, IsLiteralOf, has_literal}
use Rattle.proof_semantics.specs.Logs.{StepValue, Held, held_of, with_negations, hints_answer, IsDerivation}
use Rattle.semantics.specs.Examples.{minus}
use Rattle.proof_semantics.specs.Examples.{step}
use Rattle.proof_semantics.specs.Conflicts.{IsPartOf, IsNew, clauses_with, IsConflictChain}
use Rattle.proof_semantics.specs.ConflictLaws.{IsNextStep}
use Rattle.proof_semantics.specs.ConflictExamples.{four_clauses, first_conflict, and_then}
use Rattle.proof_semantics.proofs.Hints.{hints-unit, hints-conflict, conflict-from}
use Rattle.proof_semantics.proofs.Conflicts.{derivation_law, conflict_law}
use Rattle.proof_semantics.proofs.conflict_examples.conflicts.Goals as goal

-- ---- what derives

four : Held
four = held_of four_clauses.clauses

five : Held
five = held_of (clauses_with four_clauses.clauses first_conflict)

from_two : hints_answer (get four) (with_negations literals.empty (pos 1 ∷ [])) (1 ∷ 2 ∷ []) ≡ Ok tt
unfolding four
from_two =
    hints-unit (get four) (with_negations literals.empty (pos 1 ∷ [])) 1 2 [] (pos 2) (simp (get-insert {X = Clause} nat_cmp_total, contains-insert int_cmp_total, contains-empty int_cmp))
    ∙ hints-conflict (get four) (literals.insert (with_negations literals.empty (pos 1 ∷ [])) (pos 2)) 2 (simp (get-insert {X = Clause} nat_cmp_total, contains-insert int_cmp_total))

from_others : hints_answer (get five) (with_negations literals.empty (pos 2 ∷ [])) (1 ∷ 3 ∷ []) ≡ Ok tt
unfolding five
from_others =
    hints-unit (get five) (with_negations literals.empty (pos 2 ∷ [])) 1 3 [] (pos 1) (simp (get-insert {X = Clause} nat_cmp_total, contains-insert int_cmp_total, contains-empty int_cmp))
    ∙ hints-conflict (get five) (literals.insert (with_negations literals.empty (pos 2 ∷ [])) (pos 1)) 3 (simp (get-insert {X = Clause} nat_cmp_total, contains-insert int_cmp_total))

from_itself : hints_answer (get five) (with_negations literals.empty (pos 1 ∷ [])) (5 ∷ []) ≡ Ok tt
unfolding five
from_itself = hints-conflict (get five) (with_negations literals.empty (pos 1 ∷ [])) 5 (simp (get-insert {X = Clause} nat_cmp_total, contains-insert int_cmp_total))

from_part : hints_answer (get five) (with_negations literals.empty (minus 1 ∷ pos 2 ∷ pos 3 ∷ [])) (3 ∷ []) ≡ Ok tt
unfolding five
from_part = hints-conflict (get five) (with_negations literals.empty (minus 1 ∷ pos 2 ∷ pos 3 ∷ [])) 3 (simp (get-insert {X = Clause} nat_cmp_total, contains-insert int_cmp_total))

from_three : hints_answer (get five) (with_negations literals.empty []) (5 ∷ 3 ∷ 4 ∷ []) ≡ Ok tt
unfolding five
from_three =
    hints-unit (get five) (with_negations literals.empty []) 5 3 (4 ∷ []) (pos 1) (simp (get-insert {X = Clause} nat_cmp_total, contains-empty int_cmp))
    ∙ hints-unit (get five) (literals.insert (with_negations literals.empty []) (pos 1)) 3 4 [] (pos 2)
    (simp (get-insert {X = Clause} nat_cmp_total, contains-insert int_cmp_total, contains-empty int_cmp))
    ∙ hints-conflict (get five) (literals.insert (literals.insert (with_negations literals.empty []) (pos 1)) (pos 2)) 4 (simp (get-insert {X = Clause} nat_cmp_total, contains-insert int_cmp_total))

from_three_against : hints_answer (get five) (with_negations literals.empty (pos 3 ∷ minus 3 ∷ [])) (5 ∷ 3 ∷ 4 ∷ []) ≡ Ok tt
unfolding five
from_three_against =
    hints-unit (get five) (with_negations literals.empty (pos 3 ∷ minus 3 ∷ [])) 5 3 (4 ∷ []) (pos 1)
    (simp (get-insert {X = Clause} nat_cmp_total, contains-insert int_cmp_total, contains-empty int_cmp))
    ∙ hints-unit (get five) (literals.insert (with_negations literals.empty (pos 3 ∷ minus 3 ∷ [])) (pos 1)) 3 4 [] (pos 2)
    (simp (get-insert {X = Clause} nat_cmp_total, contains-insert int_cmp_total, contains-empty int_cmp))
    ∙ hints-conflict (get five) (literals.insert (literals.insert (with_negations literals.empty (pos 3 ∷ minus 3 ∷ [])) (pos 1)) (pos 2)) 4
    (simp (get-insert {X = Clause} nat_cmp_total, contains-insert int_cmp_total))

-- ---- what is new

part_tested : (part clause : Clause) → IsPartOf part clause → list_all (has_literal clause) part ≡ true
part_tested part clause h = list_all-from_AllPass (has_literal clause) part
    (All-weaker (Contains clause) (λ l. has_literal clause l ≡ true)
    (λ l (k, within, is). list_any_at (λ other. int_eq other l) clause k l within ((Decides-int_eq (get_or clause k l) l).1 is)) part h)

the_one : (a l : ℤ) → Contains (a ∷ []) l → a ≡ l
the_one a l (zero, within, is) = is
the_one a l (suc k, within, is) = absurd (omega (arith, within))

unit-new : (clauses : List Clause) (a : ℤ) → (a ≡ neg_ℤ a → ⊥) → All (λ part. ¬ IsPartOf part (a ∷ [])) clauses → IsNew clauses (a ∷ [])
unit-new clauses a some apart = record {
  some = omega arith;
  plain = λ l this that. some (the_one a (neg_ℤ l) that ∙ ap neg_ℤ (sym (the_one a l this)));
  apart = apart;
}

apart_tested : (clauses : List Clause) (clause : Clause) → AllByRecursion (λ part. list_all (has_literal clause) part ≡ false) clauses
    → AllByRecursion (λ part. ¬ IsPartOf part clause) clauses
apart_tested [] clause h = tt
apart_tested (part ∷ clauses) clause h = ((λ is_part. let all = part_tested part clause is_part in let none = h.0 in cc), apart_tested clauses clause h.1)

first-new : IsNew (clauses_with four_clauses.clauses []) (pos 1 ∷ [])
first-new =
    unit-new four_clauses.clauses (pos 1) (λ e. cc)
    (All-from_recursion (λ part. ¬ IsPartOf part (pos 1 ∷ [])) four_clauses.clauses
    (apart_tested four_clauses.clauses (pos 1 ∷ []) (refl, (refl, (refl, (refl, tt))))))

second-new : IsNew (clauses_with four_clauses.clauses first_conflict) (pos 2 ∷ [])
second-new =
    let clauses : List Clause = clauses_with four_clauses.clauses first_conflict in
    unit-new clauses (pos 2) (λ e. cc)
    (All-from_recursion (λ part. ¬ IsPartOf part (pos 2 ∷ [])) clauses (apart_tested clauses (pos 2 ∷ []) (refl, (refl, (refl, (refl, (refl, tt)))))))

-- ---- derivations

nothing : IsDerivation four_clauses []
nothing = record { sound = tt; in_turn = tt; short = omega arith }

first-step : IsNextStep four_clauses [] (step 5 (pos 1 ∷ []) (1 ∷ 2 ∷ []))
unfolding four
first-step = record {
  id = refl;
  short = omega arith;
  literals = All-from_recursion (IsLiteralOf 3) (pos 1 ∷ []) (record { not_zero = omega arith; within = omega arith }, tt);
  derives = conflict-from (get four) (1 ∷ 2 ∷ []) (with_negations literals.empty (pos 1 ∷ [])) from_two;
}

next-step : (clause : Clause) (hints : List ℕ) → All (IsLiteralOf 3) clause → hints_answer (get five) (with_negations literals.empty clause) hints ≡ Ok tt
    → IsNextStep four_clauses first_conflict (step 6 clause hints)
unfolding five
next-step clause hints ok answer = record { id = refl; short = omega arith; literals = ok; derives = conflict-from (get five) hints (with_negations literals.empty clause) answer }

one-chain : IsConflictChain four_clauses 0 1 first_conflict
one-chain = conflict_law.next four_clauses 0 0 [] _ (conflict_law.none four_clauses [] nothing) first-step first-new

others-step : IsNextStep four_clauses first_conflict (step 6 (pos 2 ∷ []) (1 ∷ 3 ∷ []))
others-step = next-step _ _ (All-from_recursion (IsLiteralOf 3) (pos 2 ∷ []) (record { not_zero = omega arith; within = omega arith }, tt)) from_others

itself-step : IsNextStep four_clauses first_conflict (step 6 (pos 1 ∷ []) (5 ∷ []))
itself-step = next-step _ _ (All-from_recursion (IsLiteralOf 3) (pos 1 ∷ []) (record { not_zero = omega arith; within = omega arith }, tt)) from_itself

part-step : IsNextStep four_clauses first_conflict (step 6 (minus 1 ∷ pos 2 ∷ pos 3 ∷ []) (3 ∷ []))
part-step = next-step _ _ (All-from_recursion (IsLiteralOf 3) (minus 1 ∷ pos 2 ∷ pos 3 ∷ [])
    (record { not_zero = omega arith; within = omega arith }, (record { not_zero = omega arith; within = omega arith }, (record { not_zero = omega arith; within = omega arith }, tt)))) from_part

against-step : IsNextStep four_clauses first_conflict (step 6 (pos 3 ∷ minus 3 ∷ []) (5 ∷ 3 ∷ 4 ∷ []))
against-step = next-step _ _ (All-from_recursion (IsLiteralOf 3) (pos 3 ∷ minus 3 ∷ [])
    (record { not_zero = omega arith; within = omega arith }, (record { not_zero = omega arith; within = omega arith }, tt))) from_three_against

empty-step : IsNextStep four_clauses first_conflict (step 6 [] (5 ∷ 3 ∷ 4 ∷ []))
empty-step = next-step [] _ (All-nil (IsLiteralOf 3)) from_three

derivation : (s : StepValue) → IsNextStep four_clauses first_conflict s → IsDerivation four_clauses (first_conflict ++ Add s ∷ [])
derivation s n = derivation_law.next four_clauses first_conflict s one-chain.derivation n

pub returns : goal.returns
returns c = record {
  one = one-chain;
  two = conflict_law.next four_clauses 0 1 first_conflict _ one-chain others-step second-new;
  merged = conflict_law.next four_clauses 1 0 first_conflict _ (conflict_law.none four_clauses first_conflict one-chain.derivation) others-step second-new;
  merged_anyhow = conflict_law.none four_clauses (and_then (pos 1 ∷ []) (5 ∷ [])) (derivation _ itself-step);
  repeated = (derivation _ itself-step, λ h. (h.new 1 (omega arith) (omega arith)).apart 4 [] (omega arith) (All-contains_itself (pos 1 ∷ [])));
  merged_repeated = λ h. (h.new 1 (omega arith) (omega arith)).apart 4 [] (omega arith) (All-contains_itself (pos 1 ∷ []));
  lengthened = (
    derivation _ part-step,
    λ h. (h.new 1 (omega arith) (omega arith)).apart 2 [] (omega arith)
        (All-weaker (Contains (minus 1 ∷ pos 2 ∷ [])) (Contains (minus 1 ∷ pos 2 ∷ pos 3 ∷ [])) (Contains-append_left (minus 1 ∷ pos 2 ∷ []) (pos 3 ∷ [])) (minus 1 ∷ pos 2 ∷ [])
        (All-contains_itself (minus 1 ∷ pos 2 ∷ []))),
  );
  against_itself = (derivation _ against-step, λ h. (h.new 1 (omega arith) (omega arith)).plain (pos 3) (0, omega arith, refl) (1, omega arith, refl));
  empty = (derivation _ empty-step, λ h. let some = (h.new 1 (omega arith) (omega arith)).some in omega arith);
  too_many = λ h. let count = h.count in omega arith;
}
