-- The steps that say that two copies of a signal are equal derive from what says that they are copies.
use Rattle.std.proofs.Common.{◌≡◌, refl, ◌∙◌, arith, List, [], ◌∷◌, ℤ, pos, neg_ℤ, Ok}
use Rattle.std.specs.Cmp.{nat_cmp_total, int_cmp_total}
use Rattle.std.specs.Ordering.{int_cmp}
use Rattle.std.specs.FinSet as literals
use Rattle.std.specs.FinSet.{contains-insert, contains-empty}
use Rattle.std.specs.FinMap.{get, insert, get-insert}
use Rattle.std.proofs.lemmas.List.Elements.{All-from_recursion}
use Rattle.proof_semantics.specs.Clauses.{Clause, IsLiteralOf}
use Rattle.proof_semantics.specs.Logs.{Held, held_of, with_negations, hints_answer, IsDerivation}
use Rattle.proof_semantics.proofs.Hints.{hints-unit, hints-conflict, conflict-from}
use Rattle.worked_rows.specs.Copies.{two_copies, equal_copies}

six : Held
six = held_of two_copies.clauses

seven : Held
seven = insert six 7 (neg_ℤ (pos 2) ∷ pos 3 ∷ [])

first_derives : hints_answer (get six) (with_negations literals.empty (neg_ℤ (pos 2) ∷ pos 3 ∷ [])) (1 ∷ 4 ∷ []) ≡ Ok tt
unfolding six
first_derives =
    hints-unit (get six) (with_negations literals.empty (neg_ℤ (pos 2) ∷ pos 3 ∷ [])) 1 4 [] (pos 1)
    (simp (get-insert {X = Clause} nat_cmp_total, contains-insert int_cmp_total, contains-empty int_cmp))
    ∙ hints-conflict (get six) (literals.insert (with_negations literals.empty (neg_ℤ (pos 2) ∷ pos 3 ∷ [])) (pos 1)) 4 (simp (get-insert {X = Clause} nat_cmp_total, contains-insert int_cmp_total))

second_derives : hints_answer (get seven) (with_negations literals.empty (pos 2 ∷ neg_ℤ (pos 3) ∷ [])) (3 ∷ 2 ∷ []) ≡ Ok tt
unfolding six seven
second_derives =
    hints-unit (get seven) (with_negations literals.empty (pos 2 ∷ neg_ℤ (pos 3) ∷ [])) 3 2 [] (pos 1)
    (simp (get-insert {X = Clause} nat_cmp_total, contains-insert int_cmp_total, contains-empty int_cmp))
    ∙ hints-conflict (get seven) (literals.insert (with_negations literals.empty (pos 2 ∷ neg_ℤ (pos 3) ∷ [])) (pos 1)) 2 (simp (get-insert {X = Clause} nat_cmp_total, contains-insert int_cmp_total))

pub equal_copies-derive : IsDerivation two_copies equal_copies
unfolding six seven
equal_copies-derive = record {
  sound = (
    omega arith,
    conflict-from (get six) (1 ∷ 4 ∷ []) (with_negations literals.empty (neg_ℤ (pos 2) ∷ pos 3 ∷ [])) first_derives,
    (omega arith, conflict-from (get seven) (3 ∷ 2 ∷ []) (with_negations literals.empty (pos 2 ∷ neg_ℤ (pos 3) ∷ [])) second_derives, tt),
  );
  in_turn = (
    refl,
    All-from_recursion (IsLiteralOf 3) (neg_ℤ (pos 2) ∷ pos 3 ∷ []) (record { not_zero = omega arith; within = omega arith }, (record { not_zero = omega arith; within = omega arith }, tt)),
    (
      refl,
      All-from_recursion (IsLiteralOf 3) (pos 2 ∷ neg_ℤ (pos 3) ∷ []) (record { not_zero = omega arith; within = omega arith }, (record { not_zero = omega arith; within = omega arith }, tt)),
      tt,
    ),
  );
  short = omega arith;
}
