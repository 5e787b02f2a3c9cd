-- by computation, and by what is held in a map and what stands in a set
use Rattle.std.proofs.Common.{◌≡◌, ℕ, ℤ, false, cond, ◌||◌, refl, ◌∙◌, arith, [], ◌∷◌, pos, None, Some, Ok, Err}
use Rattle.std.specs.Cmp.{nat_cmp_total, int_cmp_total}
use Rattle.std.specs.Ordering.{nat_cmp, int_cmp, int_eq, eq_by_cmp}
use Rattle.std.specs.FinSet as literals
use Rattle.std.specs.FinSet.{contains-insert, contains-empty}
use Rattle.std.specs.FinMap.{get, insert, remove, empty, get-insert, get-remove, get-empty}
use Rattle.std.proofs.lemmas.List.Elements.{All-nil}
use Rattle.proof_semantics.specs.declared.step_refusal.StepRefusal.TheVariants.{UnknownId, NotUnit, NoConflict}
use Rattle.proof_semantics.specs.Clauses.{Clause, IsLiteralOf}
use Rattle.proof_semantics.specs.Logs.{Held, LiteralSet, held_of, removed_from, with_negations, hints_answer}
use Rattle.semantics.specs.Examples.{minus}
use Rattle.proof_semantics.specs.Examples.{three_clauses}
use Rattle.proof_semantics.proofs.Hints.{hints-unit, hints-conflict, hints-refused, conflict-from}
use Rattle.proof_semantics.proofs.examples.logs.Goals as goal

inserted : (held : Held) (id : ℕ) (clause : Clause) (q : ℕ) → get (insert held id clause) q ≡ cond (eq_by_cmp nat_cmp q id) (Some clause) (get held q)
inserted held id clause q = get-insert nat_cmp_total held id clause q

removed_id : (held : Held) (id q : ℕ) → get (remove held id) q ≡ cond (eq_by_cmp nat_cmp q id) None (get held q)
removed_id held id q = get-remove nat_cmp_total held id q

nothing : (q : ℕ) → get {X = Clause} (empty {R = nat_cmp}) q ≡ None
nothing q = get-empty {X = Clause} nat_cmp q

added : (set : LiteralSet) (l q : ℤ) → literals.contains (literals.insert set l) q ≡ (int_eq q l || literals.contains set q)
added set l q = contains-insert int_cmp_total set l q

no_literal : (q : ℤ) → literals.contains (literals.empty {R = int_cmp}) q ≡ false
no_literal q = contains-empty int_cmp q

ruleset held = (inserted, removed_id, nothing, added, no_literal)

in_order : hints_answer (get (held_of three_clauses)) (with_negations literals.empty []) (1 ∷ 2 ∷ 3 ∷ []) ≡ Ok tt
in_order =
    hints-unit (get (held_of three_clauses)) (with_negations literals.empty []) 1 2 (3 ∷ []) (pos 1) (simp held)
    ∙ hints-unit (get (held_of three_clauses)) (literals.insert (with_negations literals.empty []) (pos 1)) 2 3 [] (pos 2) (simp held)
    ∙ hints-conflict (get (held_of three_clauses)) (literals.insert (literals.insert (with_negations literals.empty []) (pos 1)) (pos 2)) 3 (simp held)

in_another_order : hints_answer (get (held_of three_clauses)) (with_negations literals.empty []) (1 ∷ 3 ∷ 2 ∷ []) ≡ Ok tt
in_another_order =
    hints-unit (get (held_of three_clauses)) (with_negations literals.empty []) 1 3 (2 ∷ []) (pos 1) (simp held)
    ∙ hints-unit (get (held_of three_clauses)) (literals.insert (with_negations literals.empty []) (pos 1)) 3 2 [] (minus 2) (simp held)
    ∙ hints-conflict (get (held_of three_clauses)) (literals.insert (literals.insert (with_negations literals.empty []) (pos 1)) (minus 2)) 2 (simp held)

two_open : hints_answer (get (held_of three_clauses)) (with_negations literals.empty []) (2 ∷ 1 ∷ 3 ∷ []) ≡ Err (NotUnit 2)
two_open =
    hints-refused (get (held_of three_clauses)) (with_negations literals.empty []) 2 (1 ∷ 3 ∷ []) (NotUnit 2) (simp held)

no_conflict : hints_answer (get (held_of three_clauses)) (with_negations literals.empty []) (1 ∷ 2 ∷ []) ≡ Err NoConflict
no_conflict =
    hints-unit (get (held_of three_clauses)) (with_negations literals.empty []) 1 2 [] (pos 1) (simp held)
    ∙ hints-refused (get (held_of three_clauses)) (literals.insert (with_negations literals.empty []) (pos 1)) 2 [] NoConflict (simp held)

not_held : hints_answer (get (held_of three_clauses)) (with_negations literals.empty []) (1 ∷ 9 ∷ 3 ∷ []) ≡ Err (UnknownId 9)
not_held =
    hints-unit (get (held_of three_clauses)) (with_negations literals.empty []) 1 9 (3 ∷ []) (pos 1) (simp held)
    ∙ hints-refused (get (held_of three_clauses)) (literals.insert (with_negations literals.empty []) (pos 1)) 9 (3 ∷ []) (UnknownId 9) (simp held)

removed : hints_answer (get (removed_from (held_of three_clauses) (1 ∷ []))) (with_negations literals.empty []) (1 ∷ 2 ∷ 3 ∷ []) ≡ Err (UnknownId 1)
removed =
    hints-refused (get (removed_from (held_of three_clauses) (1 ∷ []))) (with_negations literals.empty []) 1 (2 ∷ 3 ∷ []) (UnknownId 1) (simp held)

early_conflict : hints_answer (get (held_of three_clauses)) (with_negations literals.empty []) (1 ∷ 2 ∷ 3 ∷ 1 ∷ []) ≡ Err (NotUnit 3)
early_conflict =
    hints-unit (get (held_of three_clauses)) (with_negations literals.empty []) 1 2 (3 ∷ 1 ∷ []) (pos 1) (simp held)
    ∙ hints-unit (get (held_of three_clauses)) (literals.insert (with_negations literals.empty []) (pos 1)) 2 3 (1 ∷ []) (pos 2) (simp held)
    ∙ hints-refused (get (held_of three_clauses)) (literals.insert (literals.insert (with_negations literals.empty []) (pos 1)) (pos 2)) 3 (1 ∷ []) (NotUnit 3) (simp held)

twice : hints_answer (get (held_of three_clauses)) (with_negations literals.empty []) (1 ∷ 1 ∷ 2 ∷ 3 ∷ []) ≡ Ok tt
twice =
    hints-unit (get (held_of three_clauses)) (with_negations literals.empty []) 1 1 (2 ∷ 3 ∷ []) (pos 1) (simp held)
    ∙ hints-unit (get (held_of three_clauses)) (literals.insert (with_negations literals.empty []) (pos 1)) 1 2 (3 ∷ []) (pos 1) (simp held)
    ∙ hints-unit (get (held_of three_clauses)) (literals.insert (literals.insert (with_negations literals.empty []) (pos 1)) (pos 1)) 2 3 [] (pos 2) (simp held)
    ∙ hints-conflict (get (held_of three_clauses)) (literals.insert (literals.insert (literals.insert (with_negations literals.empty []) (pos 1)) (pos 1)) (pos 2)) 3 (simp held)

from_one : hints_answer (get (held_of three_clauses)) (with_negations literals.empty (minus 1 ∷ [])) (2 ∷ 3 ∷ []) ≡ Ok tt
from_one =
    hints-unit (get (held_of three_clauses)) (with_negations literals.empty (minus 1 ∷ [])) 2 3 [] (pos 2) (simp held)
    ∙ hints-conflict (get (held_of three_clauses)) (literals.insert (with_negations literals.empty (minus 1 ∷ [])) (pos 2)) 3 (simp held)

the_clause_2 : hints_answer (get (held_of three_clauses)) (with_negations literals.empty (pos 2 ∷ [])) (1 ∷ 2 ∷ []) ≡ Ok tt
the_clause_2 =
    hints-unit (get (held_of three_clauses)) (with_negations literals.empty (pos 2 ∷ [])) 1 2 [] (pos 1) (simp held)
    ∙ hints-conflict (get (held_of three_clauses)) (literals.insert (with_negations literals.empty (pos 2 ∷ [])) (pos 1)) 2 (simp held)

after_removals : hints_answer (get (removed_from (insert (held_of three_clauses) 7 (pos 2 ∷ [])) (1 ∷ 9 ∷ []))) (with_negations literals.empty []) (7 ∷ 3 ∷ []) ≡ Ok tt
after_removals =
    hints-unit (get (removed_from (insert (held_of three_clauses) 7 (pos 2 ∷ [])) (1 ∷ 9 ∷ []))) (with_negations literals.empty []) 7 3 [] (pos 2) (simp held)
    ∙ hints-conflict (get (removed_from (insert (held_of three_clauses) 7 (pos 2 ∷ [])) (1 ∷ 9 ∷ []))) (literals.insert (with_negations literals.empty []) (pos 2)) 3 (simp held)

pub returns : goal.returns
returns c = record {
  in_order = in_order;
  in_another_order = in_another_order;
  two_open = two_open;
  no_conflict = no_conflict;
  no_hints = refl;
  not_rising = refl;
  not_held = not_held;
  removed = removed;
  early_conflict = early_conflict;
  twice = twice;
  from_one = from_one;
  refutes = (
    record { sound = (omega arith, conflict-from (get (held_of three_clauses)) (1 ∷ 2 ∷ 3 ∷ []) (with_negations literals.empty []) in_order, tt); ends = refl },
    record {
      sound = (
        omega arith,
        conflict-from (get (held_of three_clauses)) (1 ∷ 2 ∷ []) (with_negations literals.empty (pos 2 ∷ [])) the_clause_2,
        (omega arith, conflict-from (get (removed_from (insert (held_of three_clauses) 7 (pos 2 ∷ [])) (1 ∷ 9 ∷ []))) (7 ∷ 3 ∷ []) (with_negations literals.empty []) after_removals, tt),
      );
      ends = refl;
    },
  );
  past_the_empty_clause = λ h. h.2.1;
  derivation = record {
    sound = (omega arith, conflict-from (get (held_of three_clauses)) (1 ∷ 2 ∷ 3 ∷ []) (with_negations literals.empty []) in_order, tt);
    in_turn = (refl, All-nil (IsLiteralOf 2), tt);
    short = omega arith;
  };
  no_derivation = λ h. let first = h.in_turn.0 in omega (arith, first);
}
