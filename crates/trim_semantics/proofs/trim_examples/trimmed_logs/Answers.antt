-- each log refutes, so the trimmed log is what is computed
use Rattle.std.proofs.Common.{◌≡◌, ℕ, ℤ, false, cond, ◌||◌, refl, arith, [], ◌∷◌, pos, None, Some}
use Rattle.std.specs.Cmp.{nat_cmp_total, int_cmp_total}
use Rattle.std.specs.Ordering.{nat_cmp, int_cmp, int_eq, eq_by_cmp}
use Rattle.std.specs.FinSet as literals
use Rattle.std.specs.FinSet.{contains-insert, contains-empty}
use Rattle.std.specs.FinMap.{get, insert, remove, empty, get-insert, get-remove, get-empty}
use Rattle.semantics.specs.Examples.{minus}
use Rattle.proof_semantics.specs.Clauses.{Clause}
use Rattle.proof_semantics.specs.Logs.{Held, LiteralSet, held_of, removed_from, with_negations, EndsInConflict, Refutes}
use Rattle.proof_semantics.specs.Examples.{three_clauses, refutation}
use Rattle.trim_semantics.specs.TrimExamples.{by_way_of_2, with_an_idle_step, with_a_copy, with_a_copy_trimmed, with_an_early_removal, with_more_behind}
use Rattle.trim_semantics.proofs.Again.{trimmed_law}
use Rattle.trim_semantics.proofs.trim_examples.trimmed_logs.Goals as goal

inserted : (held : Held) (id : ℕ) (clause : Clause) (q : ℕ) → get (insert held id clause) q ≡ cond (eq_by_cmp nat_cmp q id) (Some clause) (get held q)
inserted held id clause q = get-insert nat_cmp_total held id clause q

nothing : (q : ℕ) → get {X = Clause} (empty {R = nat_cmp}) q ≡ None
nothing q = get-empty {X = Clause} nat_cmp q

added : (set : LiteralSet) (l q : ℤ) → literals.contains (literals.insert set l) q ≡ (int_eq q l || literals.contains set q)
added set l q = contains-insert int_cmp_total set l q

no_literal : (q : ℤ) → literals.contains (literals.empty {R = int_cmp}) q ≡ false
no_literal q = contains-empty int_cmp q

removed_id : (held : Held) (id q : ℕ) → get (remove held id) q ≡ cond (eq_by_cmp nat_cmp q id) None (get held q)
removed_id held id q = get-remove nat_cmp_total held id q

ruleset held = (inserted, removed_id, nothing, added, no_literal)

the_clause_2 : EndsInConflict (get (held_of three_clauses)) (with_negations literals.empty (pos 2 ∷ [])) (1 ∷ 2 ∷ [])
the_clause_2 = (pos 1 ∷ [], pos 1, simp held, simp held, (minus 1 ∷ pos 2 ∷ [], simp held, simp held))

the_clause_1 : EndsInConflict (get (insert (held_of three_clauses) 4 (pos 2 ∷ []))) (with_negations literals.empty (minus 1 ∷ [])) (2 ∷ 3 ∷ [])
the_clause_1 = (minus 1 ∷ pos 2 ∷ [], pos 2, simp held, simp held, (minus 2 ∷ [], simp held, simp held))

the_empty_clause : EndsInConflict (get (insert (insert (held_of three_clauses) 4 (pos 2 ∷ [])) 5 (minus 1 ∷ []))) (with_negations literals.empty []) (4 ∷ 3 ∷ [])
the_empty_clause = (pos 2 ∷ [], pos 2, simp held, simp held, (minus 2 ∷ [], simp held, simp held))

the_copy : EndsInConflict (get (insert (held_of three_clauses) 4 (pos 2 ∷ []))) (with_negations literals.empty (pos 2 ∷ [])) (4 ∷ [])
the_copy = (pos 2 ∷ [], simp held, simp held)

after_the_copy : EndsInConflict (get (insert (insert (held_of three_clauses) 4 (pos 2 ∷ [])) 5 (pos 2 ∷ []))) (with_negations literals.empty []) (5 ∷ 3 ∷ [])
after_the_copy = (pos 2 ∷ [], pos 2, simp held, simp held, (minus 2 ∷ [], simp held, simp held))

at_once : EndsInConflict (get (held_of three_clauses)) (with_negations literals.empty []) (1 ∷ 2 ∷ 3 ∷ [])
at_once = (pos 1 ∷ [], pos 1, simp held, simp held, (minus 1 ∷ pos 2 ∷ [], pos 2, simp held, simp held, (minus 2 ∷ [], simp held, simp held)))

idle_refutes : Refutes three_clauses with_an_idle_step
idle_refutes = record { sound = (omega arith, the_clause_2, (omega arith, the_clause_1, (omega arith, the_empty_clause, tt))); ends = refl }

copy_refutes : Refutes three_clauses with_a_copy
copy_refutes = record { sound = (omega arith, the_clause_2, (omega arith, the_copy, (omega arith, after_the_copy, tt))); ends = refl }

one_refutes : Refutes three_clauses refutation
one_refutes = record { sound = (omega arith, at_once, tt); ends = refl }

once_more : EndsInConflict (get (removed_from (insert (held_of three_clauses) 4 []) (1 ∷ []))) (with_negations literals.empty []) (4 ∷ [])
once_more = ([], simp held, refl)

behind_refutes : Refutes three_clauses with_more_behind
behind_refutes = record { sound = (omega arith, at_once, (omega arith, once_more, tt)); ends = refl }

unchanged : ¬ (with_an_idle_step ≡ by_way_of_2)
unchanged e = let no : ⊥ = cc in no

early : ¬ (with_an_early_removal ≡ with_a_copy_trimmed)
early e = let no : ⊥ = cc in no

pub returns : goal.returns
returns c = record {
  idle_step = (idle_refutes, (trimmed_law.exactly three_clauses with_an_idle_step idle_refutes by_way_of_2).1 refl);
  copy = (copy_refutes, (trimmed_law.exactly three_clauses with_a_copy copy_refutes with_a_copy_trimmed).1 refl);
  in_one_step = (trimmed_law.exactly three_clauses refutation one_refutes refutation).1 refl;
  more_behind = (behind_refutes, (trimmed_law.exactly three_clauses with_more_behind behind_refutes refutation).1 refl);
  not_unchanged = λ h. unchanged ((trimmed_law.exactly three_clauses with_an_idle_step idle_refutes with_an_idle_step).0 h);
  not_early = λ h. early ((trimmed_law.exactly three_clauses with_a_copy copy_refutes with_an_early_removal).0 h);
}
