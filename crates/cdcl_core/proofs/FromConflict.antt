-- From a conflict to the learned clause.
use Rattle.std.specs.Prelude.{ℤ, neg_ℤ, ◌⊎◌, All}
use Rattle.std.proofs.Common.{◌≡◌, ℕ, zero, Bool, true, false, ◌-◌, ◌<◌, ◌≤◌, pos, List, [], ◌++◌, take, reverse, length, get_or, ap, subst, sym, ◌∙◌, inl, inr, arith}
use Rattle.std.proofs.Math.IntN.{neg_ℤ-neg_ℤ}
use Rattle.std.proofs.lemmas.List.{take-append-le, take_all}
use Rattle.std.proofs.lemmas.List.Elements.{All-nil, All-weaker, All-contains}
use Rattle.proof_semantics.specs.Clauses.{Clause, IsLiteralOf}
use Rattle.proof_semantics.specs.Conflicts.{clause_at}
use Rattle.cdcl_core.specs.Settled.{IsSettled}
use Rattle.cdcl_core.specs.Trail.{literal_at, IsTrueBelow, IsConsistent, IsSettledBelow, IsLearned}
use Rattle.cdcl_core.specs.Explained.{Holds, IsMarked, IsExplained}
use Rattle.cdcl_core.specs.Placed.{TrailValue}
use Rattle.cdcl_core.specs.Propagation.{IsConflict}
use Rattle.cdcl_core.specs.Analysis.{mark_at, IsMarkedFrom, IsOneFrom, IsClauseOf, IsShortened}
use Rattle.cdcl_core.proofs.Loops.{HasEntryFrom}
use Rattle.cdcl_core.specs.Refuted.{IsRefuted}
use Rattle.cdcl_core.specs.Analysed.{IsAnalysed}
use Rattle.cdcl_core.specs.declared.analysis.Learned.{Learned}
use Rattle.cdcl_core.proofs.Placing.{literal-neg}
use Rattle.cdcl_core.proofs.NewClauses.{not_both, learned-new}
use Rattle.cdcl_core.proofs.Derived.{all_from_contained, marks-derives}
use Rattle.cdcl_core.proofs.Analysed.{conflict_reaches, clause_false, clause_learned}
use Rattle.cdcl_core.proofs.Propagating.{clause_read}

-- a false clause's literals as they are asked for
pub conflict_others : (clauses : List Clause) (t : TrailValue) (j n : ℕ) (C D : Clause) (own : ℤ) → IsConflict clauses t j → C ≡ get_or clauses j C → D ≡ C → n ≡ length t.literals
    → All (λ a. (a ≡ own) ⊎ IsTrueBelow t.literals n (neg_ℤ a)) D
conflict_others clauses t j n C D own h is same e =
    rw (clause_read clauses j C D h.within is same, e)
    (All-weaker (λ a. Holds t.literals (neg_ℤ a)) (λ a. (a ≡ own) ⊎ IsTrueBelow t.literals (length t.literals) (neg_ℤ a)) (λ a f. inr f) (clause_at clauses j) h.false_clause)

-- no literal of the clause is one that holds, so each is marked
pub conflict_marked : (clauses : List Clause) (t : TrailValue) (marks : List Bool) (j start : ℕ) (C D : Clause) (own : ℤ) → IsConsistent t.literals → start < length t.literals → IsConflict clauses t j
    → C ≡ get_or clauses j C → D ≡ C → own ≡ literal_at t.literals start → All (λ a. (a ≡ own) ⊎ IsMarked t.literals marks (neg_ℤ a)) D
    → All (λ a. IsMarked t.literals marks (neg_ℤ a)) (clause_at clauses j)
conflict_marked clauses t marks j start C D own c within h is same e marked =
    let E : Clause = clause_at clauses j in
    let P : ℤ → Type 0 = λ a. (a ≡ own) ⊎ IsMarked t.literals marks (neg_ℤ a) in
    let here : All P E = subst (All P) (clause_read clauses j C D h.within is same) marked in
    all_from_contained (λ a. IsMarked t.literals marks (neg_ℤ a)) E (λ a in_E. elim (All-contains P E a here in_E) [
      | inl own_a ↦
          let holds : Holds t.literals a = record { place = start; below = within; within = within; is = sym e ∙ sym own_a } in
          absurd (not_both t.literals (length t.literals) (length t.literals) a c holds (All-contains (λ b. Holds t.literals (neg_ℤ b)) E a h.false_clause in_E))
      | inr m ↦ m
    ])

pub conflict_some : (clauses : List Clause) (t : TrailValue) (marks : List Bool) (j start : ℕ) → IsConsistent t.literals → IsConflict clauses t j → IsSettled (IsTrueBelow t.literals start) clauses
    → All (λ a. IsMarked t.literals marks (neg_ℤ a)) (clause_at clauses j) → IsMarkedFrom marks start (length t.literals)
conflict_some clauses t marks j start c h settled marked =
    let E : Clause = clause_at clauses j in
    let r : HasEntryFrom t.literals start E = conflict_reaches t.literals start E c (settled j [] h.within) h.false_clause in
    let m : IsMarked t.literals marks (neg_ℤ r.literal) = All-contains (λ a. IsMarked t.literals marks (neg_ℤ a)) E r.literal marked r.inside in
    let same : m.place ≡ r.place = c.distinct m.place r.place m.within r.within (m.is ∙ sym r.is) in
    record { place = r.place; from = r.from; within = r.within; marked = ap (mark_at marks) (sym same) ∙ m.marked }

-- a false clause is empty where nothing is true
pub conflict_empty : (P : ℤ → Type 0) (clauses : List Clause) (t : TrailValue) (j : ℕ) → IsConflict clauses t j → length t.literals ≤ 0 → All P (clause_at clauses j)
conflict_empty P clauses t j h none =
    All-weaker (λ a. Holds t.literals (neg_ℤ a)) P (λ a holds. let within = holds.within in absurd (omega arith)) (clause_at clauses j) h.false_clause

-- the clause of marked literals is over the variables
clause_within : (t : TrailValue) (marks : List Bool) (C : Clause) → All (IsLiteralOf t.variables) t.literals → IsClauseOf t.literals marks C → All (IsLiteralOf t.variables) C
clause_within t marks C ok made = All-weaker (λ a. IsMarked t.literals marks (neg_ℤ a)) (IsLiteralOf t.variables)
    (λ a m.
    let negated : IsLiteralOf t.variables (neg_ℤ a) = subst (IsLiteralOf t.variables) m.is (ok m.place (pos zero) m.within) in
    subst (IsLiteralOf t.variables) (neg_ℤ-neg_ℤ a) (literal-neg t.variables (neg_ℤ a) negated)) C made.all

pub analysed : (clauses : List Clause) (t : TrailValue) (marks : List Bool) (start : ℕ) (r : Learned) → IsConsistent t.literals → All (IsLiteralOf t.variables) t.literals
    → IsSettled (IsTrueBelow t.literals start) clauses → IsOneFrom t.literals marks start r.place → IsClauseOf t.literals marks r.clause.items
    → IsExplained clauses t.literals marks (reverse r.hints.items) → IsAnalysed clauses t start r
analysed clauses t marks start r c ok settled one made explained =
    let trail : List ℤ = t.literals in
    let clause : Clause = r.clause.items in
    let learned : IsLearned trail start clause (neg_ℤ (literal_at trail r.place)) r.place = clause_learned trail marks start r.place clause one made in
    record {
      learned = learned;
      derives = λ id. marks-derives clauses trail marks (record { id = id; literals = clause; hints = reverse r.hints.items }) (clause_false trail marks clause made) made.each explained;
      new = learned-new clauses trail start clause (neg_ℤ (literal_at trail r.place)) r.place c settled learned;
      literals = clause_within t marks clause ok made;
    }

-- where no entry is marked, the hints refute
pub refuted : (clauses : List Clause) (trail : List ℤ) (marks : List Bool) (hints : List ℕ) → IsExplained clauses trail marks hints
    → ((p : ℕ) → p < length trail → mark_at marks p ≡ false) → IsRefuted clauses hints
refuted clauses trail marks hints explained none id =
    marks-derives clauses trail marks (record { id = id; literals = []; hints = hints }) (All-nil (λ a. Holds trail (neg_ℤ a)))
    (λ p within m. let unmarked = none p within in let no : false ≡ true = sym unmarked ∙ m in absurd (cc)) explained

-- what is settled below each open level is so below the last
pub last_settled : (clauses : List Clause) (t : TrailValue) (levels start : ℕ) → IsSettledBelow clauses t.literals t.starts → 0 < length t.starts → levels ≡ length t.starts
    → start ≡ get_or t.starts (levels - 1) 0 → IsSettled (IsTrueBelow t.literals start) clauses
last_settled clauses t levels start settled some count is = rw (is, count) (settled (length t.starts - 1) 0 (omega arith))

-- a list that was lent whole
pub lent_back : (n : ℕ) (xs ys : List Bool) → length xs ≡ n → take n (xs ++ ys) ≡ xs
lent_back n xs ys e = take-append-le n xs ys (omega arith) ∙ take_all n xs (omega arith)

pub one_shortened : (trail : List ℤ) (old new : List Bool) (start at : ℕ) → IsOneFrom trail old start at → IsShortened old new start → IsOneFrom trail new start at
one_shortened trail old new start at one h = record {
  from = one.from;
  within = one.within;
  marked = h.kept at one.from one.marked;
  only = λ p high within m. one.only p high within (h.only p high m);
}
