-- Two clauses that differ in the sign of their last literal are joined.
use Rattle.std.proofs.Common.{◌≡◌, ℕ, suc, ◌+◌, Bool, true, false, not, List, [], ◌∷◌, ◌++◌, length, get_or, refl, ap, arith, ℤ, neg_ℤ, Option, Some}
use Rattle.std.specs.FinSet as literals
use Rattle.semantics.specs.Value.{Assignment}
use Rattle.proof_semantics.specs.Clauses.{Clause}
use Rattle.proof_semantics.specs.NetClauses.{literal_at}
use Rattle.proof_semantics.specs.Variables.{by_place}
use Rattle.proof_semantics.specs.Logs.{LiteralSet, with_negations, open_literals, EndsInConflict}
use Rattle.proof_semantics.proofs.Refutations.{negations-fail, none-fails}
use Rattle.proof_semantics.proofs.Agreement.{AgreesFrom, AgreesFrom-parts, AgreesFrom-from}
use Rattle.case_tree.specs.Cases.{negation_from, negation}
use Rattle.case_tree.proofs.Sets.{Holds-new, Holds-negations, AllFalse, AllFalse-more, AllFalse-push, open-last, open-none}
use Rattle.case_tree.proofs.Vectors.{negation-false}

-- one more bit
pub negation-push : (bits : List Bool) (b : Bool) (place k : ℕ) → place + length bits ≡ k → negation_from place (bits ++ b ∷ []) ≡ negation_from place bits ++ literal_at k (not b) ∷ []
negation-push [] b place k e = let same : place ≡ k = omega (arith, e) in ap (λ p. literal_at p (not b) ∷ []) same
negation-push (c ∷ bits) b place k e = ap (λ rest. literal_at place (not c) ∷ rest) (negation-push bits b (suc place) k (omega (arith, e)))

AllFalse-negations : (clause : Clause) (set : LiteralSet) → AllFalse (with_negations set clause) clause
AllFalse-negations [] set = tt
AllFalse-negations (l ∷ clause) set =
    let start : LiteralSet = literals.insert set (neg_ℤ l) in
    (Holds-negations clause start (neg_ℤ l) (Holds-new set (neg_ℤ l)), AllFalse-negations clause start)

pub join-derives : (front : List Bool) (held : ℕ → Option Clause) (id other : ℕ) → held id ≡ Some (negation (front ++ false ∷ [])) → held other ≡ Some (negation (front ++ true ∷ []))
    → EndsInConflict held (with_negations literals.empty (negation front)) (id ∷ other ∷ [])
unfolding AgreesFrom
join-derives front held id other h k =
    let i : ℕ = length front in
    let a : Assignment = by_place (λ s. get_or (front ++ true ∷ []) s false) in
    let bits : AgreesFrom a 0 (front ++ true ∷ []) = AgreesFrom-from a (front ++ true ∷ []) 0 (λ j below. let at : 0 + j ≡ j = omega arith in rw at refl) in
    let parts = AgreesFrom-parts a front (true ∷ []) 0 i (omega arith) bits in
    let set : LiteralSet = with_negations literals.empty (negation front) in
    let fails = negations-fail a (negation front) literals.empty (none-fails a) (negation-false a front 0 parts.0) in
    let are_false = AllFalse-negations (negation front) literals.empty in
    let l : ℤ = literal_at i true in
    let first : open_literals set (negation (front ++ false ∷ [])) ≡ l ∷ [] =
    rw (negation-push front false 0 i (omega arith)) (open-last a set (negation front) l fails parts.1.0 are_false) in
    let second : open_literals (literals.insert set l) (negation (front ++ true ∷ [])) ≡ [] =
    rw (negation-push front true 0 i (omega arith))
    (open-none (literals.insert set l) (negation front ++ literal_at i false ∷ [])
    (AllFalse-push (literals.insert set l) (negation front) (literal_at i false) (AllFalse-more set l (negation front) are_false) (Holds-new set l))) in
    (negation (front ++ false ∷ []), l, h, first, (negation (front ++ true ∷ []), k, second))
