-- The clauses of a list are held under their ids, the last one too.
use Rattle.std.proofs.Common.{◌≡◌, ℕ, zero, suc, ◌+◌, ◌<◌, cond, List, [], ◌∷◌, ◌++◌, length, refl, ap, ◌∙◌, arith, Some}
use Rattle.std.specs.Cmp.{nat_cmp_total, unsigned_tied}
use Rattle.std.specs.FinMap.{get, insert, empty, get-insert}
use Rattle.std.proofs.lemmas.Bool.{false_from_ne_true}
use Rattle.std.proofs.lemmas.Bool.Decides.{Decides-eqb}
use Rattle.proof_semantics.specs.Clauses.{Clause}
use Rattle.proof_semantics.specs.Logs.{Held, held_from, held_of}
use Rattle.proof_semantics.specs.Conflicts.{clause_at}

get-same : (held : Held) (id q : ℕ) (clause : Clause) → q ≡ id → get (insert held id clause) q ≡ Some clause
get-same held id q clause e =
    let same = unsigned_tied q id ∙ (Decides-eqb q id).1 e in
    get-insert nat_cmp_total held id clause q ∙ ap (λ b. cond b (Some clause) (get held q)) same

get-lower : (held : Held) (id q : ℕ) (clause : Clause) → q < id → get (insert held id clause) q ≡ get held q
get-lower held id q clause below =
    let apart = unsigned_tied q id ∙ false_from_ne_true _ (λ t. let same = (Decides-eqb q id).0 t in omega (arith, same, below)) in
    get-insert nat_cmp_total held id clause q ∙ ap (λ b. cond b (Some clause) (get held q)) apart

held_from-lower : (clauses : List Clause) (held : Held) (next id : ℕ) → id < next → get (held_from held next clauses) id ≡ get held id
held_from-lower [] held next id below = refl
held_from-lower (clause ∷ clauses) held next id below = held_from-lower clauses (insert held next clause) (suc next) id (omega (arith, below)) ∙ get-lower held next id clause below

held_from-at : (clauses : List Clause) (held : Held) (next k id : ℕ) → id ≡ next + k → k < length clauses → get (held_from held next clauses) id ≡ Some (clause_at clauses k)
held_from-at [] held next k id e within = absurd (omega arith)
held_from-at (clause ∷ clauses) held next zero id e within =
    held_from-lower clauses (insert held next clause) (suc next) id (omega (arith, e)) ∙ get-same held next id clause (omega (arith, e))
held_from-at (clause ∷ clauses) held next (suc k) id e within = held_from-at clauses (insert held next clause) (suc next) k id (omega (arith, e)) (omega (arith, within))

-- each clause of a list is held under its place, from 1
pub held_of-at : (clauses : List Clause) (k id : ℕ) → id ≡ suc k → k < length clauses → get (held_of clauses) id ≡ Some (clause_at clauses k)
held_of-at clauses k id e within = held_from-at clauses empty 1 k id (omega (arith, e)) within

held_from-push : (clauses : List Clause) (held : Held) (next id : ℕ) (clause : Clause) → id ≡ next + length clauses
    → held_from held next (clauses ++ clause ∷ []) ≡ insert (held_from held next clauses) id clause
held_from-push [] held next id clause e = let same : next ≡ id = omega (arith, e) in ap (λ q. insert held q clause) same
held_from-push (c ∷ clauses) held next id clause e = held_from-push clauses (insert held next c) (suc next) id clause (omega (arith, e))

-- one clause more
pub held_of-push : (clauses : List Clause) (id : ℕ) (clause : Clause) → id ≡ length clauses + 1 → held_of (clauses ++ clause ∷ []) ≡ insert (held_of clauses) id clause
held_of-push clauses id clause e = held_from-push clauses empty 1 id clause (omega (arith, e))
