-- Clauses keep their ids while others are added behind them.
use Rattle.std.proofs.Common.{◌≡◌, ℕ, suc, ◌+◌, List, [], ◌∷◌, ◌++◌, length, get_or, refl, ap, subst, ◌∙◌, arith, append_assoc, length-append, Some}
use Rattle.std.specs.FinMap.{get}
use Rattle.std.proofs.Math.ListN.{get_or-append}
use Rattle.std.proofs.Math.Seq.{get_or-append_seam}
use Rattle.proof_semantics.specs.Clauses.{Clause}
use Rattle.proof_semantics.specs.Logs.{held_of}
use Rattle.proof_semantics.proofs.HeldClauses.{held_of-at}
use Rattle.merge_log.specs.Ids.{HasId, HaveIds}

pub held-id : (clauses : List Clause) (id : ℕ) (clause : Clause) → HasId clauses id clause → get (held_of clauses) id ≡ Some clause
held-id clauses id clause (place, is, within, here) = held_of-at clauses place id is within ∙ ap Some here

pub id-more : (clauses more : List Clause) (id : ℕ) (clause : Clause) → HasId clauses id clause → HasId (clauses ++ more) id clause
id-more clauses more id clause (place, is, within, here) =
    (place, is, omega (arith, within, length-append clauses more), get_or-append clauses more [] place within ∙ here)

pub id-last : (clauses : List Clause) (clause : Clause) (id : ℕ) → id ≡ length clauses + 1 → HasId (clauses ++ clause ∷ []) id clause
id-last clauses clause id is =
    (length clauses, omega (arith, is), omega (arith, length-append clauses (clause ∷ [])), get_or-append_seam clauses clause [] [])

pub ids-more : (clauses more list : List Clause) (id : ℕ) → HaveIds clauses id list → HaveIds (clauses ++ more) id list
ids-more clauses more [] id h = tt
ids-more clauses more (clause ∷ list) id h = (id-more clauses more id clause h.0, ids-more clauses more list (suc id) h.1)

pub ids-parts : (clauses xs ys : List Clause) (id behind : ℕ) → behind ≡ id + length xs → HaveIds clauses id (xs ++ ys) → HaveIds clauses id xs × HaveIds clauses behind ys
ids-parts clauses [] ys id behind e h = let same : id ≡ behind = omega (arith, e) in (tt, subst (λ k. HaveIds clauses k ys) same h)
ids-parts clauses (x ∷ xs) ys id behind e h = let rest = ids-parts clauses xs ys (suc id) behind (omega (arith, e)) h.1 in ((h.0, rest.0), rest.1)

-- a list that stands in the middle
pub ids-middle : (front list behind : List Clause) (id : ℕ) → id ≡ suc (length front) → HaveIds (front ++ (list ++ behind)) id list
ids-middle front [] behind id e = tt
ids-middle front (clause ∷ list) behind id e =
    let at : get_or (front ++ clause ∷ (list ++ behind)) (length front) [] ≡ clause = get_or_seam front clause (list ++ behind) in
    let rest = ids-middle (front ++ clause ∷ []) list behind (suc id) (omega (arith, e, length-append front (clause ∷ []))) in (
      (length front, e, omega (arith, length-append front (clause ∷ (list ++ behind))), at),
      subst (λ all. HaveIds all (suc id) list) (append_assoc front (clause ∷ []) (list ++ behind)) rest,
    )
  where
    get_or_seam : (front : List Clause) (clause : Clause) (rest : List Clause) → get_or (front ++ clause ∷ rest) (length front) [] ≡ clause
    get_or_seam [] clause rest = refl
    get_or_seam (x ∷ front) clause rest = get_or_seam front clause rest
