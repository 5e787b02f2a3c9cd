-- Clauses that are held under their ids stay so when clauses with higher ids are added.
use Rattle.std.proofs.Common.{◌≡◌, ℕ, suc, ◌+◌, ◌<◌, ◌≤◌, cond, List, [], ◌∷◌, length, refl, ap, subst, ◌∙◌, arith, Option, Some}
use Rattle.std.specs.Cmp.{nat_cmp_total, unsigned_tied}
use Rattle.std.specs.FinMap.{get, insert, empty, get-insert}
use Rattle.std.proofs.lemmas.Bool.{false_from_ne_true}
use Rattle.std.proofs.lemmas.Bool.Decides.{Decides-eqb}
use Rattle.proof_semantics.specs.Clauses.{Clause}
use Rattle.proof_semantics.specs.Logs.{Held, held_from, held_of}
use Rattle.case_tree.proofs.Units.{AreHeldFrom}

pub get-added : (held : Held) (id : ℕ) (clause : Clause) → get (insert held id clause) id ≡ Some clause
get-added held id clause =
    let same = unsigned_tied id id ∙ (Decides-eqb id id).1 refl in
    get-insert nat_cmp_total held id clause id ∙ ap (λ b. cond b (Some clause) (get held id)) same

pub get-other : (held : Held) (id : ℕ) (clause : Clause) (q : ℕ) → q < id → get (insert held id clause) q ≡ get held q
get-other held id clause q below =
    let apart = unsigned_tied q id ∙ false_from_ne_true _ (λ t. let same = (Decides-eqb q id).0 t in omega (arith, same, below)) in
    get-insert nat_cmp_total held id clause q ∙ ap (λ b. cond b (Some clause) (get held q)) apart

-- what agrees on the ids of the clauses holds them too
pub AreHeldFrom-same : (f g : ℕ → Option Clause) (clauses : List Clause) (next bound : ℕ) → next + length clauses ≤ bound → ((id : ℕ) → id < bound → g id ≡ f id)
    → AreHeldFrom f next clauses → AreHeldFrom g next clauses
AreHeldFrom-same f g [] next bound e same h = tt
AreHeldFrom-same f g (clause ∷ clauses) next bound e same h = (same next (omega (arith, e)) ∙ h.0, AreHeldFrom-same f g clauses (next + 1) bound (omega (arith, e)) same h.1)

held_from-below : (clauses : List Clause) (held : Held) (next id : ℕ) → id < next → get (held_from held next clauses) id ≡ get held id
held_from-below [] held next id below = refl
held_from-below (clause ∷ clauses) held next id below = held_from-below clauses (insert held next clause) (suc next) id (omega (arith, below)) ∙ get-other held next clause id below

held_from-held : (clauses : List Clause) (held : Held) (next : ℕ) → AreHeldFrom (get (held_from held next clauses)) next clauses
held_from-held [] held next = tt
held_from-held (clause ∷ clauses) held next =
    let one : suc next ≡ next + 1 = omega arith in (
      held_from-below clauses (insert held next clause) (suc next) next (omega arith) ∙ get-added held next clause,
      subst (λ id. AreHeldFrom (get (held_from (insert held next clause) (suc next) clauses)) id clauses) one (held_from-held clauses (insert held next clause) (suc next)),
    )

pub held_of-held : (formula : List Clause) → AreHeldFrom (get (held_of formula)) 1 formula
held_of-held formula = held_from-held formula empty 1
