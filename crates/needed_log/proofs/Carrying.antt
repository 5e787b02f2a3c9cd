-- Under new ids a step derives where what its hints name is held under the new ids.
use Rattle.std.proofs.Common.{◌≡◌, ℕ, ◌+◌, ◌-◌, ◌≤◌, cond, List, [], ◌∷◌, get_or, map, refl, ap, ◌∙◌, arith, Option, Some}
use Rattle.std.specs.Prelude.{All}
use Rattle.std.specs.FinSet as literals
use Rattle.std.proofs.lemmas.Bool.{lt-ltb, le-ltb}
use Rattle.std.proofs.lemmas.List.Elements.{All-head, All-tail}
use Rattle.proof_semantics.specs.declared.item.Item.TheVariants.{Add, Remove}
use Rattle.proof_semantics.specs.Clauses.{Clause}
use Rattle.proof_semantics.specs.Logs.{StepValue, LogItem, LiteralSet, EndsInConflict}
use Rattle.needed_log.specs.Renumbered.{new_id, new_step, new_item}
use Rattle.needed_log.proofs.Steps.{clause_of}

pub new_id-early : (clauses : ℕ) (ids : List ℕ) (id : ℕ) → id ≤ clauses → new_id clauses ids id ≡ id
new_id-early clauses ids id low = ap (λ t. cond t (get_or ids (id - clauses - 1) 0) id) (le-ltb clauses id low)

pub new_id-late : (clauses : ℕ) (ids : List ℕ) (id k : ℕ) → id ≡ clauses + 1 + k → new_id clauses ids id ≡ get_or ids k 0
new_id-late clauses ids id k e =
    let at : id - clauses - 1 ≡ k = omega (arith, e) in
    ap (λ t. cond t (get_or ids (id - clauses - 1) 0) id) (lt-ltb clauses id (omega (arith, e))) ∙ ap (λ p. get_or ids p 0) at

-- what the hints name is held under their new ids
pub conflict_carried : (old new : ℕ → Option Clause) (f : ℕ → ℕ) (hints : List ℕ) (set : LiteralSet) → All (λ id. (clause : Clause) → old id ≡ Some clause → new (f id) ≡ Some clause) hints
    → EndsInConflict old set hints → EndsInConflict new set (map f hints)
conflict_carried old new f [] set h e = absurd e
conflict_carried old new f (hint ∷ []) set h (clause, is, none) =
    (clause, All-head (λ id. (c : Clause) → old id ≡ Some c → new (f id) ≡ Some c) hint [] h clause is, none)
conflict_carried old new f (hint ∷ next ∷ hints) set h (clause, l, is, unit, rest) = (
  clause,
  l,
  All-head (λ id. (c : Clause) → old id ≡ Some c → new (f id) ≡ Some c) hint (next ∷ hints) h clause is,
  unit,
  conflict_carried old new f (next ∷ hints) (literals.insert set l) (All-tail (λ id. (c : Clause) → old id ≡ Some c → new (f id) ≡ Some c) hint (next ∷ hints) h) rest,
)

pub clause_of-new : (clauses : ℕ) (ids : List ℕ) (item : LogItem) → clause_of (new_item clauses ids item) ≡ clause_of item
clause_of-new clauses ids (Add s) = refl
clause_of-new clauses ids (Remove gone) = refl

pub map_same : {X : Type 0} (f : X → X) (xs : List X) → All (λ x. f x ≡ x) xs → map f xs ≡ xs
map_same f [] h = refl
map_same {X} f (x ∷ xs) h =
    ap (λ y. y ∷ map f xs) (All-head (λ (y : X). f y ≡ y) x xs h) ∙ ap (λ ys. x ∷ ys) (map_same f xs (All-tail (λ (y : X). f y ≡ y) x xs h))

-- a step whose ids stay is the same step
pub step_same : (clauses : ℕ) (ids : List ℕ) (s : StepValue) → new_id clauses ids s.id ≡ s.id → All (λ id. new_id clauses ids id ≡ id) s.hints → new_step clauses ids s ≡ s
step_same clauses ids s same h =
    let hints : map (new_id clauses ids) s.hints ≡ s.hints = map_same (new_id clauses ids) s.hints h in
    ap (λ id. record { id = id; literals = s.literals; hints = map (new_id clauses ids) s.hints }) same ∙ ap (λ named. record { id = s.id; literals = s.literals; hints = named }) hints
