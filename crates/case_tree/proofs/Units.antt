-- One hint further, over clauses that are held one after another.
use Rattle.std.proofs.Common.{◌≡◌, ℕ, ◌+◌, false, List, [], ◌∷◌, ◌++◌, length, subst, arith, ℤ, Option, Some}
use Rattle.std.specs.FinSet as literals
use Rattle.proof_semantics.specs.Clauses.{Clause}
use Rattle.proof_semantics.specs.Logs.{LiteralSet, open_literals, is_empty, EndsInConflict}

-- the clauses are held under the ids from `next` on
abbrev pub AreHeldFrom : (ℕ → Option Clause) → ℕ → List Clause → Type 0
AreHeldFrom held next [] = Unit {0}
AreHeldFrom held next (clause ∷ clauses) = (held next ≡ Some clause) × AreHeldFrom held (next + 1) clauses

pub AreHeldFrom-parts : (held : ℕ → Option Clause) (xs ys : List Clause) (next behind : ℕ) → next + length xs ≡ behind → AreHeldFrom held next (xs ++ ys)
    → AreHeldFrom held next xs × AreHeldFrom held behind ys
AreHeldFrom-parts held [] ys next behind e h = let same : next ≡ behind = omega (arith, e) in (tt, subst (λ id. AreHeldFrom held id ys) same h)
AreHeldFrom-parts held (x ∷ xs) ys next behind e h = let rest = AreHeldFrom-parts held xs ys (next + 1) behind (omega (arith, e)) h.1 in ((h.0, rest.0), rest.1)

-- a hint that has one open literal
pub unit-hint : (held : ℕ → Option Clause) (set : LiteralSet) (hint : ℕ) (clause : Clause) (l : ℤ) (hints : List ℕ) → held hint ≡ Some clause
    → open_literals set clause ≡ l ∷ [] → is_empty hints ≡ false → EndsInConflict held (literals.insert set l) hints → EndsInConflict held set (hint ∷ hints)
unit-hint held set hint clause l [] is one more rest = cc
unit-hint held set hint clause l (next ∷ hints) is one more rest = (clause, l, is, one, rest)
