-- Logs of steps, when a step derives its clause, and when a log refutes a formula. Source: LRAT with positive
-- hints.
use Rattle.std.specs.Prelude.{◌≡◌, ℕ, suc, ◌+◌, ◌^◌, ◌<◌, Bool, true, false, not, if◌then◌else◌, List, []}
use Rattle.std.specs.Prelude.{◌∷◌, filter, length, ℤ, neg_ℤ, nat_le, Option, None, Some, Result, Ok, Err, ⊤}
use Rattle.std.specs.Prelude.{All}
use Rattle.std.specs.Ordering.{nat_cmp, int_cmp}
use Rattle.std.specs.FinSet as literals
use Rattle.std.specs.FinMap.{FinMap, get, insert, remove, empty}
use Rattle.proof_semantics.specs.declared.item.Item.{Item}
use Rattle.proof_semantics.specs.declared.item.Item.TheVariants.{Add, Remove}
use Rattle.proof_semantics.specs.declared.step_refusal.StepRefusal.{StepRefusal}
use Rattle.proof_semantics.specs.declared.step_refusal.StepRefusal.TheVariants.{NotRising, UnknownId}
use Rattle.proof_semantics.specs.declared.step_refusal.StepRefusal.TheVariants.{NotUnit, NoConflict}
use Rattle.proof_semantics.specs.Clauses.{Clause, IsLiteralOf, with_literals}
use Rattle.proof_semantics.specs.Formula.{Formula}

-- a step: its id, the literals of its clause, and the ids of the clauses that it follows from
pub record StepValue : Type 0 where
  pub id : ℕ
  pub literals : Clause
  pub hints : List ℕ

abbrev pub LogItem : Type 0
LogItem = Item StepValue (List ℕ)

-- the clauses that are held, by their ids
abbrev pub Held : Type 0
Held = FinMap nat_cmp Clause

-- literals that are taken for true
abbrev pub LiteralSet : Type 0
LiteralSet = literals.FinSet int_cmp

-- the set with the negations of the literals
abbrev pub with_negations : LiteralSet → List ℤ → LiteralSet
with_negations set [] = set
with_negations set (l ∷ rest) = with_negations (literals.insert set (neg_ℤ l)) rest

-- a literal is false in a set if its negation is in the set
abbrev pub is_false_in : LiteralSet → ℤ → Bool
is_false_in set l = literals.contains set (neg_ℤ l)

-- the clause's literals that are not false in the set, each once
abbrev pub open_literals : LiteralSet → Clause → List ℤ
open_literals set clause = with_literals [] (filter (λ l. not (is_false_in set l)) clause)

-- Unit propagation along the hints ends in a conflict: each hint before the last has one open literal, which
-- joins the set, and the last has none.
abbrev pub EndsInConflict : (ℕ → Option Clause) → LiteralSet → List ℕ → Type 0
EndsInConflict held set [] = ⊥
EndsInConflict held set (hint ∷ []) = (clause : Clause) × (held hint ≡ Some clause)
    × (open_literals set clause ≡ [])
EndsInConflict held set (hint ∷ next ∷ hints) =
    (clause : Clause) × (l : ℤ) × (held hint ≡ Some clause) × (open_literals set clause ≡ l ∷ [])
    × EndsInConflict held (literals.insert set l) (next ∷ hints)

-- the step's clause follows from what is held
abbrev pub Derives : Held → StepValue → Type 0
Derives held s = EndsInConflict (get held) (with_negations literals.empty s.literals) s.hints

-- What a hint gives, by its open literals: the last hint gives the conflict, and ends the step; a hint before
-- the last gives a literal.
abbrev pub hint_answer : ℕ → Bool → List ℤ → Result (Option ℤ) StepRefusal
hint_answer hint true [] = Ok None
hint_answer hint true (l ∷ rest) = Err NoConflict
hint_answer hint false (l ∷ []) = Ok (Some l)
hint_answer hint false [] = Err (NotUnit hint)
hint_answer hint false (l ∷ m ∷ rest) = Err (NotUnit hint)

abbrev pub held_answer : LiteralSet → ℕ → Bool → Option Clause → Result (Option ℤ) StepRefusal
held_answer set hint last None = Err (UnknownId hint)
held_answer set hint last (Some clause) = hint_answer hint last (open_literals set clause)

abbrev pub is_empty : List ℕ → Bool
is_empty [] = true
is_empty (hint ∷ hints) = false

-- the hints in order: the first refusal, or the conflict
abbrev pub hints_answer : (ℕ → Option Clause) → LiteralSet → List ℕ → Result ⊤ StepRefusal
hints_answer held set [] = Err NoConflict
hints_answer held set (hint ∷ hints) = elim (held_answer set hint (is_empty hints) (held hint)) [
  | Err e ↦ Err e
  | Ok None ↦ Ok tt
  | Ok (Some l) ↦ hints_answer held (literals.insert set l) hints
]

-- whether a step is accepted behind the id `last`, or the first reason why not
abbrev pub step_answer : Held → ℕ → StepValue → Result ⊤ StepRefusal
step_answer held last s =
    if nat_le s.id last then Err (NotRising s.id)
    else hints_answer (get held) (with_negations literals.empty s.literals) s.hints

-- these ids are no longer held; an id that is not held means nothing
abbrev pub removed_from : Held → List ℕ → Held
removed_from held [] = held
removed_from held (id ∷ ids) = removed_from (remove held id) ids

-- ids rise, and each addition derives from what is held at its place
abbrev pub IsSoundFrom : Held → ℕ → List LogItem → Type 0
IsSoundFrom held last [] = Unit {0}
IsSoundFrom held last (Add s ∷ log) = (last < s.id) × Derives held s
    × IsSoundFrom (insert held s.id s.literals) s.id log
IsSoundFrom held last (Remove ids ∷ log) = IsSoundFrom (removed_from held ids) last log

-- the clauses are held from the id `next` on
abbrev pub held_from : Held → ℕ → List Clause → Held
held_from held next [] = held
held_from held next (clause ∷ clauses) = held_from (insert held next clause) (suc next) clauses

-- the clauses of a formula have the ids 1, 2 and so on
abbrev pub held_of : List Clause → Held
held_of formula = held_from empty 1 formula

abbrev pub IsSoundLog : List Clause → List LogItem → Type 0
IsSoundLog formula log = IsSoundFrom (held_of formula) (length formula) log

-- the clause of the last addition
abbrev pub last_added_after : Option Clause → List LogItem → Option Clause
last_added_after before [] = before
last_added_after before (Add s ∷ log) = last_added_after (Some s.literals) log
last_added_after before (Remove ids ∷ log) = last_added_after before log

abbrev pub last_added : List LogItem → Option Clause
last_added log = last_added_after None log

pub record Refutes (formula : List Clause) (log : List LogItem) : Type 0 where
  pub sound : IsSoundLog formula log
  pub ends : last_added log ≡ Some []

-- additions alone, with the ids after `last` in turn, each of literals of the first `variables` variables
abbrev pub AddsInTurn : ℕ → ℕ → List LogItem → Type 0
AddsInTurn variables last [] = Unit {0}
AddsInTurn variables last (Add s ∷ log) = (s.id ≡ last + 1) × All (IsLiteralOf variables) s.literals
    × AddsInTurn variables s.id log
AddsInTurn variables last (Remove ids ∷ log) = ⊥

pub record IsDerivation (f : Formula) (log : List LogItem) : Type 0 where
  pub sound : IsSoundLog f.clauses log
  pub in_turn : AddsInTurn f.variables (length f.clauses) log
  pub short : length f.clauses + length log < 2 ^ 63
