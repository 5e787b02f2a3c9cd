-- Which ids are named: tests and memberships, and that what a derived step names is held.
use Rattle.std.proofs.Common.{◌≡◌, ℕ, true, List, [], ◌∷◌, refl, ap, subst, sym, ◌∙◌, inl, inr, Option, Some}
use Rattle.std.specs.Prelude.{◌==◌}
use Rattle.std.specs.List.{Contains}
use Rattle.std.specs.FinSet as literals
use Rattle.std.proofs.lemmas.Bool.{or_cases, or_left, or_right}
use Rattle.std.proofs.lemmas.Bool.Decides.{Decides-eqb}
use Rattle.proof_semantics.specs.Clauses.{Clause}
use Rattle.proof_semantics.specs.Logs.{StepValue, LiteralSet, EndsInConflict}
use Rattle.trim_semantics.specs.Kept.{is_empty_clause}
use Rattle.trim_semantics.specs.Trimming.{has_id, is_named}
use Rattle.trim_semantics.proofs.Members.{contains_first, contains_later, contains_cases, contains_none}

pub has-contains : (ids : List ℕ) (id : ℕ) → has_id ids id ≡ true → Contains ids id
has-contains [] id h = cc
has-contains (other ∷ ids) id h = elim (or_cases (id == other) (has_id ids id) h) [
  | inl same ↦ subst (λ x. Contains (x ∷ ids) id) ((Decides-eqb id other).0 same) (contains_first id ids)
  | inr later ↦ contains_later other ids id (has-contains ids id later)
]

pub contains-has : (ids : List ℕ) (id : ℕ) → Contains ids id → has_id ids id ≡ true
contains-has [] id h = absurd (contains_none id h)
contains-has (other ∷ ids) id h = elim (contains_cases other ids id h) [
  | inl same ↦ or_left (id == other) (has_id ids id) ((Decides-eqb id other).1 (sym same))
  | inr later ↦ or_right (id == other) (has_id ids id) (contains-has ids id later)
]

-- the step that names an id
pub namer : (steps : List StepValue) (id : ℕ) → is_named steps id ≡ true → (t : StepValue) × Contains steps t × Contains t.hints id
namer [] id h = cc
namer (s ∷ steps) id h = elim (or_cases (has_id s.hints id) (is_named steps id) h) [
  | inl here ↦ (s, contains_first s steps, has-contains s.hints id here)
  | inr later ↦ let found = namer steps id later in (found.0, contains_later s steps found.0 found.1, found.2)
]

pub naming : (steps : List StepValue) (id : ℕ) (t : StepValue) → Contains steps t → Contains t.hints id → is_named steps id ≡ true
naming [] id t h n = absurd (contains_none t h)
naming (s ∷ steps) id t h n = elim (contains_cases s steps t h) [
  | inl same ↦ or_left (has_id s.hints id) (is_named steps id) (contains-has s.hints id (subst (λ u. Contains u.hints id) (sym same) n))
  | inr later ↦ or_right (has_id s.hints id) (is_named steps id) (naming steps id t later n)
]

pub empty_is : (clause : Clause) → is_empty_clause clause ≡ true → clause ≡ []
empty_is [] h = refl
empty_is (l ∷ clause) h = cc

-- ---- hints of a derived step

pub hints_held : (held : ℕ → Option Clause) (set : LiteralSet) (hints : List ℕ) (id : ℕ) → EndsInConflict held set hints → Contains hints id → (clause : Clause) × (held id ≡ Some clause)
hints_held held set [] id h m = absurd h
hints_held held set (hint ∷ []) id (clause, is, none) m = elim (contains_cases hint [] id m) [
  | inl same ↦ (clause, ap held (sym same) ∙ is)
  | inr later ↦ absurd (contains_none id later)
]
hints_held held set (hint ∷ next ∷ hints) id (clause, l, is, unit, rest) m = elim (contains_cases hint (next ∷ hints) id m) [
  | inl same ↦ (clause, ap held (sym same) ∙ is)
  | inr later ↦ hints_held held (literals.insert set l) (next ∷ hints) id rest later
]

-- it derives as well from other clauses that are held alike under its hints
pub conflict_kept : (held short : ℕ → Option Clause) (set : LiteralSet) (hints : List ℕ) → EndsInConflict held set hints
    → ((id : ℕ) (clause : Clause) → Contains hints id → held id ≡ Some clause → short id ≡ Some clause) → EndsInConflict short set hints
conflict_kept held short set [] h same = h
conflict_kept held short set (hint ∷ []) (clause, is, none) same = (clause, same hint clause (contains_first hint []) is, none)
conflict_kept held short set (hint ∷ next ∷ hints) (clause, l, is, unit, rest) same = (
  clause,
  l,
  same hint clause (contains_first hint (next ∷ hints)) is,
  unit,
  conflict_kept held short (literals.insert set l) (next ∷ hints) rest (λ id c m e. same id c (contains_later hint (next ∷ hints) id m) e),
)
