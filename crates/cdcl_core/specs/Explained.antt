-- What hints explain: replayed in order, they end in a conflict wherever certain literals are true.
use Rattle.std.specs.Prelude.{◌≡◌, ℕ, ◌<◌, Bool, true, false, List, length, slice_index_or, ℤ}
use Rattle.std.specs.FinSet as literals
use Rattle.std.specs.FinMap.{get}
use Rattle.proof_semantics.specs.Clauses.{Clause}
use Rattle.proof_semantics.specs.Logs.{LiteralSet, EndsInConflict, held_of}
use Rattle.cdcl_core.specs.Trail.{literal_at, IsTrueBelow}

-- l is true in the trail
abbrev pub Holds : List ℤ → ℤ → Type 0
Holds trail l = IsTrueBelow trail (length trail) l

abbrev pub IsIn : LiteralSet → ℤ → Type 0
IsIn set l = literals.contains set l ≡ true

-- the hints end in a conflict from each set of true literals that contains those of T
pub record Explains (clauses : List Clause) (trail : List ℤ) (T : ℤ → Type 0) (hints : List ℕ) : Type 0 where
  pub along : (set : LiteralSet) → ((l : ℤ) → IsIn set l → Holds trail l) → ((l : ℤ) → T l → IsIn set l)
      → EndsInConflict (get (held_of clauses)) set hints

-- l is true by an entry that is marked: the entry is still to be explained, or its negation stays in the
-- learned clause
pub record IsMarked (trail : List ℤ) (marks : List Bool) (l : ℤ) : Type 0 where
  pub place : ℕ
  pub within : place < length trail
  pub marked : slice_index_or marks place false ≡ true
  pub is : literal_at trail place ≡ l

-- the hints, replayed from the marked literals, end in a conflict
abbrev pub IsExplained : List Clause → List ℤ → List Bool → List ℕ → Type 0
IsExplained clauses trail marks hints = Explains clauses trail (IsMarked trail marks) hints
