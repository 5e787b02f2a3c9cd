-- What a log keeps of a longer one.
use Rattle.std.specs.Prelude.{◌≡◌, ◌↔◌, ℕ, ◌<◌, Bool, true, false, List, [], ◌∷◌, length, slice_index_or}
use Rattle.proof_semantics.specs.Logs.{LogItem}
use Rattle.proof_semantics.specs.Conflicts.{added_clauses}
use Rattle.needed_log.specs.Needed.{IsNeeded}

abbrev pub IsMarked : List Bool → ℕ → Type 0
IsMarked marks k = slice_index_or marks k false ≡ true

-- what stands at marked places
abbrev pub kept : {X : Type 0} → List Bool → List X → List X
kept [] xs = []
kept (mark ∷ marks) [] = []
kept (true ∷ marks) (x ∷ xs) = x ∷ kept marks xs
kept (false ∷ marks) (x ∷ xs) = kept marks xs

-- the clauses that the short log adds are those at the needed places of the long one, in their order
pub record KeepsNeeded (clauses first : ℕ) (log short : List LogItem) : Type 0 where
  pub marks : List Bool
  pub exactly : (k : ℕ) → k < length log → IsMarked marks k ↔ IsNeeded clauses first log k
  pub same : added_clauses short ≡ kept marks (added_clauses log)
