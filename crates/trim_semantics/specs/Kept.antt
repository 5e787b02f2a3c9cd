-- Which additions of a log its refutation stands on. Source: backward checking of clausal proofs, which marks
-- from the empty clause what each marked step names.
use Rattle.std.specs.Prelude.{◌≡◌, Bool, true, false, if◌then◌else◌, List, [], ◌∷◌, Option, None, Some}
use Rattle.std.specs.List.{Contains}
use Rattle.proof_semantics.specs.declared.item.Item.TheVariants.{Add, Remove}
use Rattle.proof_semantics.specs.Clauses.{Clause}
use Rattle.proof_semantics.specs.Logs.{StepValue, LogItem}

abbrev pub is_empty_clause : Clause → Bool
is_empty_clause [] = true
is_empty_clause (l ∷ literals) = false

-- the first addition that is the empty clause
abbrev pub root_of : List LogItem → Option StepValue
root_of [] = None
root_of (Add s ∷ log) = if is_empty_clause s.literals then Some s else root_of log
root_of (Remove ids ∷ log) = root_of log

-- the least set of additions that holds the root and, with each addition in it, every addition whose id is
-- among the hints of that one
pub data IsKept (log : List LogItem) : StepValue → Type 0 where
  root : (s : StepValue) → root_of log ≡ Some s → IsKept log s
  named : (s t : StepValue) → Contains log (Add s) → IsKept log t → Contains t.hints s.id → IsKept log s
