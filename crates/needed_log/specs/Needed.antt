-- Which additions of a log are needed. Behind the ids of a formula's clauses the addition at place k, from 0,
-- has the id `clauses + 1 + k`. Source: backward checking of clausal proofs, which marks from the last step
-- what each marked step names.
use Rattle.std.specs.Prelude.{◌≡◌, ℕ, ◌+◌, ◌<◌, ◌≤◌, List, [], drop, length, slice_index_or}
use Rattle.std.specs.List.{Contains}
use Rattle.proof_semantics.specs.declared.item.Item.TheVariants.{Add, Remove}
use Rattle.proof_semantics.specs.Logs.{StepValue, LogItem}

-- the hints of an item; a removal has none
abbrev pub hints_of : LogItem → List ℕ
hints_of (Add s) = s.hints
hints_of (Remove ids) = []

-- the hints of the item at a place
abbrev pub hints_at : List LogItem → ℕ → List ℕ
hints_at log k = hints_of (slice_index_or log k (Remove []))

-- the least set of places that holds the first ones and the last one, and with each place those of the
-- additions among its hints
pub data IsNeeded (clauses first : ℕ) (log : List LogItem) : ℕ → Type 0 where
  early : (k : ℕ) → k < first → IsNeeded clauses first log k
  last : (k : ℕ) → k + 1 ≡ length log → IsNeeded clauses first log k
  named : (k j : ℕ) → IsNeeded clauses first log j → Contains (hints_at log j) (clauses + 1 + k)
      → IsNeeded clauses first log k

-- each addition at a place of at least `first`, but the last addition, is a hint of a later one
abbrev pub IsNeededFrom : ℕ → List LogItem → Type 0
IsNeededFrom first log = (k : ℕ) (s : StepValue) → first ≤ k → k + 1 < length log
    → slice_index_or log k (Add s) ≡ Add s
    → (t : StepValue) × Contains (drop (k + 1) log) (Add t) × Contains t.hints s.id
