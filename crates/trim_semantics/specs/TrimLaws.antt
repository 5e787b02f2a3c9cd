-- The laws about trimmed logs, each the contract of a function without parameters.
use Rattle.std.specs.Prelude.{◌≡◌, ◌↔◌, ◌<◌, ◌≤◌, List, ◌∷◌, ◌++◌, Some}
use Rattle.std.specs.List.{Contains}
use Rattle.proof_semantics.specs.declared.item.Item.TheVariants.{Add}
use Rattle.proof_semantics.specs.Clauses.{Clause}
use Rattle.proof_semantics.specs.Logs.{StepValue, LogItem, Refutes}
use Rattle.trim_semantics.specs.Kept.{root_of, IsKept}
use Rattle.trim_semantics.specs.Trimmed.{IsTrimmed}
use Rattle.trim_semantics.specs.Trimming.{trimmed}

-- A log that refutes a formula has exactly one trimmed log. The trimmed log refutes the formula too, and is
-- its own trimmed log.
pub record TrimmedLaw : Type 0 where
  pub exactly : (formula : List Clause) (log : List LogItem) → Refutes formula log → (short : List LogItem)
      → IsTrimmed log short ↔ (short ≡ trimmed log)
  pub refutes : (formula : List Clause) (log : List LogItem) → Refutes formula log
      → Refutes formula (trimmed log)
  pub again : (formula : List Clause) (log : List LogItem) → Refutes formula log
      → trimmed (trimmed log) ≡ trimmed log

-- Ids rise along a log that refutes a formula. The log has a root, behind which nothing is kept. The trimmed
-- log adds what is kept, and each addition of the trimmed log is reached from the root of the trimmed log.
pub record KeptLaw : Type 0 where
  pub in_order : (formula : List Clause) (log : List LogItem) → Refutes formula log
      → (before behind : List LogItem) (s t : StepValue) → log ≡ before ++ Add s ∷ behind
      → Contains behind (Add t) → s.id < t.id
  pub root : (formula : List Clause) (log : List LogItem) → Refutes formula log
      → (s : StepValue) × (root_of log ≡ Some s)
  pub none_behind : (formula : List Clause) (log : List LogItem) → Refutes formula log → (s t : StepValue)
      → root_of log ≡ Some s → IsKept log t → t.id ≤ s.id
  pub added : (formula : List Clause) (log : List LogItem) → Refutes formula log → (s : StepValue)
      → Contains (trimmed log) (Add s) ↔ IsKept log s
  pub reached : (formula : List Clause) (log : List LogItem) → Refutes formula log → (s : StepValue)
      → Contains (trimmed log) (Add s) → IsKept (trimmed log) s
