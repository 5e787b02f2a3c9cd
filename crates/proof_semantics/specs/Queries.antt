-- Queries whether some input's error exceeds a level, and what holds of their three answers. Source: SALSA's
-- queries on the quality function circuit, here answered by a witness, by a refutation, or by the conflicts
-- that were spent.
use Rattle.std.specs.Prelude.{◌≡◌, ℕ, ◌<◌, ◌≤◌, Bool, List, take, length}
use Rattle.semantics.specs.Net.{NetValue, input_count}
use Rattle.semantics.specs.declared.metric.Metric.{Metric}
use Rattle.semantics.specs.declared.limits.TheConstants.{FEW_INPUTS, MOST_CASE_INPUTS}
use Rattle.semantics.specs.Error.{number_of, net_error, IsWithin}
use Rattle.semantics.specs.Vectors.{IsFirstGreatestAt}
use Rattle.quality_semantics.specs.Joint.{joint_net}
use Rattle.proof_semantics.specs.declared.constraint.Constraint.{Constraint}
use Rattle.proof_semantics.specs.Logs.{LogItem, Refutes, IsDerivation}
use Rattle.proof_semantics.specs.Miter.{miter}
use Rattle.proof_semantics.specs.Conflicts.{IsConflictChain, IsEnough}
use Rattle.proof_semantics.specs.Merges.{IsMergeLog, BeginsWithMerges}

-- an input vector whose error exceeds the level; with few inputs the first in counting order
pub record IsOver (metric : Metric) (exact approx : NetValue) (k : ℕ) (x : List Bool) : Type 0 where
  pub width : length x ≡ input_count exact
  pub exceeds : k < net_error metric exact approx x
  pub first : input_count exact ≤ FEW_INPUTS → (y : List Bool) → length y ≡ input_count exact
      → number_of y < number_of x → net_error metric exact approx y ≤ k

-- The log refutes the miter, so no input's error exceeds the level. Where the inputs are too many to be
-- answered by all cases, the log begins with the merges of the joint net.
pub record IsNever (metric : Metric) (exact approx : NetValue) (k : ℕ) (log : List LogItem) : Type 0 where
  pub refutes : Refutes (miter exact approx metric k).clauses log
  pub derivation : IsDerivation (miter exact approx metric k) log
  pub within : IsWithin metric exact k approx
  pub merged : MOST_CASE_INPUTS < input_count exact → BeginsWithMerges (joint_net exact approx metric k) log

-- a query that ended without an answer: the approximate net, the level, the number of merged steps, and the
-- log
pub record SpentValue : Type 0 where
  pub net : NetValue
  pub k : ℕ
  pub merged : ℕ
  pub log : List LogItem

-- The limit is not enough for the inputs, and the log has spent it: the log begins with the merges of the
-- joint net, and behind these come exactly `limit` conflicts over the miter.
pub record IsSpentQuery (metric : Metric) (exact : NetValue) (limit : ℕ) (s : SpentValue) : Type 0 where
  pub not_enough : ¬ IsEnough limit (input_count exact)
  pub merged : IsMergeLog (joint_net exact s.net metric s.k) (take s.merged s.log)
  pub chain : IsConflictChain (miter exact s.net metric s.k) s.merged limit s.log

-- an error, an input vector that has it, and the log that is to show that no input's error is greater
pub record MaximumValue : Type 0 where
  pub error : ℕ
  pub witness : List Bool
  pub log : List LogItem

-- The greatest error over all inputs, an input that has this error, and a log that refutes the miter at this
-- error; with few inputs the input is the first such input in counting order.
pub record IsMaximum (metric : Metric) (exact approx : NetValue) (m : MaximumValue) : Type 0 where
  pub width : length m.witness ≡ input_count exact
  pub attained : net_error metric exact approx m.witness ≡ m.error
  pub never : IsNever metric exact approx m.error m.log
  pub first : input_count exact ≤ FEW_INPUTS
      → IsFirstGreatestAt (input_count exact) (net_error metric exact approx) m.error m.witness

-- a search for the greatest error was spent at a level within the bound
pub record IsSpentLevel (aim : Constraint) (exact approx : NetValue) (s : SpentValue) : Type 0 where
  pub query : IsSpentQuery aim.metric exact aim.limit s
  pub net : s.net ≡ approx
  pub level : s.k ≤ aim.bound
