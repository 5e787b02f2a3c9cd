-- What holds after some tables were taken, by rising level and in their order at each level.
use Rattle.std.specs.Prelude.{◌≡◌, ◌≢◌, ℕ, ◌+◌, ◌<◌, ◌≤◌, List, length, slice_get, slice_index_or, Some, All}
use Rattle.semantics.specs.Net.{NetValue, input_count, table_count, signal_count, table_at}
use Rattle.proof_semantics.specs.Alike.{IsAlike}
use Rattle.proof_semantics.specs.Formula.{goal_of}
use Rattle.proof_semantics.specs.Logs.{LogItem, IsDerivation}
use Rattle.proof_semantics.specs.Conflicts.{added_clauses, clauses_with}
use Rattle.proof_semantics.specs.Merges.{IsPair}
use Rattle.merge_log.specs.Chains.{MergedValue, first_of, id_of}
use Rattle.merge_log.specs.Ids.{AreMerged}
use Rattle.merge_log.specs.Forms.{FormValue, form_of}
use Rattle.merge_log.specs.Levels.{AreLevels, IsTaken}

-- the log so far, what it made equal, the forms of the tables that are the first of their kind, and these
-- tables
pub record MergingValue : Type 0 where
  pub log : List LogItem
  pub merged : MergedValue
  pub forms : List FormValue
  pub tables : List ℕ

module _ (N : NetValue) (levels : List ℕ) (level t : ℕ) where
  abbrev pub IsDone : ℕ → Type 0
  IsDone s = (s < signal_count N) × IsTaken levels level (input_count N + t) s

  -- the table at place k of those that are the first of their kind
  pub record IsFirstOfKind (g : MergingValue) (k : ℕ) : Type 0 where
    pub table : slice_index_or g.tables k 0 < table_count N
    pub done : IsDone (input_count N + slice_index_or g.tables k 0)
    pub alone : first_of g.merged (input_count N + slice_index_or g.tables k 0)
        ≡ input_count N + slice_index_or g.tables k 0
    pub form : slice_get g.forms k ≡ Some (form_of g.merged (table_at N.tables (slice_index_or g.tables k 0)))

  pub record IsMerging (g : MergingValue) : Type 0 where
    pub derivation : IsDerivation (goal_of N) g.log
    pub pairs : All IsPair (added_clauses g.log)
    pub merged : AreMerged (clauses_with (goal_of N).clauses g.log) g.merged
    pub behind : (s : ℕ) → first_of g.merged s ≢ s → length (goal_of N).clauses < id_of g.merged s
    pub count : length g.merged.firsts ≡ signal_count N
    pub alone : (s : ℕ) → (IsDone s → ⊥) → first_of g.merged s ≡ s
    pub earlier : (s : ℕ) → IsDone s → first_of g.merged s ≤ s
    pub alike : (s : ℕ) → IsDone s → IsAlike (input_count N) N.tables s (first_of g.merged s)
    pub same : (s u : ℕ) → IsDone s → IsDone u → IsAlike (input_count N) N.tables s u
        → first_of g.merged s ≡ first_of g.merged u
    pub forms_count : length g.forms ≡ length g.tables
    pub kinds : (k : ℕ) → k < length g.tables → IsFirstOfKind g k
    pub all : (i : ℕ) → i < table_count N → IsDone (input_count N + i)
        → first_of g.merged (input_count N + i) ≡ input_count N + i
        → (k : ℕ) × (k < length g.tables) × (slice_index_or g.tables k 0 ≡ i)

-- the level of table t
abbrev pub level_at : NetValue → List ℕ → ℕ → ℕ
level_at N levels t = slice_index_or levels (input_count N + t) 0

-- table t, which is next, has the form of the table at place `kind` among the tables that are the first of
-- their kind
pub record IsFound (N : NetValue) (levels : List ℕ) (t : ℕ) (g : MergingValue) (kind : ℕ) : Type 0 where
  pub levels_are : AreLevels (input_count N) N.tables levels
  pub table : t < table_count N
  pub merging : IsMerging N levels (level_at N levels t) t g
  pub within : kind < length g.tables
  pub form : slice_get g.forms kind ≡ Some (form_of g.merged (table_at N.tables t))
