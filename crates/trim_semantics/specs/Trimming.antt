-- How a trimmed log is found: an addition is kept where a kept addition behind it names it, so the kept
-- additions are found from the end.
use Rattle.std.specs.Prelude.{ℕ, Bool, not, ◌&&◌, if◌then◌else◌, List, [], ◌∷◌, ◌++◌, map, filter, ◌==◌}
use Rattle.std.specs.List.{list_any}
use Rattle.proof_semantics.specs.declared.item.Item.TheVariants.{Add, Remove}
use Rattle.proof_semantics.specs.Logs.{StepValue, LogItem}
use Rattle.trim_semantics.specs.Kept.{is_empty_clause}
use Rattle.trim_semantics.specs.Trimmed.{removal_of}

abbrev pub has_id : List ℕ → ℕ → Bool
has_id ids id = list_any (λ other. id == other) ids

-- some step has the id among its hints
abbrev pub is_named : List StepValue → ℕ → Bool
is_named steps id = list_any (λ s. has_id s.hints id) steps

-- through the first empty clause
abbrev pub kept_steps : List LogItem → List StepValue
kept_steps [] = []
kept_steps (Add s ∷ log) = if is_empty_clause s.literals then s
    ∷ [] else if is_named (kept_steps log) s.id then s ∷ kept_steps log else kept_steps log
kept_steps (Remove ids ∷ log) = kept_steps log

-- the ids among these that the step names and no later step names; after the last step there is none
abbrev pub ended_after : List ℕ → StepValue → List StepValue → List ℕ
ended_after ids s [] = []
ended_after ids s (t ∷ later) = filter (λ id. has_id s.hints id && not (is_named (t ∷ later) id)) ids

-- the steps in turn, each with the removal of what ends after it
abbrev pub with_removals : List ℕ → List StepValue → List LogItem
with_removals ids [] = []
with_removals ids (s ∷ later) = Add s ∷ (removal_of (ended_after ids s later) ++ with_removals ids later)

abbrev pub trimmed : List LogItem → List LogItem
trimmed log = with_removals (map (λ s. s.id) (kept_steps log)) (kept_steps log)
