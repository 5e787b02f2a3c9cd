use Rattle.std.proofs.Common.{◌≡◌, ℕ, ◌<◌}
use Rattle.file_core.specs.Entries.{name_at}
use Rattle.file_core.proofs.lists.find_name.Given as goal

abbrev pub invariant-loop-place : goal.invariant-loop-place
invariant-loop-place l = (k : ℕ) → k < l.place → name_at l.items k ≡ l.name → ⊥
