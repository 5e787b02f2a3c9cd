-- An addition at its place in a log.
use Rattle.std.specs.Prelude.{◌≡◌, ℕ, All}
use Rattle.proof_semantics.specs.declared.item.Item.TheVariants.{Add, Remove}
use Rattle.proof_semantics.specs.Clauses.{IsLiteralOf}
use Rattle.proof_semantics.specs.Logs.{LogItem}

-- the item adds a clause of literals of the first `variables` variables under this id
abbrev pub AddsAt : ℕ → ℕ → LogItem → Type 0
AddsAt variables id (Add s) = (s.id ≡ id) × All (IsLiteralOf variables) s.literals
AddsAt variables id (Remove ids) = ⊥
