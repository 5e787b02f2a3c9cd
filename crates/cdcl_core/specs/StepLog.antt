-- The log of a search, whose last step may be held in the lists in which it was made.
use Rattle.std.specs.Prelude.{ℕ, Bool, true, false, List, [], ◌∷◌, ◌++◌}
use Rattle.proof_semantics.specs.declared.item.Item.TheVariants.{Add}
use Rattle.proof_semantics.specs.Clauses.{Clause}
use Rattle.proof_semantics.specs.Logs.{LogItem}

-- the items, and whether no step is held
pub record LogValue : Type 0 where
  pub items : List LogItem
  pub is_packed : Bool

-- the packed items, and behind them the step of these parts, if one is held
abbrev pub with_held : List LogItem → Bool → ℕ → Clause → List ℕ → List LogItem
with_held packed false id C hints = packed
with_held packed true id C hints = packed ++ Add (record { id = id; literals = C; hints = hints }) ∷ []
