-- Input vectors which show that no move of a net is allowed: each move is broken by one of them. Source: this
-- tool's own certificates.
use Rattle.std.specs.Prelude.{ℕ, Bool, List, Contains}
use Rattle.std.specs.List.{AllByRecursion}
use Rattle.semantics.specs.Net.{NetValue}
use Rattle.semantics.specs.declared.metric.Metric.{Metric}
use Rattle.chain_semantics.specs.declared.moves.Move.{Move}
use Rattle.chain_semantics.specs.Moves.{moves_of}
use Rattle.chain_semantics.specs.Care.{IsBrokenAt}

-- at one or more of the vectors the moved net exceeds the bound
abbrev pub IsBrokenBySome : Metric → NetValue → ℕ → NetValue → List (List Bool) → Move → Type 0
IsBrokenBySome metric exact bound N vectors move = (x : List Bool) × Contains vectors x
    × IsBrokenAt metric exact bound N move x

-- each of these moves of the net is broken by some of the vectors
abbrev pub AreBrokenBySome : Metric → NetValue → ℕ → NetValue → List (List Bool) → List Move → Type 0
AreBrokenBySome metric exact bound N vectors = AllByRecursion (IsBrokenBySome metric exact bound N vectors)

-- each move of the net is broken by some of the vectors
abbrev pub IsMinimalBy : Metric → NetValue → ℕ → NetValue → List (List Bool) → Type 0
IsMinimalBy metric exact bound N vectors = AreBrokenBySome metric exact bound N vectors (moves_of N)
