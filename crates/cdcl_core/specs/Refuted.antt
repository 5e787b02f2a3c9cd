-- What a conflict without a decision gives.
use Rattle.std.specs.Prelude.{ℕ, List, []}
use Rattle.proof_semantics.specs.Clauses.{Clause}
use Rattle.proof_semantics.specs.Logs.{Derives, held_of}

-- the empty clause derives by the hints under any id
abbrev pub IsRefuted : List Clause → List ℕ → Type 0
IsRefuted clauses hints = (id : ℕ)
    → Derives (held_of clauses) (record { id = id; literals = []; hints = hints })
