-- Clauses and their ids: in a formula with a log behind it the first clause has the id 1, and each further
-- clause the next id. Source: LRAT.
use Rattle.std.specs.Prelude.{◌≡◌, ◌≢◌, ℕ, suc, ◌<◌, Bool, true, false, not, List, [], ◌∷◌, length}
use Rattle.proof_semantics.specs.Clauses.{Clause}
use Rattle.proof_semantics.specs.NetClauses.{literal_at}
use Rattle.proof_semantics.specs.Conflicts.{clause_at}
use Rattle.merge_log.specs.Chains.{MergedValue, first_of, id_of}

-- the clause has the id
abbrev pub HasId : List Clause → ℕ → Clause → Type 0
HasId clauses id clause = (place : ℕ) × (id ≡ suc place) × (place < length clauses)
    × (clause_at clauses place ≡ clause)

-- these clauses have the ids from `id` on
abbrev pub HaveIds : List Clause → ℕ → List Clause → Type 0
HaveIds clauses id [] = Unit {0}
HaveIds clauses id (clause ∷ more) = HasId clauses id clause × HaveIds clauses (suc id) more

-- the variable of s has the value that is not `sign`, or that of u has `sign`
abbrev pub link : ℕ → ℕ → Bool → Clause
link s u sign = literal_at s (not sign) ∷ literal_at u sign ∷ []

-- the two clauses that make the variables of s and u equal
abbrev pub forth : ℕ → ℕ → Clause
forth s u = link s u true

abbrev pub back : ℕ → ℕ → Clause
back s u = link s u false

-- each signal that was made equal to another has its two clauses
abbrev pub AreMerged : List Clause → MergedValue → Type 0
AreMerged clauses m = (s : ℕ) → first_of m s ≢ s
    → HasId clauses (id_of m s) (forth s (first_of m s))
    × HasId clauses (suc (id_of m s)) (back s (first_of m s))
