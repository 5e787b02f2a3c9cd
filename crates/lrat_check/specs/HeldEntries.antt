-- Clauses in the order of their ids, of which some were removed.
use Rattle.std.specs.Prelude.{◌≡◌, ◌≢◌, ℕ, ◌<◌, ◌≤◌, List, [], ◌∷◌, length, slice_index_or, Option, None}
use Rattle.std.specs.Prelude.{Some, refl}
use Rattle.std.specs.List.{All, AllPairs}
use Rattle.std.specs.FinMap as map
use Rattle.std.specs.Coded.{Coded, code_by, coded×, coded_ℕ, coded_ℤ, coded_list}
use Rattle.proof_semantics.specs.Clauses.{Clause}
use Rattle.proof_semantics.specs.Logs.{Held}
use Rattle.lrat_check.specs.declared.held_clauses.Entry.{Entry}

-- the clauses by their ids, and the greatest id so far
pub record HeldValue : Type 0 where
  pub held : Held
  pub last : ℕ

abbrev pub held_code : Coded HeldValue
held_code = code_by (Held × ℕ) (coded× (map.code coded_ℕ (coded_list coded_ℤ)) coded_ℕ)
    (λ h. (h.held, h.last)) (λ p. record { held = p.0; last = p.1 }) (λ _. refl)

abbrev pub nothing_held : HeldValue
nothing_held = record { held = map.empty; last = 0 }

abbrev pub without_clause : Entry → Entry
without_clause e = record e { clause = None }

abbrev pub IsBefore : Entry → Entry → Type 0
IsBefore a b = a.id < b.id

abbrev pub with_entry : ℕ → Option Clause → List (ℕ × Clause) → List (ℕ × Clause)
with_entry id None rest = rest
with_entry id (Some clause) rest = (id, clause) ∷ rest

-- the ids that are held with their clauses
abbrev pub held_entries : List Entry → List (ℕ × Clause)
held_entries [] = []
held_entries (e ∷ entries) = with_entry e.id e.clause (held_entries entries)

abbrev pub held_in : List Entry → Held
held_in entries = map.from_entries (held_entries entries)

-- ids rise, and none is above the last
pub record AreInOrder (entries : List Entry) (last : ℕ) : Type 0 where
  pub rising : AllPairs IsBefore entries
  pub within : All (λ e. e.id ≤ last) entries

-- the place at which the id stands, if it does
abbrev pub IsPlaceOf : List Entry → ℕ → Option ℕ → Type 0
IsPlaceOf entries id None = (i : ℕ) (d : Entry) → i < length entries → (slice_index_or entries i d).id ≢ id
IsPlaceOf entries id (Some place) = (place < length entries)
    × ((d : Entry) → (slice_index_or entries place d).id ≡ id)
