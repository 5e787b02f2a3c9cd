-- Files as a list of entries, a name and its bytes each. Of two entries with one name the first counts.
use Rattle.std.specs.Prelude.{◌≡◌, ◌≢◌, ℕ, ◌<◌, List, [], length, slice_index_or}
use Rattle.std.specs.Ordering.{nat_cmp}
use Rattle.std.specs.Cmp.Lexicographic.{slice_cmp}
use Rattle.std.specs.FinMap.{from_entries, insert}
use Rattle.semantics.specs.Texts.{Bytes}
use Rattle.outside_semantics.specs.Outside.{Held}

abbrev pub Entry : Type 0
Entry = Bytes × Bytes

abbrev pub entry_at : List Entry → ℕ → Entry
entry_at entries i = slice_index_or entries i ([], [])

abbrev pub name_at : List Entry → ℕ → Bytes
name_at entries i = (entry_at entries i).0

abbrev pub bytes_at : List Entry → ℕ → Bytes
bytes_at entries i = (entry_at entries i).1

abbrev pub held_in : List Entry → Held
held_in entries = from_entries {R = slice_cmp nat_cmp} entries

-- no entry has the name
abbrev pub LacksName : List Entry → Bytes → Type 0
LacksName entries name = (k : ℕ) → k < length entries → name_at entries k ≢ name

-- i is the place of the first entry with the name
pub record IsFirstAt (entries : List Entry) (name : Bytes) (i : ℕ) : Type 0 where
  pub within : i < length entries
  pub named : name_at entries i ≡ name
  pub before : (k : ℕ) → k < i → name_at entries k ≢ name

-- the entry at i counts
abbrev pub IsCounted : List Entry → ℕ → Type 0
IsCounted entries i = IsFirstAt entries (name_at entries i) i

-- the name, whose entry is at i, now holds the bytes, and all other files stay
pub record SetsFile (old new : List Entry) (name bytes : Bytes) (i : ℕ) : Type 0 where
  pub first : IsFirstAt new name i
  pub held : held_in new ≡ insert (held_in old) name bytes
  pub keeps : (other : Bytes) (k : ℕ) → IsFirstAt old other k → IsFirstAt new other k
