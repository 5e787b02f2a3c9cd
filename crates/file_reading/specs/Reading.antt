-- What the reading of a file comes to: from its first byte on, to its end or as far as it is wanted.
use Rattle.std.specs.Prelude.{◌≡◌, ◌⊎◌, ℕ, ◌+◌, ◌<◌, ◌≤◌, Bool, false, IsTrue, [], length, take, Some}
use Rattle.std.specs.FinMap.{contains_key}
use Rattle.semantics.specs.Texts.{Bytes}
use Rattle.outside_semantics.specs.Outside.{Held, FilesTold, Goes, Rose, WhereTold, KeepsAtRead, IsReadOut}
use Rattle.outside_semantics.specs.Outside.{bytes_of, turns_on, turn_budget}

-- the text is the first part of the file that is being read, up to its place
pub record HasRead (told : FilesTold) (held : Held) (name text : Bytes) : Type 0 where
  pub place : told.reading ≡ Some (record { name = name; at = length text })
  pub front : text ≡ take (length text) (bytes_of held name)

-- `turns` turns of reading, from the moment at which the file was opened
pub record SoFar (opened now : FilesTold) (text : Bytes) (turns : ℕ) : Type 0 where
  pub keeps : KeepsAtRead opened now
  pub taken : turns ≤ length text
  pub counted : (name : Bytes) → opened.opened ≡ Some name → turns_on opened name + turns ≤ turns_on now name
  pub reads : (held : Held) (name : Bytes) → opened.held ≡ Some held → HasRead opened held name []
      → HasRead now held name text

-- the file has no more bytes
pub record HasEnded (told : FilesTold) (text : Bytes) : Type 0 where
  pub ends : (held : Held) (name : Bytes) → told.held ≡ Some held → HasRead told held name text
      → length (bytes_of held name) ≤ length text

-- what is told of the files, and the text that was handed on so far
pub record ReadingState : Type 0 where
  pub told : FilesTold
  pub text : Bytes

-- one turn of reading: bytes came, or none because none are left or wanted
pub record TurnRead (old new : ReadingState) (room : ℕ) (more : Bool) : Type 0 where
  pub keeps : KeepsAtRead old.told new.told
  pub reads : (held : Held) (name : Bytes) → old.told.held ≡ Some held → HasRead old.told held name old.text
      → HasRead new.told held name new.text
  pub grows : IsTrue more → length old.text < length new.text
  pub turn : IsTrue more → (name : Bytes) → old.told.opened ≡ Some name
      → turns_on old.told name < turns_on new.told name
  pub stops : more ≡ false → (new.text ≡ old.text) × ((room ≡ 0) ⊎ HasEnded old.told old.text)

-- no file changed, and what was told of a held name is still told
pub record FilesStay (old new : FilesTold) (name : Bytes) : Type 0 where
  pub goes : Goes old new
  pub stays : WhereTold old new (λ a b. b ≡ a)
  pub still_told : (a : Held) → old.held ≡ Some a → IsTrue (contains_key a name) → new.held ≡ Some a

-- the text is a first part of the file
abbrev pub IsFrontOf : FilesTold → FilesTold → Bytes → Bytes → Type 0
IsFrontOf old new name text = WhereTold old new (λ a b. text ≡ take (length text) (bytes_of a name))

-- the text is all of the file; or a first part of it, and no more is wanted
abbrev pub IsAllWanted : Bytes → Bytes → ℕ → Type 0
IsAllWanted content text room = (text ≡ content) ⊎ ((room ≡ 0) × (text ≡ take (length text) content))

-- the file was read as far as it was wanted
pub record FileRead (old new : FilesTold) (name text : Bytes) (room : ℕ) : Type 0 where
  pub stay : FilesStay old new name
  pub held : WhereTold old new (λ a b. IsTrue (contains_key a name))
  pub all : WhereTold old new (λ a b. IsAllWanted (bytes_of a name) text room)

-- a fault came while the file was opened or read, and the file is not steady
pub record FileFailed (old new : FilesTold) (name : Bytes) : Type 0 where
  pub stay : FilesStay old new name
  pub rose : Rose old.faults new.faults
  pub not_steady : old.steady_read name ≡ false

-- The budget of turns was spent on the file. Each turn gave at least one byte, so at least as many bytes were
-- taken in, and the file has at least as many.
pub record FileEndless (old new : FilesTold) (name text : Bytes) : Type 0 where
  pub stay : FilesStay old new name
  pub read_out : IsReadOut old new name
  pub taken : turn_budget ≤ length text
  pub front : IsFrontOf old new name text
  pub long : WhereTold old new (λ a b. turn_budget ≤ length (bytes_of a name))
