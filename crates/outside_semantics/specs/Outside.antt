-- What a set of files and a sink tell, and what each call on them may do. Source: this tool's own interface
-- to the outside.
use Rattle.std.specs.Prelude.{◌≡◌, ℕ, ◌+◌, ◌-◌, ◌^◌, ◌<◌, ◌≤◌, min, Bool, false, ◌&&◌, nat_lt, nat_le}
use Rattle.std.specs.Prelude.{IsTrue, List, [], ◌∷◌, ◌++◌, length, take, drop, count_by, bytes_eq, Option}
use Rattle.std.specs.Prelude.{Some, None, unwrap_or, if◌then◌else◌}
use Rattle.std.specs.Ordering.{nat_cmp}
use Rattle.std.specs.Cmp.Lexicographic.{slice_cmp}
use Rattle.std.specs.FinMap.{FinMap, get, insert, contains_key}
use Rattle.semantics.specs.Texts.{Bytes}

-- the bytes of each file, by its name
abbrev pub Held : Type 0
Held = FinMap (slice_cmp nat_cmp) Bytes

-- the bytes of a name; a name that is not held has no bytes
abbrev pub bytes_of : Held → Bytes → Bytes
bytes_of held name = unwrap_or (get held name) []

-- the file that is read, and the place of the next byte
pub record Place : Type 0 where
  pub name : Bytes
  pub at : ℕ

-- the most bytes that a read turn asks for
abbrev pub turn_bytes : ℕ
turn_bytes = 65536

-- how many read turns a file is read for at most
abbrev pub turn_budget : ℕ
turn_budget = 2 ^ 40

-- Where `held` is `None`, the files do not tell what they hold, and then they do not tell `reading` and
-- `writing` either. Files always tell the name that is open for reading, the name of each read turn so far
-- with the last first, and what concerns faults. A read turn is a read that asked for at most 65,536 bytes
-- and gave at least one. Files that are calm will have no fault; a steady name can be opened so that the
-- files are calm.
pub record FilesTold : Type 0 where
  pub held : Option Held
  pub reading : Option Place
  pub writing : Option Bytes
  pub opened : Option Bytes
  pub turns : List Bytes
  pub faults : ℕ
  pub steady_read : Bytes → Bool
  pub steady_write : Bytes → Bool
  pub calm_read : Bool
  pub calm_write : Bool

pub record SinkTold : Type 0 where
  pub put_bytes : Option Bytes
  pub faults : ℕ

-- how many read turns there were on a name
abbrev pub turns_on : FilesTold → Bytes → ℕ
turns_on told name = count_by (bytes_eq name) told.turns

-- a read that asked for `asked` bytes and gave n is a read turn
abbrev pub is_turn : ℕ → ℕ → Bool
is_turn asked n = nat_le asked turn_bytes && nat_lt 0 n

-- the read turns after one more read of the open file, which asked for `asked` bytes and gave n
abbrev pub turns_after : Option Bytes → ℕ → ℕ → List Bytes → List Bytes
turns_after None asked n turns = turns
turns_after (Some name) asked n turns = if is_turn asked n then name ∷ turns else turns

-- between two moments there were at least as many read turns on the name as the budget of turns
abbrev pub IsReadOut : FilesTold → FilesTold → Bytes → Type 0
IsReadOut old new name = turns_on old name + turn_budget ≤ turns_on new name

-- a count of faults rose between two moments, or it stands at its end, 2 ^ 64 - 1
abbrev pub Rose : ℕ → ℕ → Type 0
Rose before now = min (before + 1) (2 ^ 64 - 1) ≤ now

-- P of the held files, where they are told at both moments
abbrev pub WhereTold : FilesTold → FilesTold → (Held → Held → Type 0) → Type 0
WhereTold old new P = (a b : Held) → old.held ≡ Some a → new.held ≡ Some b → P a b

-- what every call on the files keeps
pub record Goes (old new : FilesTold) : Type 0 where
  pub counts : old.faults ≤ new.faults
  pub turns : (name : Bytes) → turns_on old name ≤ turns_on new name
  pub untold : old.held ≡ None → new.held ≡ None
  pub steady_read : (name : Bytes) → IsTrue (old.steady_read name) → IsTrue (new.steady_read name)
  pub steady_write : (name : Bytes) → IsTrue (old.steady_write name) → IsTrue (new.steady_write name)

-- what `read` and `append` keep besides `Goes`
pub record StaysCalm (old new : FilesTold) : Type 0 where
  pub read : IsTrue old.calm_read → IsTrue new.calm_read
  pub write : IsTrue old.calm_write → IsTrue new.calm_write

-- the name that is open for reading stays, and the read turns are those that were
pub record KeepsTurns (old new : FilesTold) : Type 0 where
  pub opened : new.opened ≡ old.opened
  pub turns : new.turns ≡ old.turns

-- opening a file for reading changes no file and is no read turn
pub record KeepsAtOpen (old new : FilesTold) (name : Bytes) : Type 0 where
  pub goes : Goes old new
  pub turns : new.turns ≡ old.turns
  pub stays : WhereTold old new (λ a b. b ≡ a)
  pub still_told : (a : Held) → old.held ≡ Some a → IsTrue (contains_key a name) → new.held ≡ Some a

pub record Opened (old new : FilesTold) (name : Bytes) : Type 0 where
  pub keeps : KeepsAtOpen old new name
  pub opened : new.opened ≡ Some name
  pub is_held : WhereTold old new (λ a b. IsTrue (contains_key a name))
  pub reading : WhereTold old new (λ a b. new.reading ≡ Some (record { name = name; at = 0 }))
  pub calm : IsTrue (old.steady_read name) → IsTrue new.calm_read

pub record OpenFailed (old new : FilesTold) (name : Bytes) : Type 0 where
  pub keeps : KeepsAtOpen old new name
  pub rose : Rose old.faults new.faults
  pub not_steady : old.steady_read name ≡ false
  pub closed : new.reading ≡ None
  pub none_opened : new.opened ≡ None

-- reading changes no file, and keeps what is told and which file is open
pub record KeepsAtRead (old new : FilesTold) : Type 0 where
  pub goes : Goes old new
  pub opened : new.opened ≡ old.opened
  pub calm : StaysCalm old new
  pub stays : (a : Held) → old.held ≡ Some a → new.held ≡ Some a

-- the next n bytes of the file stand at the front of the buffer; none come only at the file's end or for an
-- empty buffer
pub record GaveNext (content : Bytes) (place : Place) (n : ℕ) (buffer : Bytes)
    (reading : Option Place) : Type 0 where
  pub bytes : take n buffer ≡ take n (drop place.at content)
  pub moves : reading ≡ Some (record place { at = place.at + n })
  pub inside : n ≤ length content - place.at
  pub ends : 0 < length buffer → n ≡ 0 → length content ≤ place.at

pub record Gave (old new : FilesTold) (n : ℕ) (buffer : Bytes) : Type 0 where
  pub keeps : KeepsAtRead old new
  pub turns : new.turns ≡ turns_after old.opened (length buffer) n old.turns
  pub from_file : (a : Held) (place : Place) → old.held ≡ Some a → old.reading ≡ Some place
      → GaveNext (bytes_of a place.name) place n buffer new.reading
  pub nothing_open : (a : Held) → old.held ≡ Some a → old.reading ≡ None → n ≡ 0
  pub still_closed : (a : Held) → old.held ≡ Some a → old.reading ≡ None → new.reading ≡ None

pub record ReadFailed (old new : FilesTold) : Type 0 where
  pub keeps : KeepsAtRead old new
  pub turns : new.turns ≡ old.turns
  pub rose : Rose old.faults new.faults
  pub not_calm : old.calm_read ≡ false
  pub place : new.reading ≡ old.reading

-- the file is there, is empty and is being written; all other files stay
pub record Created (old new : FilesTold) (name : Bytes) : Type 0 where
  pub goes : Goes old new
  pub turns : KeepsTurns old new
  pub made : WhereTold old new (λ a b. b ≡ insert a name [])
  pub writing : WhereTold old new (λ a b. new.writing ≡ Some name)
  pub calm : IsTrue (old.steady_write name) → IsTrue new.calm_write

pub record CreateFailed (old new : FilesTold) (name : Bytes) : Type 0 where
  pub goes : Goes old new
  pub turns : KeepsTurns old new
  pub rose : Rose old.faults new.faults
  pub not_steady : old.steady_write name ≡ false
  pub stays : WhereTold old new (λ a b. b ≡ a)
  pub closed : new.writing ≡ None

-- The files after the text was added to the file that is being written. A file that is written is held, since
-- `create` makes it; without one nothing is added.
abbrev pub added_to : Option Bytes → Held → Bytes → Bytes → Held
added_to None held name text = held
added_to (Some bytes) held name text = insert held name (bytes ++ text)

abbrev pub appended : Held → Option Bytes → Bytes → Held
appended held None text = held
appended held (Some name) text = added_to (get held name) held name text

-- the text was appended, in one call or in several
pub record Wrote (old new : FilesTold) (text : Bytes) : Type 0 where
  pub goes : Goes old new
  pub turns : KeepsTurns old new
  pub calm : StaysCalm old new
  pub writing : new.writing ≡ old.writing
  pub held : WhereTold old new (λ a b. b ≡ appended a old.writing text)

-- some first part of the text was appended, and then a fault came
pub record WriteFailed (old new : FilesTold) (text : Bytes) : Type 0 where
  pub goes : Goes old new
  pub turns : KeepsTurns old new
  pub calm : StaysCalm old new
  pub rose : Rose old.faults new.faults
  pub not_calm : old.calm_write ≡ false
  pub held : WhereTold old new
      (λ a b. (n : ℕ) × (n ≤ length text) × (b ≡ appended a old.writing (take n text)))

-- what every call on the sink keeps
pub record SinkGoes (old new : SinkTold) : Type 0 where
  pub counts : old.faults ≤ new.faults
  pub untold : old.put_bytes ≡ None → new.put_bytes ≡ None

pub record Took (old new : SinkTold) (text : Bytes) : Type 0 where
  pub goes : SinkGoes old new
  pub put : (a b : Bytes) → old.put_bytes ≡ Some a → new.put_bytes ≡ Some b → b ≡ a ++ text

pub record TakeFailed (old new : SinkTold) (text : Bytes) : Type 0 where
  pub goes : SinkGoes old new
  pub rose : Rose old.faults new.faults
  pub put : (a b : Bytes) → old.put_bytes ≡ Some a → new.put_bytes ≡ Some b
      → (n : ℕ) × (n ≤ length text) × (b ≡ a ++ take n text)
