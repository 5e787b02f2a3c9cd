-- The value of files in memory, from their entries and the entries' places.
use Rattle.std.specs.Prelude.{ℕ, ◌<◌, List, Option, option_map, IfSome}
use Rattle.semantics.specs.Texts.{Bytes}
use Rattle.outside_semantics.specs.Outside.{Place}
use Rattle.history.specs.declared.reads.Reads.{Reads}
use Rattle.file_core.specs.declared.cursor.Cursor.{Cursor}
use Rattle.file_core.specs.declared.calls.Calls.{Calls}
use Rattle.file_core.specs.Entries.{Entry, name_at, held_in, IsCounted}
use Rattle.file_core.specs.Memory.{MemoryValue}

abbrev pub place_of : List Entry → Option Cursor → Option Place
place_of entries reading = option_map (λ c. record { name = name_at entries c.file; at = c.at }) reading

abbrev pub name_of : List Entry → Option ℕ → Option Bytes
name_of entries writing = option_map (name_at entries) writing

abbrev pub memory_value : List Entry → Option Cursor → Option ℕ → Reads → Calls → ℕ → MemoryValue
memory_value entries reading writing reads calls chunk = record {
  held = held_in entries;
  reading = place_of entries reading;
  writing = name_of entries writing;
  opened = reads.opened;
  turns = reads.turns;
  faults = calls.faults;
  calls = calls.calls;
  failing = calls.failing;
  chunk = chunk;
}

-- what is open is an entry that counts
pub record IsMemory (entries : List Entry) (reading : Option Cursor) (writing : Option ℕ)
    (chunk : ℕ) : Type 0 where
  pub some_chunk : 0 < chunk
  pub reading_counts : IfSome reading (λ c. IsCounted entries c.file)
  pub writing_counts : IfSome writing (IsCounted entries)
