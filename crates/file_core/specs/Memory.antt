-- What files and a sink in memory hold and tell, and what each call on them leaves.
use Rattle.std.specs.Prelude.{ℕ, ◌+◌, ◌-◌, Bool, false, ◌&&◌, List, [], length, Option, Some, None}
use Rattle.std.specs.Prelude.{option_map, is_some, refl}
use Rattle.std.specs.Coded.{Coded, code_by, coded×, coded_ℕ, coded_list, coded_option}
use Rattle.std.specs.FinMap as map
use Rattle.semantics.specs.Texts.{Bytes}
use Rattle.outside_semantics.specs.Outside.{Held, Place, FilesTold, bytes_of, turns_after, appended}
use Rattle.file_core.specs.Calls.{one_more, is_listed, none_left}
use Rattle.file_core.specs.Entries.{Entry, held_in}

-- `opened` and `turns` are what is told of reading, `calls` and `faults` are counts, `failing` the numbers of
-- the calls that fail, and `chunk` the most bytes of one call
pub record MemoryValue : Type 0 where
  pub held : Held
  pub reading : Option Place
  pub writing : Option Bytes
  pub opened : Option Bytes
  pub turns : List Bytes
  pub faults : ℕ
  pub calls : ℕ
  pub failing : List ℕ
  pub chunk : ℕ

abbrev pub bytes_code : Coded Bytes
bytes_code = coded_list coded_ℕ

abbrev pub place_code : Coded Place
place_code =
    code_by (Bytes × ℕ) (coded× bytes_code coded_ℕ) (λ p. (p.name, p.at))
    (λ p. record { name = p.0; at = p.1 }) (λ _. refl)

-- a value is stored as the tuple of its fields
abbrev pub memory_code : Coded MemoryValue
memory_code =
    code_by (Held × (Option Place
    × (Option Bytes × (Option Bytes × (List Bytes × (ℕ × (ℕ × (List ℕ × ℕ))))))))
    (coded× (map.code bytes_code bytes_code)
    (coded× (coded_option place_code)
    (coded× (coded_option bytes_code)
    (coded× (coded_option bytes_code)
    (coded× (coded_list bytes_code)
    (coded× coded_ℕ (coded× coded_ℕ (coded× (coded_list coded_ℕ) coded_ℕ))))))))
    (λ m. (
      m.held,
      (
        m.reading,
        (m.writing, (m.opened, (m.turns, (m.faults, (m.calls, (m.failing, m.chunk)))))),
      ),
    ))
    (λ p. record {
      held = p.0;
      reading = p.1.0;
      writing = p.1.1.0;
      opened = p.1.1.1.0;
      turns = p.1.1.1.1.0;
      faults = p.1.1.1.1.1.0;
      calls = p.1.1.1.1.1.1.0;
      failing = p.1.1.1.1.1.1.1.0;
      chunk = p.1.1.1.1.1.1.1.1;
    })
    (λ _. refl)

-- files before the first call
abbrev pub files_at_first : List Entry → List ℕ → ℕ → MemoryValue
files_at_first files failing chunk = record {
  held = held_in files;
  reading = None;
  writing = None;
  opened = None;
  turns = [];
  faults = 0;
  calls = 0;
  failing = failing;
  chunk = chunk;
}

-- memory can run out, so no writing is calm
abbrev pub memory_told : MemoryValue → FilesTold
memory_told m = record {
  held = Some m.held;
  reading = m.reading;
  writing = m.writing;
  opened = m.opened;
  turns = m.turns;
  faults = m.faults;
  steady_read = λ name. map.contains_key m.held name && none_left m.failing m.calls;
  steady_write = λ name. false;
  calm_read = is_some m.reading && none_left m.failing m.calls;
  calm_write = false;
}

-- the next call is listed
abbrev pub fails_next : MemoryValue → Bool
fails_next m = is_listed m.failing (m.calls + 1)

abbrev pub counted : MemoryValue → MemoryValue
counted m = record m { calls = one_more m.calls }

abbrev pub faulted : MemoryValue → MemoryValue
faulted m = record m { calls = one_more m.calls; faults = one_more m.faults }

-- after `open_file`
abbrev pub opened : MemoryValue → Bytes → MemoryValue
opened m name = record (counted m) { reading = Some (record { name = name; at = 0 }); opened = Some name }

abbrev pub not_opened : MemoryValue → MemoryValue
not_opened m = record (faulted m) { reading = None; opened = None }

-- the bytes that are left of the file that is read
abbrev pub left_of : Held → Option Place → ℕ
left_of held None = 0
left_of held (Some place) = length (bytes_of held place.name) - place.at

-- the place after n more bytes
abbrev pub moved : ℕ → Option Place → Option Place
moved n reading = option_map (λ p. record { name = p.name; at = p.at + n }) reading

-- after `read` was asked for `asked` bytes and gave n
abbrev pub read_on : MemoryValue → ℕ → ℕ → MemoryValue
read_on m asked n = record (counted m)
    { reading = moved n m.reading; turns = turns_after m.opened asked n m.turns }

-- after `create`
abbrev pub created : MemoryValue → Bytes → MemoryValue
created m name = record (counted m) { held = map.insert m.held name []; writing = Some name }

abbrev pub not_created : MemoryValue → MemoryValue
not_created m = record (faulted m) { writing = None }

-- after `append`
abbrev pub wrote : MemoryValue → Bytes → MemoryValue
wrote m text = record (counted m) { held = appended m.held m.writing text }
