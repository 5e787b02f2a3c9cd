-- What files and a sink tell that never fail and keep nothing.
use Rattle.std.specs.Prelude.{◌≡◌, ℕ, Bool, true, false, List, [], Option, Some, None, refl, take, drop}
use Rattle.std.specs.Prelude.{if◌then◌else◌}
use Rattle.std.specs.Coded.{Coded, code_by, coded×, coded_bool, coded_list, coded_option}
use Rattle.std.specs.FinMap as map
use Rattle.semantics.specs.Texts.{Bytes}
use Rattle.outside_semantics.specs.Outside.{Held, Place, FilesTold, SinkTold, bytes_of, turns_after}
use Rattle.file_core.specs.Entries.{Entry, held_in}
use Rattle.file_core.specs.Memory.{bytes_code, place_code, moved}

-- the given files, whether they are told, the place that is read, and what is told of reading
pub record SureValue : Type 0 where
  pub given : Held
  pub told : Bool
  pub reading : Option Place
  pub opened : Option Bytes
  pub turns : List Bytes

abbrev pub sure_code : Coded SureValue
sure_code =
    code_by (Held × (Bool × (Option Place × (Option Bytes × List Bytes))))
    (coded× (map.code bytes_code bytes_code)
    (coded× coded_bool (coded× (coded_option place_code)
    (coded× (coded_option bytes_code) (coded_list bytes_code)))))
    (λ s. (s.given, (s.told, (s.reading, (s.opened, s.turns)))))
    (λ p. record { given = p.0; told = p.1.0; reading = p.1.1.0; opened = p.1.1.1.0; turns = p.1.1.1.1 })
    (λ _. refl)

-- files before the first call
abbrev pub sure_at_first : List Entry → SureValue
sure_at_first files = record { given = held_in files; told = true; reading = None; opened = None; turns = [] }

abbrev pub held_where : Bool → Held → Option Held
held_where told held = if told then Some held else None

abbrev pub reading_where : Bool → Option Place → Option Place
reading_where told reading = if told then reading else None

-- no fault can come, so the count stays 0, every name is steady and both calm meanings are yes
abbrev pub sure_told : SureValue → FilesTold
sure_told s = record {
  held = held_where s.told s.given;
  reading = reading_where s.told s.reading;
  writing = None;
  opened = s.opened;
  turns = s.turns;
  faults = 0;
  steady_read = λ name. true;
  steady_write = λ name. true;
  calm_read = true;
  calm_write = true;
}

-- after `open_file` of a given name
abbrev pub found : SureValue → Bytes → SureValue
found s name = record s { reading = Some (record { name = name; at = 0 }); opened = Some name }

-- after `open_file` of another name: nothing is read, as from an empty file, and nothing is told
abbrev pub not_found : SureValue → Bytes → SureValue
not_found s name = record s { told = false; reading = None; opened = Some name }

-- after `read` was asked for `asked` bytes and gave n
abbrev pub went_on : SureValue → ℕ → ℕ → SureValue
went_on s asked n = record s { reading = moved n s.reading; turns = turns_after s.opened asked n s.turns }

-- the buffer begins with the n bytes of the given file from the place on that is read
abbrev pub IsNextOf : SureValue → ℕ → Bytes → Type 0
IsNextOf s n buffer = (place : Place) → s.reading ≡ Some place
    → take n buffer ≡ take n (drop place.at (bytes_of s.given place.name))

abbrev pub sure_sink_told : SinkTold
sure_sink_told = record { put_bytes = None; faults = 0 }
