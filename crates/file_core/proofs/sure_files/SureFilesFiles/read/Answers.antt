use Rattle.std.proofs.Common.{◌≡◌, ℕ, ◌+◌, ◌-◌, min, List, length, take, drop, Option, Some, sym, ap, ◌∙◌, arith, rules}
use Rattle.semantics.specs.Texts.{Bytes}
use Rattle.outside_semantics.specs.Outside.{Held, bytes_of}
use Rattle.file_core.specs.declared.cursor.Cursor.{Cursor}
use Rattle.file_core.specs.Cursor.{place_of}
use Rattle.file_core.specs.Entries.{Entry, held_in, name_at, bytes_at, IsCounted}
use Rattle.file_core.specs.Memory.{left_of}
use Rattle.file_core.specs.Sure.{SureValue, went_on, IsNextOf}
use Rattle.file_core.proofs.Memory.{counted_reading, left_of-counted, next_bytes-counted}
use Rattle.file_core.proofs.Sure.{Gave-sure}
use Rattle.file_core.proofs.sure_files.SureFilesFiles.read.Goals as goal

-- how many bytes are given, by the value
count_is : (files : List Entry) (reading : Option Cursor) (cursor : Cursor) (k room : ℕ) (content : Bytes) (m : SureValue) → reading ≡ Some cursor → IsCounted files cursor.file
    → content ≡ bytes_at files cursor.file → k ≡ min (min room room) (length content - cursor.at) → m.given ≡ held_in files → m.reading ≡ place_of files reading
    → k ≡ min room (left_of m.given m.reading)
count_is files reading cursor k room content m is at same count given place =
    let left : left_of (held_in files) (place_of files reading) ≡ length (bytes_at files cursor.file) - cursor.at = left_of-counted files reading cursor is at in
    let by_value : left_of m.given m.reading ≡ left_of (held_in files) (place_of files reading) = (λ i. left_of (given i) (place i)) in
    let size : length content ≡ length (bytes_at files cursor.file) = ap length same in
    omega arith

-- which bytes are given, by the value
bytes_are : (files : List Entry) (reading : Option Cursor) (cursor : Cursor) (k : ℕ) (content buffer : Bytes) (m : SureValue) → reading ≡ Some cursor → IsCounted files cursor.file
    → content ≡ bytes_at files cursor.file → take k buffer ≡ take k (drop cursor.at content) → m.given ≡ held_in files → m.reading ≡ place_of files reading → IsNextOf m k buffer
bytes_are files reading cursor k content buffer m is at same bytes given place = λ p reads.
    next_bytes-counted files reading cursor k (take k buffer) is at (bytes ∙ ap (λ x. take k (drop cursor.at x)) same) p (sym place ∙ reads)
    ∙ ap (λ (h : Held). take k (drop p.at (bytes_of h p.name))) (sym given)

pub returns-in-Some-clause-count : goal.returns-in-Some-clause-count
returns-in-Some-clause-count c =
    count_is c.self.inside.files c.self.inside.reading c.in-Some.cursor c.copy_next-count.result _ _ c.args.self.now
    c.in-Some.is (counted_reading c.self.inside.files c.in-Some.is c.self.invariant) c.bytes_at-content.ensures c.copy_next-count.ensures.count
    (ap (λ (m : SureValue). m.given) (sym c.self.view_is)) (ap (λ (m : SureValue). m.reading) (sym c.self.view_is))

pub returns-in-Some-clause-bytes : goal.returns-in-Some-clause-bytes
returns-in-Some-clause-bytes c =
    bytes_are c.self.inside.files c.self.inside.reading c.in-Some.cursor c.copy_next-count.result _ _ c.args.self.now
    c.in-Some.is (counted_reading c.self.inside.files c.in-Some.is c.self.invariant) c.bytes_at-content.ensures c.copy_next-count.ensures.bytes
    (ap (λ (m : SureValue). m.given) (sym c.self.view_is)) (ap (λ (m : SureValue). m.reading) (sym c.self.view_is))

pub returns-in-Some-clause-ok : goal.returns-in-Some-clause-ok
returns-in-Some-clause-ok c =
    let files = c.self.inside.files in
    let k = c.copy_next-count.result in
    let n : SureValue = record {
      given = held_in files;
      told = c.self.inside.told;
      reading = Some (record { name = name_at files c.in-Some.cursor.file; at = c.in-Some.cursor.at + k });
      opened = c.count_read.new.reads.opened;
      turns = c.count_read.new.reads.turns;
    } in
    let is : n ≡ went_on c.args.self.now (length c.copy_next-count.new.buffer) k = search rules in
    Gave-sure c.args.self.now n k _ is
    (returns-in-Some-clause-count c ∙ ap (λ (l : ℕ). min l (left_of c.args.self.now.given c.args.self.now.reading)) (sym c.copy_next-count.auto.buffer))
    (returns-in-Some-clause-bytes c)
