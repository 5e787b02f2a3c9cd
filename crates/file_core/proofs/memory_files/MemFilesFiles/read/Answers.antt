use Rattle.std.proofs.Common.{◌≡◌, ℕ, ◌+◌, ◌<◌, min, length, take, drop, true, None, Some, sym, ap, subst, ◌∙◌, inl, inr, rules}
use Rattle.std.proofs.lemmas.Result.{err_from_is_err_and}
use Rattle.outside_semantics.specs.Outside.{Place, bytes_of}
use Rattle.file_core.specs.Cursor.{memory_value, place_of}
use Rattle.file_core.specs.Memory.{MemoryValue, fails_next, faulted, read_on, left_of}
use Rattle.file_core.proofs.Memory.{Later-from, Rises-Rises, Gave-memory, ReadFailed-memory, counted_reading, count-counted, next_bytes-counted}
use Rattle.file_core.proofs.memory_files.MemFilesFiles.read.Goals as goal

pub returns-in_err-count-clause-err : goal.returns-in_err-count-clause-err
returns-in_err-count-clause-err c =
    let p = err_from_is_err_and c.from_residual.result c.from_residual.ensures.1 in
    let n = memory_value c.self.inside.files c.self.inside.reading c.self.inside.writing c.self.inside.reads c.count.new.self c.self.inside.chunk in
    let is : n ≡ faulted c.args.self.now = search rules in
    let r = c.count.ensures.rises in
    rw p.1 (ReadFailed-memory c.args.self.now n (Later-from n c.self.view_is r.faults r.calls r.failing) is (inl (subst (λ x. fails_next x ≡ true) c.self.view_is (sym c.in_err-count.ensures.fails))))

pub returns-in-Some-clause-count : goal.returns-in-Some-clause-count
returns-in-Some-clause-count c =
    let at = counted_reading c.self.inside.files c.in-Some.is c.self.invariant.reading_counts in
    count-counted c.self.inside.files c.self.inside.reading c.in-Some.cursor _ _ _ _ c.in-Some.is at c.bytes_at-content.ensures c.copy_next-count.ensures.count
    ∙ ap (λ (m : MemoryValue). min (min (length c.args.buffer.now) m.chunk) (left_of m.held m.reading)) c.self.view_is

pub returns-in-Some-clause-ok : goal.returns-in-Some-clause-ok
returns-in-Some-clause-ok c =
    let n = memory_value c.self.inside.files (Some (record { file = c.in-Some.cursor.file; at = c.in-Some.cursor.at + c.copy_next-count.result })) c.self.inside.writing c.count_read.new.reads
    c.count.new.self c.self.inside.chunk in
    let at = counted_reading c.self.inside.files c.in-Some.is c.self.invariant.reading_counts in
    let is : n ≡ read_on c.args.self.now (length c.copy_next-count.new.buffer) c.copy_next-count.result = search rules in
    let r = c.count.ensures.rises in
    Gave-memory c.args.self.now n _ _ (Later-from n c.self.view_is r.faults r.calls r.failing) is
    (subst (λ (m : MemoryValue). 0 < m.chunk) c.self.view_is c.self.invariant.some_chunk)
    (subst (λ (l : ℕ). c.copy_next-count.result ≡ min (min l c.args.self.now.chunk) (left_of c.args.self.now.held c.args.self.now.reading)) (sym c.copy_next-count.auto.buffer)
    (returns-in-Some-clause-count c))
    (subst (λ (m : MemoryValue). (place : Place) → m.reading ≡ Some place
    → take c.copy_next-count.result c.copy_next-count.new.buffer ≡ take c.copy_next-count.result (drop place.at (bytes_of m.held place.name))) c.self.view_is
    (next_bytes-counted c.self.inside.files c.self.inside.reading c.in-Some.cursor _ _ c.in-Some.is at
    (c.copy_next-count.ensures.bytes ∙ ap (λ x. take c.copy_next-count.result (drop c.in-Some.cursor.at x)) c.bytes_at-content.ensures)))

pub returns-in-None-clause-err : goal.returns-in-None-clause-err
returns-in-None-clause-err c =
    let n = memory_value c.self.inside.files c.self.inside.reading c.self.inside.writing c.self.inside.reads c.fault.new.self c.self.inside.chunk in
    let is : n ≡ faulted c.args.self.now = search rules in
    let r = Rises-Rises c.count.ensures.rises c.fault.ensures.rises in
    ReadFailed-memory c.args.self.now n (Later-from n c.self.view_is r.faults r.calls r.failing) is
    (inr (subst (λ x. x.reading ≡ None) c.self.view_is (ap (place_of c.self.inside.files) c.in-None.is)))
