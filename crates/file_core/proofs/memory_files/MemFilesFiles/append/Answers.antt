use Rattle.std.proofs.Common.{◌≡◌, take, ap, ◌∙◌, rules}
use Rattle.std.proofs.lemmas.Result.{err_from_is_err_and}
use Rattle.file_core.specs.Cursor.{memory_value}
use Rattle.file_core.specs.Memory.{faulted, wrote}
use Rattle.file_core.proofs.Memory.{Later-from, Rises-Rises, Wrote-memory, WriteFailed-memory, counted_writing, wrote-extended}
use Rattle.file_core.proofs.memory_files.MemFilesFiles.append.Goals as goal

pub returns-in_err-count-clause-err : goal.returns-in_err-count-clause-err
returns-in_err-count-clause-err c =
    let p = err_from_is_err_and c.from_residual.result c.from_residual.ensures.1 in
    let n = memory_value c.self.inside.files c.self.inside.reading c.self.inside.writing c.self.inside.reads c.count.new.self c.self.inside.chunk in
    let is : n ≡ faulted c.args.self.now = search rules in
    let r = c.count.ensures.rises in
    rw p.1 (WriteFailed-memory c.args.self.now n (Later-from n c.self.view_is r.faults r.calls r.failing) is)

pub returns-in_default-clause-err : goal.returns-in_default-clause-err
returns-in_default-clause-err c =
    let n = memory_value c.self.inside.files c.self.inside.reading c.self.inside.writing c.self.inside.reads c.fault.new.self c.self.inside.chunk in
    let is : n ≡ faulted c.args.self.now = search rules in
    let r = Rises-Rises c.count.ensures.rises c.fault.ensures.rises in
    WriteFailed-memory c.args.self.now n (Later-from n c.self.view_is r.faults r.calls r.failing) is

pub returns-in-Ok-clause-after_ok : goal.returns-in-Ok-clause-after_ok
returns-in-Ok-clause-after_ok c =
    let i = c.in-Some.file in
    let text = take c.min-count.result c.args.piece.now in
    let at = counted_writing c.self.inside.files c.in-Some.is c.self.invariant.writing_counts in
    wrote-extended c.self.inside.files c.extend_at.new.self c.self.inside.reading c.self.inside.writing c.self.inside.reads c.self.inside.calls c.count.new.self c.self.inside.chunk i text
    c.in-Some.is c.self.invariant.reading_counts at c.in-Ok.ensures.ok c.in_ok-count.ensures.ok
    ∙ ap (λ m. wrote m text) c.self.view_is

pub returns-in-Ok-clause-ok : goal.returns-in-Ok-clause-ok
returns-in-Ok-clause-ok c =
    let n = memory_value c.extend_at.new.self c.self.inside.reading c.self.inside.writing c.self.inside.reads c.count.new.self c.self.inside.chunk in
    let r = c.count.ensures.rises in
    Wrote-memory c.args.self.now n _ (Later-from n c.self.view_is r.faults r.calls r.failing) (returns-in-Ok-clause-after_ok c)

pub returns-in-Err-clause-err : goal.returns-in-Err-clause-err
returns-in-Err-clause-err c =
    let n = memory_value c.extend_at.new.self c.self.inside.reading c.self.inside.writing c.self.inside.reads c.fault-in-Err.new.self c.self.inside.chunk in
    let is : n ≡ faulted c.args.self.now = search rules in
    let r = Rises-Rises c.count.ensures.rises c.fault-in-Err.ensures.rises in
    WriteFailed-memory c.args.self.now n (Later-from n c.self.view_is r.faults r.calls r.failing) is
