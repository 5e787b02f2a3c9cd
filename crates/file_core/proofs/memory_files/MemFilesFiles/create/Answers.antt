use Rattle.std.proofs.Common.{◌≡◌, false, None, Some, refl, subst, inr, rules}
use Rattle.std.proofs.lemmas.Result.{err_from_is_err_and}
use Rattle.std.specs.FinMap.{contains_key}
use Rattle.file_core.specs.Cursor.{memory_value}
use Rattle.file_core.specs.Memory.{created, not_created}
use Rattle.file_core.proofs.Memory.{Later-from, Rises-Rises, Created-memory, CreateFailed-memory, contains_key-lacks}
use Rattle.file_core.proofs.memory_files.MemFilesFiles.create.Goals as goal

pub returns-in_err-count-clause-err : goal.returns-in_err-count-clause-err
returns-in_err-count-clause-err c =
    let p = err_from_is_err_and c.from_residual.result c.from_residual.ensures.1 in
    let n = memory_value c.self.inside.files c.self.inside.reading None c.self.inside.reads c.count.new.self c.self.inside.chunk in
    let is : n ≡ not_created c.args.self.now = search rules in
    let r = c.count.ensures.rises in
    rw p.1 (CreateFailed-memory c.args.self.now n _ (Later-from n c.self.view_is r.faults r.calls r.failing) is)

pub returns-in-Ok-clause-ok : goal.returns-in-Ok-clause-ok
returns-in-Ok-clause-ok c =
    let n = memory_value c.make_empty.new.self c.self.inside.reading (Some c.in-Ok.file) c.self.inside.reads c.count.new.self c.self.inside.chunk in
    let is : n ≡ created c.args.self.now c.args.name.now = search rules in
    let r = c.count.ensures.rises in
    Created-memory c.args.self.now n _ (Later-from n c.self.view_is r.faults r.calls r.failing) is

pub returns-in-Err-clause-err : goal.returns-in-Err-clause-err
returns-in-Err-clause-err c =
    let n = memory_value c.make_empty.new.self c.self.inside.reading None c.self.inside.reads c.fault.new.self c.self.inside.chunk in
    let is : n ≡ not_created c.args.self.now = search rules in
    let r = Rises-Rises c.count.ensures.rises c.fault.ensures.rises in
    CreateFailed-memory c.args.self.now n _ (Later-from n c.self.view_is r.faults r.calls r.failing) is

pub returns-in-Err-clause-refused : goal.returns-in-Err-clause-refused
returns-in-Err-clause-refused c =
    λ _. inr (subst (λ x. contains_key x.held c.args.name.now ≡ false) c.self.view_is (contains_key-lacks c.self.inside.files c.args.name.now (c.in-Err.ensures.refused refl)))
