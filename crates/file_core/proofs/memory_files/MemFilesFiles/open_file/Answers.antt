use Rattle.std.proofs.Common.{◌≡◌, true, false, None, Some, refl, sym, subst, inl, inr, rules}
use Rattle.std.proofs.lemmas.Result.{err_from_is_err_and}
use Rattle.std.proofs.lemmas.Bool.{both_ways, false≢true}
use Rattle.std.specs.FinMap.{contains_key}
use Rattle.file_core.specs.Cursor.{memory_value}
use Rattle.file_core.specs.Memory.{fails_next, opened, not_opened}
use Rattle.file_core.proofs.Memory.{Later-from, Rises-Rises, Opened-memory, OpenFailed-memory, contains_key-first, contains_key-lacks}
use Rattle.file_core.proofs.memory_files.MemFilesFiles.open_file.Goals as goal

pub returns-in_err-count-clause-err : goal.returns-in_err-count-clause-err
returns-in_err-count-clause-err c =
    let p = err_from_is_err_and c.from_residual.result c.from_residual.ensures.1 in
    let n = memory_value c.self.inside.files None c.self.inside.writing c.close-self-inside.result c.count.new.self c.self.inside.chunk in
    let is : n ≡ not_opened c.args.self.now = search rules in
    let r = c.count.ensures.rises in
    rw p.1 (OpenFailed-memory c.args.self.now n _ (Later-from n c.self.view_is r.faults r.calls r.failing) is
    (inl (subst (λ x. fails_next x ≡ true) c.self.view_is (sym c.in_err-count.ensures.fails))))

pub returns-in-Some-clause-ok : goal.returns-in-Some-clause-ok
returns-in-Some-clause-ok c =
    let n = memory_value c.self.inside.files (Some (record { file = c.in-Some.file; at = 0 })) c.self.inside.writing c.open-self-inside.result c.count.new.self c.self.inside.chunk in
    let is : n ≡ opened c.args.self.now c.args.name.now = search rules in
    let r = c.count.ensures.rises in
    Opened-memory c.args.self.now n _ (Later-from n c.self.view_is r.faults r.calls r.failing) is
    (subst (λ x. contains_key x.held c.args.name.now ≡ true) c.self.view_is (contains_key-first c.in-Some.ensures))

pub returns-in-Some-clause-opens : goal.returns-in-Some-clause-opens
returns-in-Some-clause-opens c = (
  λ _. (
    subst (λ x. fails_next x ≡ false) c.self.view_is (sym c.in_ok-count.ensures.fails),
    subst (λ x. contains_key x.held c.args.name.now ≡ true) c.self.view_is (contains_key-first c.in-Some.ensures),
  ),
  λ _. refl,
)

pub returns-in-None-clause-err : goal.returns-in-None-clause-err
returns-in-None-clause-err c =
    let n = memory_value c.self.inside.files None c.self.inside.writing c.close-self-inside.result c.fault.new.self c.self.inside.chunk in
    let is : n ≡ not_opened c.args.self.now = search rules in
    let r = Rises-Rises c.count.ensures.rises c.fault.ensures.rises in
    OpenFailed-memory c.args.self.now n _ (Later-from n c.self.view_is r.faults r.calls r.failing) is
    (inr (subst (λ x. contains_key x.held c.args.name.now ≡ false) c.self.view_is (contains_key-lacks _ _ c.in-None.ensures)))

pub returns-in-None-clause-opens : goal.returns-in-None-clause-opens
returns-in-None-clause-opens c =
    (λ e. absurd (false≢true e), λ h. absurd (both_ways _ (subst (λ x. contains_key x.held c.args.name.now ≡ false) c.self.view_is (contains_key-lacks _ _ c.in-None.ensures)) h.1))
