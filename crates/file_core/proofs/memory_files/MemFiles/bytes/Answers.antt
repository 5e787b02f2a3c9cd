use Rattle.std.proofs.Common.{Some, sym, ap, ◌∙◌}
use Rattle.std.specs.Option.{option_copied}
use Rattle.std.specs.FinMap.{get}
use Rattle.file_core.specs.Memory.{MemoryValue}
use Rattle.file_core.proofs.Entries.{get-first, get-lacks}
use Rattle.file_core.proofs.memory_files.MemFiles.bytes.Goals as goal

pub returns-in_err-file : goal.returns-in_err-file
returns-in_err-file c =
    ap option_copied c.from_residual.ensures
    ∙ sym (get-lacks c.self.inside.files c.args.name.now c.in_err-file.ensures)
    ∙ ap (λ (m : MemoryValue). get m.held c.args.name.now) c.self.view_is

pub returns : goal.returns
returns c =
    ap Some c.bytes_at.ensures ∙ sym (get-first c.in_ok-file.ensures)
    ∙ ap (λ (m : MemoryValue). get m.held c.args.name.now) c.self.view_is
