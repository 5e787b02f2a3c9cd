use Rattle.outside_semantics.proofs.HeldFiles.{with_files-holds, with_files-others}
use Rattle.outside_semantics.proofs.laws.written_files.Goals as goal

pub returns : goal.returns
returns c = record { holds = with_files-holds; others = with_files-others }
