use Rattle.blif_semantics.proofs.JoinedLines.{joined}
use Rattle.blif_semantics.proofs.laws.joined_lines.Goals as goal

pub returns : goal.returns
returns c = joined
