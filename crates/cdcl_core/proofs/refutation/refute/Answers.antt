use Rattle.std.proofs.Common.{reverse}
use Rattle.cdcl_core.proofs.FromConflict.{refuted}
use Rattle.cdcl_core.proofs.refutation.refute.Goals as goal

pub returns : goal.returns
returns c = refuted c.args.clauses.now.list c.args.trail.now.literals c.resolve_all.new.marks (reverse c.resolve_all.new.hints.items) c.resolve_all.ensures.explained c.resolve_all.ensures.none
