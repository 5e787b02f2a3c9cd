use Rattle.std.proofs.Common.{◌+◌, arith}
use Rattle.cdcl_core.proofs.Resolving.{shortened_resolved}
use Rattle.cdcl_core.proofs.analysis.shorten_at.Goals as goal

pub returns-in-Some-clause-shortened : goal.returns-in-Some-clause-shortened
returns-in-Some-clause-shortened c =
    shortened_resolved c.args.marks.now c.resolve.new.marks c.args.place (c.args.place + 1) c.resolve.ensures.same c.resolve.ensures.kept c.resolve.ensures.below (omega arith)
