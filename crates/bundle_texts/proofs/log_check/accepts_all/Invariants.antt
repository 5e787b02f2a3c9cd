use Rattle.std.proofs.Common.{◌-◌, length}
use Rattle.cnf_core.specs.LratReads.{read_items}
use Rattle.bundle_texts.specs.LogJudged.{HasTaken}
use Rattle.bundle_texts.proofs.LogChecks.{HasGiven}
use Rattle.bundle_texts.proofs.log_check.accepts_all.Given as goal

abbrev pub invariant-loop-item : goal.invariant-loop-item
invariant-loop-item g l = HasGiven (HasTaken g.L.ItemSink.holds) l.initial.reader l.initial.judge l.reader l.judge

abbrev pub decreases-loop-item : goal.decreases-loop-item
decreases-loop-item g l = length (read_items l.initial.reader) - l.reader.given
