use Rattle.std.proofs.Common.{ap, ◌∙◌, arith}
use Rattle.semantics.specs.Net.{signal_count}
use Rattle.merge_log.proofs.Ends.{merging_started}
use Rattle.merge_log.proofs.merges.start.Goals as goal

pub returns : goal.returns
returns c = λ levels are.
    merging_started c.args.placed.now levels _ are (omega (arith, c.net.ensures.clauses)) c.new-2.ensures c.new-3.ensures c.new-4.ensures.items
    (c.in_ok-merged.ensures.count ∙ c.signals.ensures.value ∙ ap signal_count c.net.ensures.value) c.in_ok-merged.ensures.alone
