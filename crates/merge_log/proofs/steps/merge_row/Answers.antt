use Rattle.std.proofs.lemmas.Result.{on_ok_weaker}
use Rattle.merge_log.proofs.Adding.{adds-both, merged-more}
use Rattle.merge_log.proofs.steps.merge_row.Goals as goal

pub push_row-requires-2-clause-derivation : goal.push_row-requires-2-clause-derivation
push_row-requires-2-clause-derivation c = c.in_ok-push_row.ensures.derivation

pub push_row-requires-2-clause-merged : goal.push_row-requires-2-clause-merged
push_row-requires-2-clause-merged c = merged-more c.args.goal.now c.args.log.now c.push_row.new.log _ c.args.merged.now c.in_ok-push_row.ensures c.requires.merged

pub returns : goal.returns
returns c =
    on_ok_weaker c.push_row-2.result (adds-both c.args.goal.now c.args.log.now c.push_row.new.log c.push_row-2.new.log _ _ c.in_ok-push_row.ensures)
    c.push_row-2.ensures
