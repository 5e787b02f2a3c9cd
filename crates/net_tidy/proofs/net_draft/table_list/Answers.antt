use Rattle.std.proofs.Common.{refl, arith}
use Rattle.net_tidy.proofs.Ranks.{kept_more, kept_full}
use Rattle.net_tidy.proofs.net_draft.table_list.Goals as goal

pub loop-i-preserved : goal.loop-i-preserved
loop-i-preserved c =
    kept_more c.args.gone.now c.args.tables.now c.loop-i.list c.push_unless.new.list c.loop-i.i _ _ _ c.requires.count c.loop-i-test.true c.index-tables-i.is refl c.loop-i.invariant
    c.in_ok-push_unless.ensures

pub returns : goal.returns
returns c = kept_full c.args.gone.now c.args.tables.now c.loop-i.list c.loop-i.i c.requires.count (let end = c.loop-i-test.false in omega (arith, end)) c.loop-i.invariant
