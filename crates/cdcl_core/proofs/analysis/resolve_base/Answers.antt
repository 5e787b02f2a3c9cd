use Rattle.std.proofs.Common.{◌+◌, arith}
use Rattle.cdcl_core.proofs.Resolving.{shortened_more, shortened_later}
use Rattle.cdcl_core.proofs.analysis.resolve_base.Goals as goal

pub down-preserved : goal.down-preserved
down-preserved c = record {
  low = let below = c.in-Some.ensures.some.below in let low = c.down.invariant.low in omega arith;
  shortened = shortened_more c.args.marks.now c.down.marks c.shorten_at.new.marks c.args.first c.down.invariant.shortened
      (shortened_later c.down.marks c.shorten_at.new.marks (c.in-Some.next + 1) c.args.first (let below = c.in-Some.ensures.some.below in let low = c.down.invariant.low in omega arith)
      c.shorten_at.ensures.shortened);
  explained = c.shorten_at.ensures.explained;
  room =
      let below = c.in-Some.ensures.some.below in
      let room = c.down.invariant.room in
      let one = c.shorten_at.ensures.one in
      let same = c.shorten_at.ensures.room in
      omega arith;
}
