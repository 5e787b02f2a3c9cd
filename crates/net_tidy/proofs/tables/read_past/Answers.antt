use Rattle.std.proofs.Common.{refl, ◌∙◌, arith}
use Rattle.net_tidy.proofs.Reading.{past_widths, past_more, down_more, past_all}
use Rattle.net_tidy.proofs.tables.read_past.Goals as goal

pub read_past_at-requires-clause-widths : goal.read_past_at-requires-clause-widths
read_past_at-requires-clause-widths c = past_widths c.args.from c.args.to c.args.inverted c.args.tables.now c.args.places.now _ c.loop-place.tables c.loop-place.invariant.past c.requires.widths

pub loop-place-preserved : goal.loop-place-preserved
loop-place-preserved c = record {
  past = past_more c.args.from c.args.to c.args.inverted c.args.tables.now c.args.places.now c.loop-place.tables c.read_past_at.new.tables c.loop-place.place-index _ c.loop-place-test.true
      refl c.requires.differ c.loop-place.invariant.past c.read_past_at.ensures.count c.read_past_at.ensures.there c.read_past_at.ensures.others;
  count = c.read_past_at.ensures.flag_count ∙ c.loop-place.invariant.count;
  down = down_more c.args.from c.args.to c.args.inverted c.args.tables.now c.args.places.now c.loop-place.tables c.read_past_at.new.tables c.loop-place.place-index _ c.loop-place-test.true
      refl c.requires.differ c.loop-place.invariant.past c.args.flags.now c.loop-place.flags c.read_past_at.new.flags c.loop-place.invariant.down c.read_past_at.ensures.down;
}

pub returns-clause-tables : goal.returns-clause-tables
returns-clause-tables c =
    past_all c.args.from c.args.to c.args.inverted c.args.tables.now c.args.places.now c.loop-place.tables c.loop-place.place-index
    (let end = c.loop-place-test.false in omega (arith, end)) c.loop-place.invariant.past c.requires.listed
