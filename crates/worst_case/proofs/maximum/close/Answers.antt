use Rattle.std.proofs.Common.{subst, ◌∙◌}
use Rattle.worst_case.specs.Maximum.{IsNarrowed, IsRangeOrSpent}
use Rattle.worst_case.proofs.maximum.close.Goals as goal

pub loop-range-init : goal.loop-range-init
loop-range-init g c = record { range = c.requires.range; judge = c.requires.judge }

pub narrow-requires : goal.narrow-requires
narrow-requires g c = record { judge = c.loop-range.invariant.judge; limit = c.requires.limit; «open» = c.loop-range-test.true }

pub loop-range-preserved : goal.loop-range-preserved
loop-range-preserved g c = record {
  range =
      subst (IsRangeOrSpent c.args.aim c.args.nets.now.exact c.args.nets.now.approx c.narrow.new.range) c.in_default.is
      (c.in_ok-spent.ensures.range c.loop-range.invariant.range);
  judge = c.narrow.ensures.same ∙ c.loop-range.invariant.judge;
}

pub loop-range-smaller : goal.loop-range-smaller
loop-range-smaller g c = subst (IsNarrowed c.loop-range.range c.narrow.new.range) c.in_default.is c.in_ok-spent.ensures.narrowed

pub returns-in-Some : goal.returns-in-Some
returns-in-Some g c =
    subst (IsRangeOrSpent c.args.aim c.args.nets.now.exact c.args.nets.now.approx c.narrow.new.range) c.in-Some.is
    (c.in_ok-spent.ensures.range c.loop-range.invariant.range)

pub returns : goal.returns
returns g c = (c.loop-range.invariant.range, c.loop-range-test.false)
