use Rattle.std.proofs.Common.{subst, sym, ◌∙◌}
use Rattle.semantics.specs.Net.{IsSmall}
use Rattle.worst_case.proofs.maximum.closed_range.Goals as goal

pub new-requires : goal.new-requires
new-requires g c = subst IsSmall (sym c.exact.ensures.value) c.requires.small

pub first_range-requires : goal.first_range-requires
first_range-requires g c = record { judge = c.in_ok-judge.ensures ∙ c.exact.ensures.value; within = c.requires.within }

pub try_known-requires : goal.try_known-requires
try_known-requires g c = record { judge = c.in_ok-judge.ensures ∙ c.exact.ensures.value }

pub close-requires : goal.close-requires
close-requires g c = record {
  judge = c.try_known.ensures.same ∙ c.in_ok-judge.ensures ∙ c.exact.ensures.value;
  limit = c.requires.limit;
  range = c.in_ok-climb_range.ensures (c.in_ok-try_known.ensures.range c.in_ok-range.ensures);
}
