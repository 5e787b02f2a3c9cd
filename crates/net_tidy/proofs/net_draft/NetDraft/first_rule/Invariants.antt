use Rattle.std.proofs.Common.{◌≡◌, ℕ, ◌<◌, ◌≤◌, ◌-◌, None}
use Rattle.semantics.specs.Net.{table_count}
use Rattle.net_tidy.specs.Rule.{rule_at}
use Rattle.net_tidy.specs.Places.{Stays}
use Rattle.net_tidy.proofs.net_draft.NetDraft.first_rule.Given as goal

abbrev pub invariant-loop-t : goal.invariant-loop-t
invariant-loop-t l = record {
  same : l.self ≡ l.fn.self;
  within : l.t ≤ table_count l.fn.self.net;
  none : (j : ℕ) → j < l.t → Stays l.fn.self.gone j → rule_at l.fn.self.net j ≡ None;
}

abbrev pub decreases-loop-t : goal.decreases-loop-t
decreases-loop-t l = table_count l.fn.self.net - l.t
