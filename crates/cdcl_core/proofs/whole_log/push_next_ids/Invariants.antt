use Rattle.cdcl_core.specs.Rounds.{HasNextIds}
use Rattle.cdcl_core.proofs.whole_log.push_next_ids.Given as goal

abbrev pub invariant-loop-j : goal.invariant-loop-j
invariant-loop-j l = HasNextIds l.next l.j l.fn.ids l.ids
