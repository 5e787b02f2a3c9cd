use Rattle.std.proofs.Common.{ℕ, ◌<◌, get_or}
use Rattle.lane_nets.specs.Schedules.{ReadsOther, entry_at}
use Rattle.lane_nets.proofs.schedule.set_firsts.Given as goal

abbrev pub invariant-loop-i : goal.invariant-loop-i
invariant-loop-i l = (n p : ℕ) → p < get_or l.firsts n 0 → p < l.i → ReadsOther n (entry_at l.order p)
