use Rattle.std.proofs.Common.{◌+◌, ◌*◌}
use Rattle.aig_core.specs.Graph.{gate_node}
use Rattle.lane_nets.specs.Schedules.{AreEntriesBelow}
use Rattle.lane_nets.proofs.schedule.push_class.Given as goal

abbrev pub invariant-loop-i : goal.invariant-loop-i
invariant-loop-i l = AreEntriesBelow l.graph l.classes (4294967296 * l.class + gate_node l.graph l.i) l.order.items
