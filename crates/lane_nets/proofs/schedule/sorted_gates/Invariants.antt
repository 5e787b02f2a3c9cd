use Rattle.lane_nets.specs.Schedules.{AreEntriesBelow, class_bound}
use Rattle.lane_nets.proofs.schedule.sorted_gates.Given as goal

abbrev pub invariant-loop-class : goal.invariant-loop-class
invariant-loop-class l = AreEntriesBelow l.graph l.classes (class_bound l.graph l.class) l.order.items
