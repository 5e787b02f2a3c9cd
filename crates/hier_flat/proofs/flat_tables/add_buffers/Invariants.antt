use Rattle.std.proofs.Common.{◌≡◌, drop}
use Rattle.hier_flat.specs.Plans.{with_slot_buffers}
use Rattle.hier_flat.proofs.flat_tables.add_buffers.Given as goal

abbrev pub invariant-loop-output : goal.invariant-loop-output
invariant-loop-output l = with_slot_buffers l.own l.signals (drop l.output-index l.outputs) l.tables ≡ with_slot_buffers l.own l.signals l.outputs l.initial.tables
