use Rattle.std.proofs.Common.{◌≡◌, flat_map}
use Rattle.std.specs.List.{range_with_len}
use Rattle.job_semantics.specs.Demo.{stage_tables}
use Rattle.demo_adder.proofs.adder.adder_tables.Given as goal

abbrev pub invariant-loop-stage : goal.invariant-loop-stage
invariant-loop-stage l = l.tables ≡ flat_map (stage_tables l.width) (range_with_len 0 l.stage)
