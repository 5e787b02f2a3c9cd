use Rattle.std.proofs.Common.{◌≡◌, map}
use Rattle.std.specs.List.{range_with_len}
use Rattle.job_semantics.specs.Demo.{sum_signal}
use Rattle.demo_adder.proofs.adder.adder_outputs.Given as goal

abbrev pub invariant-loop-stage : goal.invariant-loop-stage
invariant-loop-stage l = l.outputs ≡ map (sum_signal l.width) (range_with_len 0 l.stage)
