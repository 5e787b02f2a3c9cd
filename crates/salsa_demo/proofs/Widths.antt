-- How many inputs the adder has.
use Rattle.std.proofs.Common.{ℕ, ◌≤◌, arith}
use Rattle.semantics.specs.Net.{input_count}
use Rattle.job_semantics.specs.Demo.{demo_net}
use Rattle.job_semantics.proofs.DemoTables.{demo_inputs}

-- words of at most four bits
pub few_inputs : (w : ℕ) → w ≤ 4 → input_count (demo_net w) ≤ 8
few_inputs w narrow = omega (arith, demo_inputs w, narrow)
