-- What holds of a circuit that was read from lines.
use Rattle.std.specs.Prelude.{◌≡◌, ◌+◌, ◌<◌, ◌^◌, length, All}
use Rattle.semantics.specs.Net.{IsName}
use Rattle.aiger_semantics.specs.Circuit.{CircuitValue}

-- There are as many names as inputs, and as many as outputs. Each input's literal fits its type, and so do
-- the numbers of all signals.
pub record IsRead (c : CircuitValue) : Type 0 where
  pub input_names : length c.input_names ≡ length c.inputs
  pub output_names : length c.output_names ≡ length c.outputs
  pub outputs_named : All IsName c.output_names
  pub inputs_low : All (λ v. v < 2 ^ 31) c.inputs
  pub few : length c.inputs + length c.outputs + length c.ands < 2 ^ 31
