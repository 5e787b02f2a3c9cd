-- The known vectors, which are tried first.
use Rattle.std.specs.Prelude.{◌≡◌, ℕ, ◌<◌, ◌≤◌, length}
use Rattle.semantics.specs.Net.{NetValue, input_count}
use Rattle.semantics.specs.Vectors.{all_vectors}
use Rattle.lane_bits.specs.Patterns.{PatternSet}
use Rattle.lane_nets.specs.Lanes.{ReferenceValue}
use Rattle.worst_case.specs.declared.options.TheConstants.{LANE_INPUTS}

-- one or more vectors of `inputs` bits; with at most sixteen inputs they are all vectors in counting order
pub record IsTrial (inputs : ℕ) (s : PatternSet) : Type 0 where
  pub inputs_are : s.inputs ≡ inputs
  pub some : 0 < length s.vectors
  pub all : inputs ≤ LANE_INPUTS → s.vectors ≡ all_vectors inputs

-- a net and some input vectors of it; with at most sixteen inputs all of them in counting order
pub record IsHeldFor (N : NetValue) (held : ReferenceValue) : Type 0 where
  pub exact : held.exact ≡ N
  pub trial : IsTrial (input_count N) held.patterns
