-- Two nets, of which one was made from the other by a change of one signal's function.
use Rattle.std.specs.Prelude.{◌≡◌, ℕ, ◌<◌, Bool, List, length}
use Rattle.semantics.specs.Net.{NetValue, input_count, signal_count}
use Rattle.semantics.specs.Value.{value_of, outputs_of}

-- the value of signal s of the net at the input vector x
abbrev pub signal_value : NetValue → List Bool → ℕ → Bool
signal_value N x s = value_of (input_count N) N.tables x s

-- The net after the change has as many inputs as the net before, and the signal is one of both. At an input
-- vector at which the signal has the same value in both, the outputs are the same.
pub record IsChange (before after : NetValue) (s : ℕ) : Type 0 where
  pub inputs : input_count before ≡ input_count after
  pub in_before : s < signal_count before
  pub in_after : s < signal_count after
  pub same : (x : List Bool) → length x ≡ input_count after → signal_value before x s ≡ signal_value after x s
      → outputs_of before x ≡ outputs_of after x
