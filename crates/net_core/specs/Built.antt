-- What holds of every net in memory, and what is required of its parts. Source: this tool's nets; the two
-- limits make each number of a signal or an output fit a `u32`.
use Rattle.std.specs.Prelude.{◌≢◌, ◌<◌, ◌^◌, length, All, AllPairs}
use Rattle.semantics.specs.Net.{NetValue, signal_count, signal_names, IsSound}

pub record IsBuilt (N : NetValue) : Type 0 where
  pub sound : IsSound N
  pub few_signals : signal_count N < 2 ^ 31
  pub few_outputs : length N.outputs < 2 ^ 31

-- What parts must be to make a net, besides acyclic. The types of the parts hold the rest: names are names,
-- and rows have their table's width.
pub record IsWired (N : NetValue) : Type 0 where
  pub names_differ : AllPairs ◌≢◌ (signal_names N)
  pub has_output : 0 < length N.outputs
  pub outputs_are_signals : All (λ s. s < signal_count N) N.outputs
  pub few_signals : signal_count N < 2 ^ 31
  pub few_outputs : length N.outputs < 2 ^ 31
