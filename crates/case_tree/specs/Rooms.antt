-- Room for the hints of a vector.
use Rattle.std.specs.Prelude.{◌≡◌, length}
use Rattle.semantics.specs.Net.{NetValue, signal_count}
use Rattle.case_tree.specs.declared.hints.Room.{Room}

-- a value and a flag for each signal
pub record FitsRoom (N : NetValue) (room : Room) : Type 0 where
  pub values : length room.values.items ≡ signal_count N
  pub needed : length room.needed.items ≡ signal_count N
