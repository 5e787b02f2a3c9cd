-- How a count of calls and faults goes on.
use Rattle.std.specs.Prelude.{◌≡◌, ◌≤◌}
use Rattle.file_core.specs.declared.calls.Calls.{Calls}

-- no count falls, and which calls fail stays
pub record Rises (old new : Calls) : Type 0 where
  pub faults : old.faults ≤ new.faults
  pub calls : old.calls ≤ new.calls
  pub failing : new.failing ≡ old.failing
