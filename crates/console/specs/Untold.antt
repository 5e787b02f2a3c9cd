-- Files and a sink that tell nothing but the count of their faults, the name that is open and the read turns.
use Rattle.std.specs.Prelude.{ℕ, Option, None, IfSome, IsSomeAnd, false}
use Rattle.history.specs.declared.reads.Reads.{Reads}
use Rattle.outside_semantics.specs.Outside.{FilesTold, SinkTold}

abbrev pub untold : ℕ → Reads → FilesTold
untold faults reads = record {
  held = None;
  reading = None;
  writing = None;
  opened = reads.opened;
  turns = reads.turns;
  faults = faults;
  steady_read = λ _. false;
  steady_write = λ _. false;
  calm_read = false;
  calm_write = false;
}

abbrev pub untold_sink : ℕ → SinkTold
untold_sink faults = record { put_bytes = None; faults = faults }

-- where a file was open before a call it is open after it, and P holds of both
abbrev pub WhereOpen : {F : Type 0} → Option F → Option F → (F → F → Type 0) → Type 0
WhereOpen before after P = IfSome before (λ old. IsSomeAnd after (P old))
