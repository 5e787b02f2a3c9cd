-- Calls on files and a sink, as the jobs that write a bundle make them.
use Rattle.std.specs.Prelude.{◌≡◌}
use Rattle.outside_semantics.specs.Outside.{FilesTold, SinkTold}
use Rattle.job_semantics.specs.Call.{Call}

-- the call before which files and sink told `old` and `said`, and after which they told `new` and `says`
abbrev pub told_call : FilesTold → FilesTold → SinkTold → SinkTold → Call
told_call old new said says = record { old = old; new = new; said = said; says = says }

-- files and sink tell what they told
abbrev pub IsStill : Call → Type 0
IsStill call = (call.new ≡ call.old) × (call.says ≡ call.said)
