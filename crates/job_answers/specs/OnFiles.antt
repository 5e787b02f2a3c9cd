-- Calls of jobs that use files alone.
use Rattle.outside_semantics.specs.Outside.{FilesTold, SinkTold}
use Rattle.job_semantics.specs.Call.{Call}

-- a call on files alone: the sink tells what it told
abbrev pub on_files : FilesTold → FilesTold → SinkTold → Call
on_files old new said = record { old = old; new = new; said = said; says = said }
