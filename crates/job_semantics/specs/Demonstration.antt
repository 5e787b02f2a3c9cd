-- What a demo job comes to: the generated net is simplified like a net that was read, and its bundle stands
-- under the stem `demo`. Source: this tool's own demonstration.
use Rattle.std.specs.Prelude.{IsTrue, codes}
use Rattle.semantics.specs.Texts.{Bytes}
use Rattle.job_semantics.specs.Endings.{are_bundle_names_steady}
use Rattle.job_semantics.specs.Synthesis.{IsQuiet}
use Rattle.job_semantics.specs.Call.{Call}

abbrev pub demo_stem : Bytes
demo_stem = codes "demo"

abbrev pub IsQuietDemo : Call → Type 0
IsQuietDemo call = IsQuiet (IsTrue (are_bundle_names_steady call.old demo_stem)) call
