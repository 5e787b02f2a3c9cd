-- What IN must be. Source: BLIF, as this tool reads it.
use Rattle.std.specs.Prelude.{◌≡◌, Result, Ok, Err}
use Rattle.semantics.specs.declared.limits.TheConstants.{MOST_INPUT_BYTES}
use Rattle.semantics.specs.Texts.{Bytes}
use Rattle.semantics.specs.Net.{NetValue}
use Rattle.blif_semantics.specs.Reading.{Refusal, blif_reading}

-- IN as a net, or why it is refused
abbrev pub input_reading : Bytes → Result NetValue Refusal
input_reading text = blif_reading text MOST_INPUT_BYTES

-- the bytes are read as the net
abbrev pub IsReadAs : Bytes → NetValue → Type 0
IsReadAs text N = blif_reading text MOST_INPUT_BYTES ≡ Ok N

-- the bytes are read as some net
abbrev pub IsAccepted : Bytes → Type 0
IsAccepted text = (N : NetValue) × IsReadAs text N

-- the bytes are read as no net, for this reason
abbrev pub IsRefusedFor : Bytes → Refusal → Type 0
IsRefusedFor text refusal = blif_reading text MOST_INPUT_BYTES ≡ Err refusal
