-- Why a text is refused.
use Rattle.std.specs.Prelude.{◌≡◌, Option, Some, None, Result, Err}
use Rattle.semantics.specs.Net.{NetValue}
use Rattle.blif_semantics.specs.Statements.{bad_byte, command, stray_row, bad_row, mixed_plane, second_model}
use Rattle.blif_semantics.specs.Statements.{after_end, names_empty, bad_name}
use Rattle.blif_semantics.specs.Reading as r
use Rattle.blif_text.specs.declared.refusal.BlifRefusal.{BlifRefusal}
use Rattle.blif_text.specs.declared.refusal.BlifRefusal.TheVariants as b

-- the refusal of the definitions that the code's refusal is; want of memory is none
abbrev pub refusal_of : BlifRefusal → Option r.Refusal
refusal_of b.TextLong = Some r.text_long
refusal_of (b.BadByte line) = Some (r.wrong_line line bad_byte)
refusal_of (b.Command line word) = Some (r.wrong_line line (command word))
refusal_of (b.StrayRow line) = Some (r.wrong_line line stray_row)
refusal_of (b.BadRow line) = Some (r.wrong_line line bad_row)
refusal_of (b.MixedPlane line) = Some (r.wrong_line line mixed_plane)
refusal_of (b.SecondModel line) = Some (r.wrong_line line second_model)
refusal_of (b.AfterEnd line) = Some (r.wrong_line line after_end)
refusal_of (b.NamesEmpty line) = Some (r.wrong_line line names_empty)
refusal_of (b.BadName line) = Some (r.wrong_line line bad_name)
refusal_of (b.Doubled name) = Some (r.doubled name)
refusal_of (b.Undriven name) = Some (r.undriven name)
refusal_of b.NoOutput = Some r.no_output
refusal_of (b.Cycle name) = Some (r.cycle name)
refusal_of (b.Limit which) = Some (r.limit which)
refusal_of b.OutOfMemory = None

-- the answer is this refusal, or the refusal is want of memory
abbrev pub Tells : BlifRefusal → Result NetValue r.Refusal → Type 0
Tells told answer = (refusal : r.Refusal) → refusal_of told ≡ Some refusal → answer ≡ Err refusal
