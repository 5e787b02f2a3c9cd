-- The texts of refusals.
use Rattle.std.specs.Prelude.{ℕ, ◌++◌, codes}
use Rattle.std.specs.Fmt.{decimal}
use Rattle.semantics.specs.declared.which.Which.{Which}
use Rattle.semantics.specs.declared.which.Which.TheVariants as which
use Rattle.semantics.specs.Texts.{Bytes}
use Rattle.blif_text.specs.declared.refusal.BlifRefusal.{BlifRefusal}
use Rattle.blif_text.specs.declared.refusal.BlifRefusal.TheVariants as b

abbrev pub at_line : ℕ → Bytes → Bytes
at_line line message = codes "line " ++ (decimal line ++ (codes ": " ++ message))

abbrev pub which_text : Which → Bytes
which_text which.Inputs = codes "inputs"
which_text which.Outputs = codes "outputs"
which_text which.Tables = codes "tables"
which_text which.Pins = codes "pins in one table"
which_text which.AllPins = codes "pins"
which_text which.Rows = codes "rows"

abbrev pub refusal_text : BlifRefusal → Bytes
refusal_text b.TextLong = codes "text too long"
refusal_text (b.BadByte line) = at_line line (codes "bad byte")
refusal_text (b.Command line word) = at_line line (codes "unknown command " ++ word)
refusal_text (b.StrayRow line) = at_line line (codes "row without a table")
refusal_text (b.BadRow line) = at_line line (codes "bad row")
refusal_text (b.MixedPlane line) = at_line line (codes "mixed planes")
refusal_text (b.SecondModel line) = at_line line (codes "second model")
refusal_text (b.AfterEnd line) = at_line line (codes "text after .end")
refusal_text (b.NamesEmpty line) = at_line line (codes ".names without a name")
refusal_text (b.BadName line) = at_line line (codes "bad name")
refusal_text (b.Doubled name) = name ++ codes " is driven twice"
refusal_text (b.Undriven name) = name ++ codes " is not driven"
refusal_text b.NoOutput = codes "no output"
refusal_text (b.Cycle name) = name ++ codes " depends on itself or on a cycle"
refusal_text (b.Limit which) = codes "too many " ++ which_text which
refusal_text b.OutOfMemory = codes "out of memory"
