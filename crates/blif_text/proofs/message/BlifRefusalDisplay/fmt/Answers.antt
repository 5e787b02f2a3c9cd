use Rattle.std.proofs.Common.{◌++◌, codes, sym, ap, ◌∙◌}
use Rattle.std.specs.Fmt.{decimal}
use Rattle.std.proofs.Output.{has_written_of_eq}
use Rattle.blif_text.specs.Messages.{refusal_text}
use Rattle.blif_text.proofs.message.BlifRefusalDisplay.fmt.Goals as goal

pub returns-in-Command-clause-writes : goal.returns-in-Command-clause-writes
returns-in-Command-clause-writes g c = λ plain ok.
    has_written_of_eq _ _ _ _ _
    (ap (λ word. codes "line " ++ (decimal c.in-Command.line ++ (codes ": unknown command " ++ word))) c.bytes.ensures ∙ ap refusal_text (sym c.in-Command.is))
    (c.write-in-Command.ensures.writes plain ok)

pub returns-in-MixedPlane-clause-writes : goal.returns-in-MixedPlane-clause-writes
returns-in-MixedPlane-clause-writes g c = λ plain ok.
    has_written_of_eq _ _ _ _ _ (ap refusal_text (sym c.in-MixedPlane.is)) (c.write-in-MixedPlane.ensures.writes plain ok)
