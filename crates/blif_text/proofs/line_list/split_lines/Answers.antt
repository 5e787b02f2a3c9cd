use Rattle.std.proofs.Common.{map, ap, ◌∙◌}
use Rattle.blif_semantics.specs.Lines.{logical_lines}
use Rattle.blif_text.specs.LogicalLines.{statement_of}
use Rattle.blif_text.proofs.LineSteps.{statements-with_words}
use Rattle.blif_text.proofs.line_list.split_lines.Goals as goal

pub returns-clause-lines : goal.returns-clause-lines
returns-clause-lines c = c.in_ok-list.ensures ∙ ap (map statement_of) (c.deref.ensures.value ∙ c.in_ok-lines.ensures) ∙ statements-with_words (logical_lines c.args.text.now)
