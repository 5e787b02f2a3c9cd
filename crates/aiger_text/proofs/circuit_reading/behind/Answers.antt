use Rattle.std.proofs.Common.{ap, ◌∙◌}
use Rattle.std.proofs.lemmas.List.{take_rest}
use Rattle.text_words.specs.Slices.{texts}
use Rattle.aiger_text.proofs.SectionSteps.{texts-drop}
use Rattle.aiger_text.proofs.circuit_reading.behind.Goals as goal

pub returns-then-count-lines : goal.returns-then-count-lines
returns-then-count-lines c = ap texts (take_rest c.args.lines.now c.args.count) ∙ texts-drop c.args.count c.args.lines.now
