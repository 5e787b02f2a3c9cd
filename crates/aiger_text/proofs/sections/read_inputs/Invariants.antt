use Rattle.std.proofs.Common.{◌≡◌}
use Rattle.aiger_semantics.specs.CircuitLines.{input_of, all_read}
use Rattle.text_words.specs.Slices.{texts}
use Rattle.aiger_text.proofs.SectionSteps.{put_all, rest_read}
use Rattle.aiger_text.proofs.sections.read_inputs.Given as goal

abbrev pub invariant-loop-i : goal.invariant-loop-i
invariant-loop-i l = put_all l.inputs (rest_read (input_of l.most) l.first l.count (texts l.lines) l.i) ≡ all_read (input_of l.most) l.first l.count (texts l.lines)
