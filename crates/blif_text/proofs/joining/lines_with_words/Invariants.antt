use Rattle.std.proofs.Common.{◌≡◌, ◌+◌, ◌++◌, length, drop}
use Rattle.blif_semantics.specs.Lines.{physical_lines, logical_from}
use Rattle.blif_text.specs.LogicalLines.{after_begun, with_words}
use Rattle.blif_text.proofs.joining.lines_with_words.Given as goal

abbrev pub invariant-loop-line : goal.invariant-loop-line
invariant-loop-line l = record {
  counted : l.number ≡ length l.yielded + 1;
  same :
      l.lines.items ++ with_words (after_begun l.begun (logical_from l.number (drop (length l.yielded) (physical_lines l.text))))
      ≡ with_words (logical_from 1 (physical_lines l.text));
}
