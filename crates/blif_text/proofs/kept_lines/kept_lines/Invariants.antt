use Rattle.std.proofs.Common.{◌≡◌, ◌+◌, length, drop}
use Rattle.blif_semantics.specs.Lines.{physical_lines, logical_from}
use Rattle.blif_text.specs.LogicalLines.{after_begun}
use Rattle.blif_text.specs.KeptLines.{nothing_kept, outcome}
use Rattle.blif_text.proofs.kept_lines.kept_lines.Given as goal

abbrev pub invariant-loop-line : goal.invariant-loop-line
invariant-loop-line l = record {
  counted : l.number ≡ length l.yielded + 1;
  same :
      outcome l.kept (after_begun l.begun (logical_from l.number (drop (length l.yielded) (physical_lines l.text))))
      ≡ outcome nothing_kept (logical_from 1 (physical_lines l.text));
}
