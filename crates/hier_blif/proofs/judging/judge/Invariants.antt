use Rattle.std.proofs.Common.{◌≡◌, false, None, drop}
use Rattle.blif_text.specs.Places.{table_of}
use Rattle.hier_blif.specs.Judging.{first_wrong_in}
use Rattle.hier_blif.proofs.judging.judge.Given as goal

abbrev pub invariant-loop-line : goal.invariant-loop-line
invariant-loop-line l = first_wrong_in l.ended (table_of l.table) (drop l.line-index l.lines) ≡ first_wrong_in false None l.lines
