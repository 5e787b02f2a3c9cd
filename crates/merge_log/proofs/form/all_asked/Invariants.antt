use Rattle.std.proofs.Common.{◌≡◌, ◌++◌, drop, map}
use Rattle.std.specs.Prelude.{flat_map}
use Rattle.merge_log.specs.Chains.{asked}
use Rattle.merge_log.proofs.form.all_asked.Given as goal

abbrev pub invariant-loop-row : goal.invariant-loop-row
invariant-loop-row l = l.marks.items ++ flat_map (map asked) (drop l.row-index l.rows) ≡ flat_map (map asked) l.rows
