use Rattle.std.proofs.Common.{◌≡◌, ◌++◌, drop, map}
use Rattle.needed_log.specs.Kept.{kept}
use Rattle.needed_log.specs.Renumbered.{new_item}
use Rattle.needed_log.proofs.renumbering.kept_items.Given as goal

abbrev pub invariant-loop-place : goal.invariant-loop-place
invariant-loop-place l = l.short ++ map (new_item l.clauses l.ids) (kept (drop l.place l.marks) (drop l.place l.items)) ≡ map (new_item l.clauses l.ids) (kept l.marks l.items)
