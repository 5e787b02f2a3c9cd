use Rattle.std.proofs.Common.{◌≡◌, take, map}
use Rattle.needed_log.specs.Renumbered.{new_id}
use Rattle.needed_log.proofs.new_ids.new_hints.Given as goal

abbrev pub invariant-loop-hint : goal.invariant-loop-hint
invariant-loop-hint l = l.new ≡ map (new_id l.clauses l.ids) (take l.hint-index l.hints)
