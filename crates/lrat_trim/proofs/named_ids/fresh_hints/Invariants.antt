use Rattle.std.proofs.Common.{◌≡◌, take}
use Rattle.std.specs.Prelude.{filter}
use Rattle.lrat_trim.specs.Backwards.{is_in, is_fresh}
use Rattle.lrat_trim.proofs.named_ids.fresh_hints.Given as goal

abbrev pub invariant-loop-hint : goal.invariant-loop-hint
invariant-loop-hint l = l.fresh.items ≡ filter (is_fresh l.clauses (is_in l.named)) (take l.hint-index l.hints)
