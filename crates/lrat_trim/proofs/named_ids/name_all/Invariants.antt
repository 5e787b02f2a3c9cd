use Rattle.std.proofs.Common.{◌≡◌, ℕ, ◌||◌, drop}
use Rattle.trim_semantics.specs.Trimming.{has_id}
use Rattle.lrat_trim.specs.Backwards.{is_in}
use Rattle.lrat_trim.proofs.named_ids.name_all.Given as goal

abbrev pub invariant-loop-hint : goal.invariant-loop-hint
invariant-loop-hint l = (id : ℕ) → (has_id (drop l.hint-index l.hints) id || is_in l.named id) ≡ (has_id l.hints id || is_in l.initial.named id)
