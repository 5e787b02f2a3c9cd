use Rattle.std.proofs.Common.{◌≡◌, ◌<◌, ℕ, length, get_or}
use Rattle.std.specs.Prelude.{All}
use Rattle.merge_log.proofs.merged.Merged.new.Given as goal

abbrev pub invariant-loop-s : goal.invariant-loop-s
invariant-loop-s l = record {
  count : length l.firsts.items ≡ l.s;
  within : All (λ f. f < l.s) l.firsts.items;
  alone : (s : ℕ) → get_or l.firsts.items s s ≡ s;
}
