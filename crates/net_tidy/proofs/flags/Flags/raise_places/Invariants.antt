use Rattle.std.proofs.Common.{◌≡◌, ℕ, false, length, take}
use Rattle.chain_semantics.specs.TidyRules.{has}
use Rattle.net_tidy.specs.Flags.{IsDown}
use Rattle.net_tidy.proofs.flags.Flags.raise_places.Given as goal

abbrev pub invariant-loop-place : goal.invariant-loop-place
invariant-loop-place l = record {
  count : length l.self ≡ length l.fn.self;
  others : (j : ℕ) → IsDown l.self j → IsDown l.fn.self j × (has (take l.place-index l.places) j ≡ false);
}
