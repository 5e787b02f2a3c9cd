use Rattle.std.proofs.Common.{◌≡◌, ◌∷◌, take}
use Rattle.std.specs.Prelude.{map}
use Rattle.memory_runs.specs.Bundles.{with_bytes}
use Rattle.memory_runs.proofs.bundles.with_file.Given as goal

abbrev pub invariant-loop-kept : goal.invariant-loop-kept
invariant-loop-kept l = l.files ≡ (l.name, l.text) ∷ with_bytes l.whole.held (take l.kept-index (map (λ name. name.now) l.kept-items))
