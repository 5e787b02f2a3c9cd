use Rattle.std.proofs.Common.{◌≡◌, bytes_eq, drop}
use Rattle.std.specs.List.{list_any}
use Rattle.job_semantics.specs.Endings.{bundle_name, is_bundle_name}
use Rattle.command_words.proofs.bundle_names.is_bundle_name.Given as goal

abbrev pub invariant-loop-ending : goal.invariant-loop-ending
invariant-loop-ending l =
    list_any (λ e. bytes_eq l.name (bundle_name l.stem e)) (drop l.ending-index l.ending-items) ≡ is_bundle_name l.stem l.name
