use Rattle.std.proofs.Common.{◌≡◌, map, take}
use Rattle.text_words.specs.Slices.{texts}
use Rattle.hier_parts.proofs.models.model_names.Given as goal

abbrev pub invariant-loop-model : goal.invariant-loop-model
invariant-loop-model l = texts l.names.items ≡ map (λ m. m.name) (take l.model-index l.models)
