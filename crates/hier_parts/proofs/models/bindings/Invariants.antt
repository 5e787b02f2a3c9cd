use Rattle.std.proofs.Common.{◌≡◌, map, take}
use Rattle.text_words.specs.Slices.{texts}
use Rattle.hierarchy_semantics.specs.Models.{binding_of}
use Rattle.hier_parts.proofs.models.bindings.Given as goal

abbrev pub invariant-loop-word : goal.invariant-loop-word
invariant-loop-word l = l.bindings.items ≡ map binding_of (texts (take l.word-index l.words))
