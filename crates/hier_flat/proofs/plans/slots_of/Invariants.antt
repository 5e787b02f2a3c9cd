use Rattle.std.proofs.Common.{◌≡◌, map, take}
use Rattle.text_words.specs.Slices.{texts}
use Rattle.blif_text.specs.Names.{place_of}
use Rattle.hier_flat.proofs.plans.slots_of.Given as goal

abbrev pub invariant-loop-word : goal.invariant-loop-word
invariant-loop-word l = l.slots.items ≡ map (place_of l.names) (texts (take l.word-index l.words))
