use Rattle.std.proofs.Common.{◌≡◌, map, take}
use Rattle.text_words.specs.Slices.{texts}
use Rattle.blif_text.specs.Names.{place_of}
use Rattle.hierarchy_semantics.specs.Places.{actual_of}
use Rattle.hier_flat.proofs.plans.input_slots.Given as goal

abbrev pub invariant-loop-name : goal.invariant-loop-name
invariant-loop-name l = l.slots.items ≡ map (λ name. place_of l.names (actual_of l.c name)) (texts (take l.name-index l.name-items))
