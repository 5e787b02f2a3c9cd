use Rattle.std.proofs.Common.{◌≡◌, take}
use Rattle.text_words.specs.Slices.{texts}
use Rattle.hier_flat.proofs.plans.distinct.Given as goal

abbrev pub invariant-loop-name : goal.invariant-loop-name
invariant-loop-name l = l.all ≡ texts (take l.name-index l.names)
