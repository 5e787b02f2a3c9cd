use Rattle.std.proofs.Common.{◌≡◌, map, take}
use Rattle.hier_parts.specs.Driven.{driven_names}
use Rattle.hier_flat.proofs.plans.driven_sets.Given as goal

abbrev pub invariant-loop-m : goal.invariant-loop-m
invariant-loop-m l = l.all.items ≡ map (driven_names l.sizes) (take l.m-index l.models)
