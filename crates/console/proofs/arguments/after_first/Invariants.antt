use Rattle.std.proofs.Common.{◌≡◌, ◌++◌, map, string_bytes}
use Rattle.std.specs.Vec.Iter.{into_iter_items}
use Rattle.console.proofs.arguments.after_first.Given as goal

abbrev pub invariant-loop-argument : goal.invariant-loop-argument
invariant-loop-argument l = (l.yielded ++ into_iter_items l.argument-iterator ≡ into_iter_items l.initial.argument-iterator) × (l.words.items ≡ map string_bytes l.yielded)
