use Rattle.std.proofs.Common.{◌≡◌, ◌∷◌, map, decimal}
use Rattle.std.specs.List.{range_with_len}
use Rattle.net_parts.proofs.name.numbered_names.Given as goal

abbrev pub invariant-loop-number : goal.invariant-loop-number
invariant-loop-number l = l.names ≡ map (λ i. l.letter ∷ decimal i) (range_with_len 0 l.number)
