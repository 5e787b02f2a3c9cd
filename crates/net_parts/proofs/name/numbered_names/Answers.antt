use Rattle.std.proofs.Common.{◌∷◌, decimal, sym, arith}
use Rattle.std.proofs.lemmas.List.FromFn.{map-range_with_len_more}
use Rattle.net_parts.proofs.name.numbered_names.Goals as goal

pub loop-number-preserved : goal.loop-number-preserved
loop-number-preserved c =
    rw (c.in_ok-push.ensures.ok, c.loop-number.invariant, c.in_ok-numbered.ensures, c.from.ensures)
    (sym (map-range_with_len_more (λ i. c.args.letter ∷ decimal i) 0 c.loop-number.number c.loop-number.number (omega arith)))
