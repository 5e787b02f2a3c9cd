use Rattle.std.proofs.Common.{arith}
use Rattle.semantics.proofs.NumberedNames.{IsName-numbered}
use Rattle.net_parts.proofs.name.Name.numbered.Goals as goal

pub invariant_of-result : goal.invariant_of-result
invariant_of-result c =
    rw (c.in_ok-extend_from_slice.ensures.items, c.in_ok-bytes.ensures.items, c.as_bytes.ensures.value, c.format.ensures.text)
    (IsName-numbered c.args.letter c.args.number c.requires (omega arith))
