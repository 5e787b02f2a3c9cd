use Rattle.std.proofs.Common.{arith}
use Rattle.aiger_semantics.proofs.ReadSound.{and-named}
use Rattle.aiger_text.proofs.conjunctions.and_name.Goals as goal

pub known-requires : goal.known-requires
known-requires c =
    rw (c.deref.ensures.value, c.in_ok-extend_from_slice.ensures.items, c.in_ok-bytes.ensures.items, c.as_bytes.ensures.value, c.format.ensures.text, c.from.ensures)
    (and-named c.args.variable (omega arith))
