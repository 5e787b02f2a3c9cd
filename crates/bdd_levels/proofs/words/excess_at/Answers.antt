use Rattle.std.proofs.Common.{sym, ◌∙◌, arith}
use Rattle.bdd_levels.proofs.Joining.{bus_width}
use Rattle.bdd_levels.proofs.words.excess_at.Goals as goal

pub word_excess-requires-clause-widths : goal.word_excess-requires-clause-widths
word_excess-requires-clause-widths c = bus_width _ _ _ c.in_ok-exact.ensures.value ∙ sym (bus_width _ _ _ c.in_ok-approximate.ensures.value)

pub word_excess-requires-clause-some : goal.word_excess-requires-clause-some
word_excess-requires-clause-some c = omega (arith, bus_width _ _ _ c.in_ok-exact.ensures.value, c.word_place-first.ensures.some)

pub word_excess-requires-clause-narrow : goal.word_excess-requires-clause-narrow
word_excess-requires-clause-narrow c = omega (arith, bus_width _ _ _ c.in_ok-exact.ensures.value, c.word_place-first.ensures.inside, c.requires.few)
