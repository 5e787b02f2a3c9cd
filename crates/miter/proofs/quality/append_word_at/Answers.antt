use Rattle.std.proofs.Common.{sym, ◌∙◌, arith}
use Rattle.miter.proofs.Words.{bus_length}
use Rattle.miter.proofs.quality.append_word_at.Goals as goal

pub append_word-requires-clause-widths : goal.append_word-requires-clause-widths
append_word-requires-clause-widths c = bus_length _ _ _ c.in_ok-exact.ensures.value ∙ sym (bus_length _ _ _ c.in_ok-approx.ensures.value)

pub append_word-requires-clause-narrow : goal.append_word-requires-clause-narrow
append_word-requires-clause-narrow c =
    omega (arith, bus_length _ _ _ c.in_ok-exact.ensures.value, c.word_place-first.ensures.inside, c.requires.few)
