use Rattle.std.proofs.Common.{arith}
use Rattle.sim_core.proofs.NetValues.{full_word, zero_word, filled_bit}
use Rattle.sim_core.proofs.signal_row.fill_words.Goals as goal
use Rattle.sim_core.proofs.signal_row.fill_words.Goals.{then-bit, else-bit}

pub returns : goal.returns
returns c = λ p low. elim c.if-bit.branch [
  | then-bit w ↦
      filled_bit c.args.bit c.if-bit.word _ c.fill.new.self p (c.fill.ensures.after (λ y e. e)) (omega (arith, low, c.fill.auto.self)) (full_word c.if-bit.word c.args.bit w.word-is w.if-bit.true)
  | else-bit w ↦
      filled_bit c.args.bit c.if-bit.word _ c.fill.new.self p (c.fill.ensures.after (λ y e. e)) (omega (arith, low, c.fill.auto.self)) (zero_word c.if-bit.word c.args.bit w.word-is w.if-bit.false)
]
