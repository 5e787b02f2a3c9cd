use Rattle.std.proofs.Common.{◌==◌, ap, sym, ◌∙◌}
use Rattle.std.proofs.lemmas.Nat.Bits.{bit_at_ones}
use Rattle.lane_bits.proofs.counting_rows.constant_word.Goals as goal

pub returns-then-bit : goal.returns-then-bit
returns-then-bit c = λ b low. ap (λ n. n == 1) (bit_at_ones 64 b low) ∙ sym c.if-bit.true
