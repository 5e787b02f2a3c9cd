use Rattle.std.proofs.Common.{ℕ, List, length, refl, ap, ◌∙◌, arith}
use Rattle.lane_bits.specs.Rows.{row_bit}
use Rattle.sim_core.proofs.Joined.{joined-row, joined-before, row_bit-front}
use Rattle.sim_core.proofs.row_blocks.set_row.Goals as goal

pub returns-clause-bits : goal.returns-clause-bits
returns-clause-bits c = λ p low.
    let s = c.split_at_mut-before.ensures in
    let after = c.copy_from_slice.ensures.after in
    joined-row c.split_at_mut-before.result.0.now c.copy_from_slice.new.self _ _ c.args.start refl s.front_len p (omega (arith, low, ap length after)) ∙ ap (λ (xs : List ℕ). row_bit xs p) after

pub returns-clause-before : goal.returns-clause-before
returns-clause-before c = λ q low.
    let s = c.split_at_mut-before.ensures in
    joined-before c.split_at_mut-before.result.0.now c.copy_from_slice.new.self _ _ c.args.start refl s.front_len q low
    ∙ ap (λ (xs : List ℕ). row_bit xs q) s.front ∙ row_bit-front c.args.rows.now c.args.start q low
