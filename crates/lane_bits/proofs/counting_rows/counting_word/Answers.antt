use Rattle.std.proofs.Common.{◌==◌, ◌-◌, ap, ◌∙◌, arith}
use Rattle.std.proofs.lemmas.Nat.Bits.{shr_and_one}
use Rattle.lane_bits.proofs.CountingOrder.{first_input, second_input, third_input, fourth_input, fifth_input, sixth_input, later_input}
use Rattle.lane_bits.proofs.counting_rows.counting_word.Goals as goal

pub returns-in-0 : goal.returns-in-0
returns-in-0 c = λ b low. rw c.in-0.is (first_input c.args.k b low)

pub returns-in-1 : goal.returns-in-1
returns-in-1 c = λ b low. rw c.in-1.is (second_input c.args.k b low)

pub returns-in-2 : goal.returns-in-2
returns-in-2 c = λ b low. rw c.in-2.is (third_input c.args.k b low)

pub returns-in-3 : goal.returns-in-3
returns-in-3 c = λ b low. rw c.in-3.is (fourth_input c.args.k b low)

pub returns-in-4 : goal.returns-in-4
returns-in-4 c = λ b low. rw c.in-4.is (fifth_input c.args.k b low)

pub returns-in-5 : goal.returns-in-5
returns-in-5 c = λ b low. rw c.in-5.is (sixth_input c.args.k b low)

pub returns-in_default : goal.returns-in_default
returns-in_default c = λ b low.
    c.constant_word.ensures b low ∙ ap (λ n. n == 1) (shr_and_one c.args.k (c.args.input - 6)) ∙ later_input c.args.k b c.args.input low (omega arith)
