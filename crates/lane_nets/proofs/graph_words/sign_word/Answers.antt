use Rattle.std.proofs.Common.{◌%◌, sym, ◌∙◌}
use Rattle.std.proofs.lemmas.Bool.{eq-eqb}
use Rattle.lane_nets.proofs.WordBits.{ones_bit}
use Rattle.lane_nets.proofs.graph_words.sign_word.Goals as goal

pub returns-then-literal-eq1 : goal.returns-then-literal-eq1
returns-then-literal-eq1 c = λ b low. ones_bit b low ∙ sym (eq-eqb (c.args.literal % 2) 1 c.if-literal-eq1.true)
