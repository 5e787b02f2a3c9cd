use Rattle.std.proofs.Common.{rules}
use Rattle.lane_nets.proofs.WordBits.{not_bit, ones_bit}
use Rattle.lane_nets.proofs.table_words.mark_word.Goals as goal

pub returns-in-Zero : goal.returns-in-Zero
returns-in-Zero c = λ b low. rw c.in-Zero.is (not_bit c.args.word b (search rules) low)

pub returns-in-Dash : goal.returns-in-Dash
returns-in-Dash c = λ b low. rw c.in-Dash.is (ones_bit b low)
