use Rattle.std.proofs.Common.{sym, ◌∙◌}
use Rattle.std.proofs.lemmas.Bool.{eqb-true}
use Rattle.lane_bits.proofs.Changed.{clear_from_fold}
use Rattle.lane_nets.proofs.Schedules.{xor_none}
use Rattle.lane_nets.proofs.wide_words.are_equal.Goals as goal

pub returns : goal.returns
returns c = λ equal j lane. xor_none _ _ (sym (c.xor_wide.ensures j lane) ∙ (clear_from_fold 0 c.xor_wide.result (eqb-true _ 0 equal)).1 j)
