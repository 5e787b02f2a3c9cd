use Rattle.std.proofs.Common.{◌-◌, ◌^◌, refl, ap, ◌∙◌}
use Rattle.std.proofs.lemmas.Simd.{get_or-replicate}
use Rattle.lane_nets.specs.Words.{word_bit}
use Rattle.lane_nets.proofs.WordBits.{ones_bit}
use Rattle.lane_nets.proofs.WideWords.{not-lane}
use Rattle.lane_nets.proofs.wide_words.mark_wide.Goals as goal
use Rattle.lane_nets.proofs.wide_words.mark_wide.Goals.{in-Zero, in-One, in-Dash}

pub returns : goal.returns
returns c = λ j b lane low. elim c.match-mark.branch [
  | in-Zero w ↦ rw (w.result-is, w.in-Zero.is) (not-lane c.args.wide j b c.fits-wide.0 c.fits-wide.1 lane low)
  | in-One w ↦ rw (w.result-is, w.in-One.is) refl
  | in-Dash w ↦ rw (w.result-is, w.in-Dash.is) (ap (λ x. word_bit x b) (get_or-replicate 8 j (2 ^ 64 - 1) 0 lane) ∙ ones_bit b low)
]
