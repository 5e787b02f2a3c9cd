use Rattle.std.proofs.Common.{get_or, refl, ap, ◌∙◌}
use Rattle.lane_nets.specs.Words.{word_bit}
use Rattle.lane_nets.proofs.GraphWords.{literal-lane}
use Rattle.lane_nets.proofs.graph_words.literal_wide.Goals as goal

pub returns : goal.returns
returns c = λ j b lane low.
    ap (λ w. word_bit w b) (c.xor_wide.ensures j lane)
    ∙ literal-lane c.args.wides.now j b c.args.literal _ (get_or c.equal_words-signs.result j 0) refl (ap (λ w. word_bit w b) (c.equal_words-signs.ensures j lane) ∙ c.sign_word.ensures b low)
