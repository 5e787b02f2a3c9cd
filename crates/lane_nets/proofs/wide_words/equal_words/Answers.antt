use Rattle.std.proofs.lemmas.Simd.{get_or-replicate}
use Rattle.lane_nets.proofs.wide_words.equal_words.Goals as goal

pub returns : goal.returns
returns c = λ j lane. get_or-replicate 8 j c.args.word 0 lane
