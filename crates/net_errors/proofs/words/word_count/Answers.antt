use Rattle.std.proofs.Common.{◌∙◌}
use Rattle.net_errors.proofs.WordSlices.{count_without_width}
use Rattle.net_errors.proofs.words.word_count.Goals as goal

pub returns-in-None : goal.returns-in-None
returns-in-None c = c.min.ensures ∙ count_without_width c.args.metric c.args.outputs c.in-None.is
