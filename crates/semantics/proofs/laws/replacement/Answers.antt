use Rattle.semantics.proofs.Replaced.{replaced-apart, replaced-same, replaced-new}
use Rattle.semantics.proofs.laws.replacement.Goals as goal

pub returns : goal.returns
returns c = record { apart = replaced-apart; same = replaced-same; new = replaced-new }
