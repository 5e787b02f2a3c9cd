use Rattle.bdd_levels.proofs.Joining.{ExceedsBefore}
use Rattle.bdd_levels.proofs.words.excess.Given as goal

abbrev pub invariant-loop-word : goal.invariant-loop-word
invariant-loop-word l = ExceedsBefore l.metric l.outputs l.k l.net l.over l.word
