use Rattle.miter.proofs.Words.{AreFirstWords}
use Rattle.miter.proofs.quality.append_words.Given as goal

abbrev pub invariant-loop-word : goal.invariant-loop-word
invariant-loop-word l = AreFirstWords l.fn.metric l.fn.outputs l.fn.k l.word l.net l.over
