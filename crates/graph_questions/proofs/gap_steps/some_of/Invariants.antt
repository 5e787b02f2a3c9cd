use Rattle.graph_questions.proofs.Gaps.{IsNoneSoFar}
use Rattle.graph_questions.proofs.gap_steps.some_of.Given as goal

abbrev pub invariant-loop-literal : goal.invariant-loop-literal
invariant-loop-literal l = IsNoneSoFar l.initial.g l.g l.word l.literal-index l.some
