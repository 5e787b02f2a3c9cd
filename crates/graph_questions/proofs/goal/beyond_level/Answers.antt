use Rattle.std.proofs.lemmas.Result.{IfOk-weaker}
use Rattle.graph_questions.specs.Levels.{question_of}
use Rattle.graph_questions.proofs.Differences.{over_itself}
use Rattle.graph_questions.proofs.goal.beyond_level.Goals as goal

pub returns-in-None-clause-over : goal.returns-in-None-clause-over
returns-in-None-clause-over c =
    IfOk-weaker c.over_literal.result _ _
    (λ over is. over_itself c.over_literal.new.g (question_of c.args.nets.now c.args.level.now) c.args.inputs.now over is)
    c.over_literal.ensures.over
