use Rattle.std.proofs.Common.{subst, ◌∙◌}
use Rattle.graph_questions.specs.GraphClauses.{IsAnsweredOf}
use Rattle.graph_questions.specs.Levels.{question_of}
use Rattle.graph_questions.proofs.ErrorLiterals.{constant_over, never_over}
use Rattle.graph_questions.proofs.levels.decide.Goals as goal

pub returns-then-goal-constant : goal.returns-then-goal-constant
returns-then-goal-constant g c =
    let made = c.in_ok-goal.goal in
    constant_over (question_of c.args.nets.now c.args.level.now) made.graph made.literal c.in_ok-goal.ensures (c.if-goal-constant.true ∙ c.constant.ensures) c.values.ensures

pub returns-in-Refuted : goal.returns-in-Refuted
returns-in-Refuted g c =
    let made = c.in_ok-goal.goal in
    never_over (question_of c.args.nets.now c.args.level.now) made.graph made.literal c.in_ok-goal.ensures
    (subst (IsAnsweredOf made.graph made.literal) c.in-Refuted.is c.in_ok-ask_solver.ensures)
