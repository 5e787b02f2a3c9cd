use Rattle.std.proofs.Common.{subst, sym}
use Rattle.graph_questions.specs.GraphClauses.{IsAnsweredOf}
use Rattle.graph_questions.proofs.Questions.{answered, came_to}
use Rattle.graph_questions.proofs.question.ask_solver.Goals as goal

pub returns-in_default : goal.returns-in_default
returns-in_default g c =
    answered c.args.graph.now c.args.goal c.in_ok-formula.formula _ _ c.in_ok-decided.decided c.in_ok-formula.ensures.needed c.in_ok-formula.ensures.variables c.in_ok-decided.ensures

pub returns : goal.returns
returns g c =
    subst (IsAnsweredOf c.args.graph.now c.args.goal) (sym c.answer_of.ensures)
    (came_to c.args.graph.now c.args.goal c.in_ok-formula.formula c.in-Spent.log c.in_ok-outcome.outcome c.in_ok-formula.ensures.needed c.in_ok-formula.ensures.variables c.in_ok-outcome.ensures)
