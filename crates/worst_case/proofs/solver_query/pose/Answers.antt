use Rattle.std.proofs.Common.{ap, sym, subst, ◌∙◌}
use Rattle.proof_semantics.specs.Formula.{goal_of}
use Rattle.proof_semantics.specs.Merges.{IsMergeLog}
use Rattle.worst_case.proofs.solver_query.pose.Goals as goal

pub merges-requires : goal.merges-requires
merges-requires c = record { its_goal = c.in_ok-joint.ensures.formula ∙ ap goal_of (sym c.in_ok-joint.ensures.net) }

pub returns-clause-posed : goal.returns-clause-posed
returns-clause-posed c = record {
  comparable = c.see_comparable.ensures;
  formula = c.in_ok-joint.ensures.formula;
  merged = subst (λ J. IsMergeLog J c.in_ok-merged.merged) c.in_ok-joint.ensures.net c.in_ok-merged.ensures;
}
