use Rattle.std.proofs.Common.{subst, sym}
use Rattle.quality_semantics.specs.Joint.{joint_net}
use Rattle.proof_semantics.specs.Merges.{IsMergeLog}
use Rattle.worst_case.proofs.Queries.{IsNever-from}
use Rattle.worst_case.proofs.solver_query.kept_refutation.Goals as goal

pub returns : goal.returns
returns c =
    let nets = c.args.nets.now in
    let q = c.args.question.now in
    IsNever-from q.aim.metric nets.exact nets.approx q.aim.bound c.requires.posed.comparable q.joint.formula c.requires.posed.formula c.in_ok-kept.kept
    c.in_ok-kept.ensures.refutes c.in_ok-kept.ensures.derivation
    (c.args.first, subst (IsMergeLog (joint_net nets.exact nets.approx q.aim.metric q.aim.bound)) (sym c.in_ok-kept.ensures.begins) c.requires.merged)
