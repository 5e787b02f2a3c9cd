use Rattle.std.proofs.Common.{◌≡◌, ◌≤◌, ℕ, length, take, subst, sym, ap, ◌∙◌}
use Rattle.std.proofs.lemmas.Result.{IfOk-weaker}
use Rattle.quality_semantics.specs.Joint.{joint_net}
use Rattle.proof_semantics.specs.Logs.{IsDerivation}
use Rattle.proof_semantics.specs.Merges.{IsMergeLog}
use Rattle.cdcl_core.specs.Answers.{IsAnswer}
use Rattle.worst_case.specs.Exceeds.{IsAsked, told}
use Rattle.worst_case.proofs.Queries.{model_wide, asked_of}
use Rattle.worst_case.proofs.Repeated.{no_longer}
use Rattle.worst_case.proofs.solver_query.ask_once.Goals as goal

pub solve_guided-requires : goal.solve_guided-requires
solve_guided-requires g c = record {
  limit = c.requires.limit;
  merged = subst (λ f. IsDerivation f c.args.question.now.merged) (sym c.requires.posed.formula) c.requires.posed.merged.derivation;
}

pub told_of_nets-requires : goal.told_of_nets-requires
told_of_nets-requires g c = λ bits is.
    let nets = c.args.nets.now in
    let q = c.args.question.now in
    model_wide q.aim.metric nets.exact nets.approx q.aim.bound c.requires.posed.comparable q.joint.formula bits c.requires.posed.formula
    (subst (IsAnswer q.joint.formula q.merged q.aim.limit) is c.in_ok-answer.ensures)

pub kept_refutation-requires : goal.kept_refutation-requires
kept_refutation-requires g c =
    let nets = c.args.nets.now in
    let q = c.args.question.now in
    let J = joint_net nets.exact nets.approx q.aim.metric q.aim.bound in
    let found = subst (IsAnswer q.joint.formula q.merged q.aim.limit) c.in-Refuted.is c.in_ok-answer.ensures in
    record {
      posed = c.requires.posed;
      first = subst (λ n. n ≤ length c.in-Refuted.log) (sym c.len-merged.ensures) (no_longer q.merged c.in-Refuted.log found.begins);
      merged = subst (λ n. IsMergeLog J (take n c.in-Refuted.log)) (sym c.len-merged.ensures) (subst (IsMergeLog J) (sym found.begins) c.requires.posed.merged);
      derivation = found.derivation;
      refutes = found.refutes;
    }

pub returns-in_default : goal.returns-in_default
returns-in_default g c =
    let nets = c.args.nets.now in
    let q = c.args.question.now in
    let answered = IsAsked q.aim nets.exact nets.approx in
    let behind = λ (n : ℕ). told nets.exact nets.approx q.aim.bound n c.in_ok-answer.answer in
    IfOk-weaker c.told_of_nets.result (λ exceed. exceed ≡ behind c.len-merged.result) answered
    (λ exceed is. subst answered (sym (is ∙ ap behind c.len-merged.ensures))
    (asked_of q.aim nets.exact nets.approx c.requires.posed.comparable c.requires.many_inputs q.joint.formula c.requires.posed.formula
    q.merged c.requires.posed.merged c.in_ok-answer.answer c.in_ok-answer.ensures))
    c.told_of_nets.ensures
