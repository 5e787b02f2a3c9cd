use Rattle.std.proofs.Common.{◌≤◌, length, take, ap, sym, subst, ◌∙◌}
use Rattle.semantics.specs.Net.{input_count}
use Rattle.proof_semantics.specs.Queries.{IsOver}
use Rattle.cdcl_core.specs.Outcomes.{IsOutcome}
use Rattle.worst_case.proofs.Queries.{model_wide, IsOver-from_model}
use Rattle.worst_case.proofs.Repeated.{chain_derives, chain_counted, chain_merges, chain_back, log_counted}
use Rattle.worst_case.proofs.repeated_query.ask_again.Goals as goal

pub ask_further-requires : goal.ask_further-requires
ask_further-requires g c =
    let nets = c.args.nets.now in
    let q = c.args.question.now in
    record {
      limit = c.requires.limit;
      derived = chain_derives q.aim nets.exact nets.approx c.args.spent c.requires.spent q.joint.formula c.requires.posed.formula;
    }

pub input_bits-requires : goal.input_bits-requires
input_bits-requires g c =
    let nets = c.args.nets.now in
    let q = c.args.question.now in
    subst (λ N. input_count N ≤ length c.in-Model.values) (sym c.exact.ensures.value)
    (model_wide q.aim.metric nets.exact nets.approx q.aim.bound c.requires.posed.comparable q.joint.formula c.in-Model.values c.requires.posed.formula
    (subst (IsOutcome q.joint.formula c.args.spent.log) c.in-Model.is c.in_ok-outcome.ensures))

pub take_first-requires : goal.take_first-requires
take_first-requires g c =
    let f = c.args.question.now.joint.formula in
    subst (λ n. n ≤ length c.in-Open.log) (sym c.len-count.ensures)
    (log_counted f c.args.spent.log c.in-Open.log (subst (IsOutcome f c.args.spent.log) c.in-Open.is c.in_ok-outcome.ensures))

pub returns-in_ok-input_bits-in-Model : goal.returns-in_ok-input_bits-in-Model
returns-in_ok-input_bits-in-Model g c =
    let nets = c.args.nets.now in
    let q = c.args.question.now in
    subst (IsOver q.aim.metric nets.exact nets.approx q.aim.bound) (sym (c.in_ok-input_bits-in-Model.ensures ∙ ap (λ N. take (input_count N) c.in-Model.values) c.exact.ensures.value))
    (IsOver-from_model q.aim.metric nets.exact nets.approx q.aim.bound c.requires.posed.comparable c.requires.many_inputs q.joint.formula c.in-Model.values c.requires.posed.formula
    (subst (IsOutcome q.joint.formula c.args.spent.log) c.in-Model.is c.in_ok-outcome.ensures))

pub kept_refutation-requires : goal.kept_refutation-requires
kept_refutation-requires g c =
    let nets = c.args.nets.now in
    let q = c.args.question.now in
    let found = subst (IsOutcome q.joint.formula c.args.spent.log) c.in-Refuted.is c.in_ok-outcome.ensures in
    record {
      posed = c.requires.posed;
      first = chain_counted q.aim nets.exact nets.approx c.args.spent c.requires.spent c.in-Refuted.log found.begins;
      merged = chain_merges q.aim nets.exact nets.approx c.args.spent c.requires.spent c.in-Refuted.log found.begins;
      derivation = found.derivation;
      refutes = found.refutes;
    }

pub returns-in_ok-log-in-Open : goal.returns-in_ok-log-in-Open
returns-in_ok-log-in-Open g c =
    let nets = c.args.nets.now in
    let q = c.args.question.now in
    chain_back q.aim nets.exact nets.approx c.args.spent c.requires.spent q.joint.formula c.in-Open.log
    (subst (IsOutcome q.joint.formula c.args.spent.log) c.in-Open.is c.in_ok-outcome.ensures) c.in_ok-log-in-Open.log
    (c.in_ok-log-in-Open.ensures ∙ ap (λ n. take n c.in-Open.log) c.len-count.ensures)
