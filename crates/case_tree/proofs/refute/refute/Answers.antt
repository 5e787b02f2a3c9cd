use Rattle.std.proofs.Common.{◌∙◌, ap, sym, arith}
use Rattle.std.proofs.lemmas.Result.{IfOk-weaker}
use Rattle.semantics.specs.Net.{input_count}
use Rattle.semantics.specs.Vectors.{all_vectors}
use Rattle.lane_bits.specs.Patterns.{PatternSet}
use Rattle.case_tree.proofs.Refuted.{step_count-few}
use Rattle.case_tree.proofs.Walk.{clauses-counted, walk-refutes, walk-derives}
use Rattle.case_tree.proofs.refute.refute.Goals as goal

pub all_cases-requires-clause-tree : goal.all_cases-requires-clause-tree
all_cases-requires-clause-tree c = record {
  order = c.order.ensures;
  firsts = c.as_slice.ensures ∙ c.in_ok-firsts.ensures;
  clauses = omega (arith, clauses-counted c.args.joint.now c.args.goal.now c.inputs-inputs.ensures.built c.requires.its_goal, c.clause_count-last.ensures.few);
  few_inputs = c.requires.few_inputs;
  all = ap (λ (r : PatternSet). r.vectors) c.in_ok-rest.ensures ∙ sym (ap (λ (r : PatternSet). all_vectors r.inputs) c.in_ok-rest.ensures);
  few = omega (arith, ap (λ (r : PatternSet). r.inputs) c.in_ok-rest.ensures, c.min.ensures);
  within = omega (arith, ap (λ (r : PatternSet). r.inputs) c.in_ok-rest.ensures, c.min.ensures, c.inputs-inputs.ensures.value);
}

pub first_ids-requires : goal.first_ids-requires
first_ids-requires c =
    omega (arith, clauses-counted c.args.joint.now c.args.goal.now c.inputs-inputs.ensures.built c.requires.its_goal, c.clause_count-last.ensures.few)

pub all_cases-requires-clause-ids : goal.all_cases-requires-clause-ids
all_cases-requires-clause-ids c =
    omega (arith, step_count-few (input_count c.args.joint.now) c.requires.few_inputs, c.clause_count-last.ensures.value, c.clause_count-last.ensures.few)

pub returns-clause-refutes : goal.returns-clause-refutes
returns-clause-refutes c =
    IfOk-weaker c.all_cases.result _ _
    (λ log walked. walk-refutes c.args.joint.now c.order.result.now c.args.goal.now c.clause_count-last.result log c.inputs-inputs.ensures.built c.order.ensures c.requires.its_goal c.requires.always_0
    c.clause_count-last.ensures.value walked)
    c.all_cases.ensures

pub returns-clause-derivation : goal.returns-clause-derivation
returns-clause-derivation c =
    IfOk-weaker c.all_cases.result _ _
    (λ log walked. walk-derives c.args.joint.now c.order.result.now c.args.goal.now c.clause_count-last.result log c.inputs-inputs.ensures.built c.order.ensures c.requires.its_goal
    c.requires.few_inputs
    c.requires.always_0 c.clause_count-last.ensures.value c.clause_count-last.ensures.few walked)
    c.all_cases.ensures
