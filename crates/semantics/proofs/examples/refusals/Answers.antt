-- by computation, and paths by hand
use Rattle.std.proofs.Common.{refl, arith}
use Rattle.semantics.specs.Refusals.{first_ungrounded, net_refusal}
use Rattle.semantics.specs.Dependence.DependsOn.{itself, by_pin}
use Rattle.semantics.proofs.Refused.{ungrounded}
use Rattle.semantics.specs.Examples.{feedback}
use Rattle.semantics.proofs.examples.refusals.Goals as goal

pub returns : goal.returns
unfolding first_ungrounded net_refusal
returns c = record {
  doubled_first = refl;
  then_no_output = refl;
  then_undriven = refl;
  then_undriven_output = refl;
  first_of_two_undriven = refl;
  then_cycle = refl;
  then_limit = refl;
  then_none = refl;
  second_of_a_name = refl;
  empty_names = refl;
  first_of_feedback = refl;
  feedback_depends = ((0, omega arith, refl), by_pin {p = 3} (omega arith) (omega arith) (0, omega arith, refl) (itself refl));
  reader_depends = by_pin {p = 3} (omega arith) (omega arith) (0, omega arith, refl) (by_pin {p = 4} (omega arith) (omega arith) (0, omega arith, refl) (itself refl));
  feedback_is_cyclic = λ acyclic. (ungrounded 1 feedback 1 refl).ungrounded (acyclic 1 (omega arith));
  feeds_itself = refl;
  out_of_order_is_grounded = refl;
}
