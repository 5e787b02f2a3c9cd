-- The miter of two nets can be satisfied exactly where some input's error exceeds the level.
use Rattle.std.proofs.Common.{◌≡◌, ℕ, ◌+◌, ◌<◌, Bool, false, ltb, List, length, get_or, ap, sym, subst, ◌∙◌, inl, inr, arith}
use Rattle.std.proofs.lemmas.Bool.{cases_lt, lt-ltb, ltb-true}
use Rattle.semantics.specs.Net.{NetValue, input_count, signal_count}
use Rattle.semantics.specs.Value.{Assignment, value_of}
use Rattle.semantics.specs.declared.metric.Metric.{Metric}
use Rattle.semantics.specs.Error.{net_error, IsWithin}
use Rattle.quality_semantics.specs.Quality.{quality}
use Rattle.quality_semantics.specs.Joint.{approximate_signal, quality_signal, joint_net, AreComparable}
use Rattle.quality_semantics.proofs.Joint.{joint_inputs, joint_outputs, joint_acyclic, joint_exact, joint_approximate, joint_output as output_tells, outputs_are, quality_below, approximate_below}
use Rattle.quality_semantics.proofs.Joint.{length-both_copies, whole_length}
use Rattle.quality_semantics.proofs.Words.{quality_output}
use Rattle.proof_semantics.specs.Clauses.{Satisfies, IsUnsatisfiable}
use Rattle.proof_semantics.specs.NetClauses.{goal_clauses}
use Rattle.proof_semantics.specs.Variables.{place_value, by_place}
use Rattle.proof_semantics.specs.Miter.{miter, joint_output}
use Rattle.proof_semantics.specs.Laws.{MiterLaw}
use Rattle.proof_semantics.proofs.NetValues.{net_clause_law, goal_law}
use Rattle.proof_semantics.proofs.Refutations.{refutes_sound}

output_is : (N M : NetValue) (metric : Metric) (k : ℕ) → joint_output N M metric k ≡ quality_signal N M (quality metric (length N.outputs) k).signal
output_is N M metric k = ap (λ signals. get_or signals 0 0) (joint_outputs N M metric k)

output_within : (N M : NetValue) (metric : Metric) (k : ℕ) → AreComparable N M → joint_output N M metric k < input_count N + length (joint_net N M metric k).tables
output_within N M metric k h =
    omega (arith, output_is N M metric k, joint_inputs N M metric k, quality_below N M metric k h (quality metric (length N.outputs) k).signal (quality_output metric (length N.outputs) k))

output_value : (N M : NetValue) (metric : Metric) (k : ℕ) → AreComparable N M → (x : List Bool)
    → value_of (input_count N) (joint_net N M metric k).tables x (joint_output N M metric k) ≡ ltb k (net_error metric N M x)
output_value N M metric k h x =
    ap (value_of (input_count N) (joint_net N M metric k).tables x) (output_is N M metric k)
    ∙ ap (λ bits. get_or bits 0 false) (sym (outputs_are N M metric k x) ∙ output_tells N M metric k h x)

clauses_are : (N M : NetValue) (metric : Metric) (k : ℕ) → (miter N M metric k).clauses ≡ goal_clauses (input_count N) (joint_net N M metric k).tables (joint_output N M metric k)
clauses_are N M metric k = ap (λ n. goal_clauses n (joint_net N M metric k).tables (joint_output N M metric k)) (joint_inputs N M metric k)

exact_within : (N M : NetValue) (metric : Metric) (k : ℕ) → AreComparable N M → (s : ℕ) → s < signal_count N → s < input_count N + length (joint_net N M metric k).tables
exact_within N M metric k h s within =
    omega (arith, joint_inputs N M metric k, whole_length N M metric k, length-both_copies N M, within)

approximate_within : (N M : NetValue) (metric : Metric) (k : ℕ) → AreComparable N M → (s : ℕ) → s < signal_count M
    → approximate_signal N s < input_count N + length (joint_net N M metric k).tables
approximate_within N M metric k h s within =
    omega (arith, joint_inputs N M metric k, whole_length N M metric k, approximate_below N M h.inputs s within)

-- an assignment that satisfies the miter shows an input whose error exceeds the level, and back
exceeding : (N M : NetValue) (metric : Metric) (k : ℕ) → AreComparable N M → (a : Assignment) → Satisfies a (miter N M metric k).clauses
    → (x : List Bool) × (length x ≡ input_count N) × (k < net_error metric N M x)
exceeding N M metric k h a all =
    let J : NetValue = joint_net N M metric k in
    let o : ℕ = joint_output N M metric k in
    let m = (goal_law (input_count N) J.tables o (joint_acyclic N M metric k h) (output_within N M metric k h)).0 (a, subst (Satisfies a) (clauses_are N M metric k) all) in
    (m.0, m.1, ltb-true k (net_error metric N M m.0) (sym (output_value N M metric k h m.0) ∙ m.2))

satisfying : (N M : NetValue) (metric : Metric) (k : ℕ) → AreComparable N M → (x : List Bool) → length x ≡ input_count N → k < net_error metric N M x
    → (a : Assignment) × Satisfies a (miter N M metric k).clauses
satisfying N M metric k h x width over =
    let J : NetValue = joint_net N M metric k in
    let o : ℕ = joint_output N M metric k in
    let m = (goal_law (input_count N) J.tables o (joint_acyclic N M metric k h) (output_within N M metric k h)).1
    (x, width, output_value N M metric k h x ∙ lt-ltb k (net_error metric N M x) over) in
    (m.0, subst (Satisfies m.0) (sym (clauses_are N M metric k)) m.1)

within_level : (N M : NetValue) (metric : Metric) (k : ℕ) → AreComparable N M → IsUnsatisfiable (miter N M metric k).clauses → IsWithin metric N k M
within_level N M metric k h none x width =
    elim (cases_lt k (net_error metric N M x)) [
      | inl over ↦ let m = satisfying N M metric k h x width over in absurd (none m.0 m.1)
      | inr under ↦ under
    ]

none_over : (N M : NetValue) (metric : Metric) (k : ℕ) → AreComparable N M → IsWithin metric N k M → IsUnsatisfiable (miter N M metric k).clauses
none_over N M metric k h within a all =
    let m = exceeding N M metric k h a all in
    let under = within m.0 m.1 in
    omega (arith, m.2, under)

pub miter_law : MiterLaw
miter_law = record {
  some = λ N M metric k h x.
      let J : NetValue = joint_net N M metric k in
      (by_place (place_value (input_count N) J.tables x), net_clause_law.some (input_count N) J.tables x (joint_acyclic N M metric k h));
  exact = λ N M metric k h x a m s within.
      let J : NetValue = joint_net N M metric k in
      let acyclic = joint_acyclic N M metric k h in
      net_clause_law.signals (input_count N) J.tables x acyclic a m s (exact_within N M metric k h s within) ∙ joint_exact N M metric k h x s within;
  approximate = λ N M metric k h x a m s within.
      let J : NetValue = joint_net N M metric k in
      let acyclic = joint_acyclic N M metric k h in
      net_clause_law.signals (input_count N) J.tables x acyclic a m (approximate_signal N s) (approximate_within N M metric k h s within)
      ∙ joint_approximate N M metric k h x s within;
  output = λ N M metric k h x a m.
      let J : NetValue = joint_net N M metric k in
      net_clause_law.signals (input_count N) J.tables x (joint_acyclic N M metric k h) a m (joint_output N M metric k) (output_within N M metric k h)
      ∙ output_value N M metric k h x;
  satisfiable = λ N M metric k h. (λ m. exceeding N M metric k h m.0 m.1, λ m. satisfying N M metric k h m.0 m.1 m.2);
  unsatisfiable = λ N M metric k h. (within_level N M metric k h, none_over N M metric k h);
  refuted = λ N M metric k h log r. within_level N M metric k h (refutes_sound (miter N M metric k).clauses log r);
}
