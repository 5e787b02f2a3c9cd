-- The literal of the error, and what is decided by it.
use Rattle.std.proofs.Common.{◌≡◌, ℕ, ◌<◌, ◌≤◌, ltb, Bool, true, false, List, [], ◌∷◌, ◌++◌, length, get_or, map, refl, sym, ap, subst, ◌∙◌, arith}
use Rattle.std.specs.Prelude.{All}
use Rattle.std.proofs.lemmas.List.{length-append, length-map, get_or-map, map-append, ext_get_or}
use Rattle.std.proofs.lemmas.List.Elements.{All-append}
use Rattle.semantics.specs.Net.{NetValue, input_count}
use Rattle.semantics.specs.Value.{Assignment, outputs_of}
use Rattle.semantics.specs.declared.metric.Metric.{Metric}
use Rattle.semantics.specs.Error.{net_error, IsWithin, IsCandidate}
use Rattle.aig_core.specs.Graph.{GraphValue, IsLiteralOf, literal_value, IsConsistent, value_of, truth_of, HasOneValue}
use Rattle.aig_core.specs.Grown.{Grows, IsInputOf}
use Rattle.aig_core.specs.Signals.{AreOutputsOver}
use Rattle.aig_core.proofs.Growing.{consistent_before}
use Rattle.bdd_levels.specs.Levels.{TellsLevel}
use Rattle.bdd_levels.proofs.Drawing.{same_outputs, error_told}
use Rattle.graph_questions.specs.Levels.{LevelQuestion, asked_error, IsOverLiteral, IsTrueWhereOver, IsGoalOf}

-- both nets' outputs
pub both_within : (g : GraphValue) (first second both : List ℕ) → both ≡ first ++ second → All (IsLiteralOf g) first → All (IsLiteralOf g) second → All (IsLiteralOf g) both
both_within g first second both is a b = rw is (All-append (IsLiteralOf g) first second a b)

pub both_count : (N M Q : NetValue) (metric : Metric) (w k : ℕ) (g after : GraphValue) (inputs first second both : List ℕ) → IsCandidate N M → w ≡ length N.outputs → TellsLevel metric w k Q
    → AreOutputsOver g N inputs first → AreOutputsOver after M inputs second → both ≡ first ++ second → length both ≡ input_count Q
both_count N M Q metric w k g after inputs first second both candidate width level exact approximate is =
    omega (arith, ap length is, length-append first second, exact.count, approximate.count, same_outputs N M candidate, width, level.inputs)

module _ (a b c : GraphValue) (metric : Metric) (N M Q : NetValue) (w k : ℕ) (inputs first second both over : List ℕ) (l d : ℕ) where
  pub over_is : Grows a b → Grows b c → IsCandidate N M → w ≡ length N.outputs → TellsLevel metric w k Q → AreOutputsOver a N inputs first → AreOutputsOver b M inputs second → both ≡ first ++ second
      → AreOutputsOver c Q both over → l ≡ get_or over 0 d → IsOverLiteral c (record { metric = metric; nets = record { exact = N; approx = M }; k = k }) inputs l
  over_is ab bc candidate width level exact approximate is asked read =
      let some : 0 < length over = omega (arith, asked.count, level.one) in
      record {
        within = rw read (asked.within 0 d some);
        is = λ x v val.
            let at_b : IsConsistent b x v = consistent_before b c x v bc val in
            let at_a : IsConsistent a x v = consistent_before a b x v ab at_b in
            let words : map (literal_value v) both ≡ outputs_of N (map (literal_value v) inputs) ++ outputs_of M (map (literal_value v) inputs) =
            ap (map (literal_value v)) is ∙ map-append (literal_value v) first second ∙ (rw (exact.is x v at_a, approximate.is x v at_b) refl) in
            let told : map (literal_value v) over ≡ ltb k (net_error metric N M (map (literal_value v) inputs)) ∷ [] =
            asked.is x v val ∙ ap (outputs_of Q) words ∙ error_told metric N M Q w k (map (literal_value v) inputs) candidate width level in
            ap (literal_value v) read ∙ sym (get_or-map (literal_value v) over 0 d false some) ∙ ap (λ (bits : List Bool). get_or bits 0 false) told;
      }

-- the literals of the inputs have the bits of the input vector
input_bits : (start g : GraphValue) (x : List Bool) (v : Assignment) (inputs : List ℕ) → Grows start g → IsConsistent g x v → length inputs ≡ start.inputs → length x ≡ start.inputs
    → ((i : ℕ) → i < start.inputs → IsInputOf start i (get_or inputs i 0)) → map (literal_value v) inputs ≡ x
input_bits start g x v inputs grows val count width are =
    ext_get_or false (map (literal_value v) inputs) x (length-map inputs (literal_value v) ∙ count ∙ sym width)
    (λ i low.
    let inside : i < length inputs = omega (arith, low, length-map inputs (literal_value v)) in
    get_or-map (literal_value v) inputs i 0 false inside ∙ (are i (omega (arith, inside, count))).is x v (consistent_before start g x v grows val))

-- over the graph's own inputs
pub over_graph : (q : LevelQuestion) (start g : GraphValue) (inputs : List ℕ) (l : ℕ) → start.inputs ≡ input_count q.nets.exact → Grows start g → length inputs ≡ start.inputs
    → ((i : ℕ) → i < start.inputs → IsInputOf start i (get_or inputs i 0)) → IsTrueWhereOver g q inputs l → ((x : List Bool) → HasOneValue g x) → IsGoalOf g q l
over_graph q start g inputs l first grows count are asked law = record {
  inputs = grows.inputs ∙ first;
  within = asked.within;
  over = λ x width exceeds.
      let v : Assignment = value_of g x in
      let val : IsConsistent g x v = (law x).consistent in
      let bits : map (literal_value v) inputs ≡ x = input_bits start g x v inputs grows val count (width ∙ sym first) are in
      asked.over x v val (subst (λ (y : List Bool). q.k < asked_error q y) (sym bits) exceeds);
}

-- where the literal is false, the error stays within the level
within_at : (k e : ℕ) (b : Bool) → (k < e → b ≡ true) → b ≡ false → e ≤ k
within_at k e b over is = not_over (λ low. absurd_bool (sym (over low) ∙ is)) where
  absurd_bool : true ≡ false → ⊥
  absurd_bool both = cc

  not_over : (k < e → ⊥) → e ≤ k
  not_over never = omega (arith, never)

-- a literal that is never true
pub never_over : (q : LevelQuestion) (g : GraphValue) (l : ℕ) → IsGoalOf g q l → ((x : List Bool) → truth_of g x l ≡ false) → IsWithin q.metric q.nets.exact q.k q.nets.approx
never_over q g l goal never x width = within_at q.k (asked_error q x) (truth_of g x l) (goal.over x width) (never x)

-- the constant false
pub constant_over : (q : LevelQuestion) (g : GraphValue) (l : ℕ) → IsGoalOf g q l → l ≡ 0 → ((x : List Bool) → HasOneValue g x) → IsWithin q.metric q.nets.exact q.k q.nets.approx
constant_over q g l goal is law = never_over q g l goal (λ x. ap (truth_of g x) is ∙ (law x).consistent.constant)
