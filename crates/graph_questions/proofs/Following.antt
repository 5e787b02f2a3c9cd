-- The gap along a chain: the graph grows, and the sum goes on to the next net.
use Rattle.std.proofs.Common.{◌≡◌, ℕ, ◌+◌, ◌-◌, ◌*◌, ◌^◌, ◌<◌, ◌≤◌, inl, inr, Bool, false, List, length, take, map, sym, ap, subst, ◌∙◌, arith}
use Rattle.std.specs.Prelude.{All}
use Rattle.std.proofs.Math.Nat.{mul-add}
use Rattle.std.proofs.lemmas.Bool.{cases_lt}
use Rattle.std.proofs.lemmas.List.{length-map, length-take-le}
use Rattle.std.proofs.lemmas.List.Elements.{All-weaker}
use Rattle.semantics.specs.Net.{NetValue, input_count}
use Rattle.semantics.specs.Value.{outputs_of}
use Rattle.semantics.specs.Error.{number_of, distance, IsCandidate, IsWithin}
use Rattle.semantics.proofs.Vectors.{number_of-lt_width}
use Rattle.net_errors.specs.Compared.{NetPair}
use Rattle.net_search.specs.declared.judging.Change.{Change}
use Rattle.aig_core.specs.Graph.{GraphValue, IsLiteralOf, literal_value, truth_of, HasOneValue}
use Rattle.aig_core.specs.Grown.{Grows, IsConjunctionOf}
use Rattle.aig_core.proofs.Growing.{consistent_before, literal_later, grows_refl}
use Rattle.bdd_levels.proofs.Drawing.{length-outputs_of, same_outputs}
use Rattle.literal_sums.specs.declared.term.Term.{Term}
use Rattle.literal_sums.specs.Sums.{Agree, sum_value, word_value, CountsMore}
use Rattle.graph_questions.specs.Differences.{IsDifferenceOf}
use Rattle.graph_questions.specs.Levels.{LevelQuestion, IsChangeFor, IsTrueWhereOver, IsGoalOf}
use Rattle.graph_questions.specs.LowPlaces.{AreApart, AreEnough}
use Rattle.graph_questions.specs.Gaps.{GapValue, lowest_weight, AreLowestOf, IsStep, IsBeyond, IsGapOf, IsNextOf, IsBetween, IsGapGoal}
use Rattle.graph_questions.proofs.Beyond.{word_is, whole}
use Rattle.graph_questions.proofs.Differences.{over_changed}
use Rattle.graph_questions.proofs.ErrorLiterals.{over_graph, never_over}

-- ---- steps

joined_agree : (s t u e m l : ℕ) → Agree (s + m) e → Agree (t + l) m → Agree u (t + s) → Agree (u + l) e
joined_agree s t u e m l one two three = omega (arith, one, two, three)

-- a step, and another one behind it
pub step_joined : (a b : GraphValue) (p : ℕ) (exact member low : List ℕ) (first second sum : List Term) → Grows a b → IsStep a p exact member first → IsStep b p member low second
    → CountsMore (λ v. sum_value v second) first sum → IsStep b p exact low sum
step_joined a b p exact member low first second sum up one two more = record {
  is = λ x v val.
      let w : ℕ = lowest_weight p in
      joined_agree (sum_value v first) (sum_value v second) (sum_value v sum) (word_value v w exact) (word_value v w member) (word_value v w low)
      (one.is x v (consistent_before a b x v up val)) (two.is x v val) (more.is v val.constant);
}

pub step_later : (a b : GraphValue) (p : ℕ) (from to : List ℕ) (terms : List Term) → Grows a b → IsStep a p from to terms → IsStep b p from to terms
step_later a b p from to terms up is = record { is = λ x v val. is.is x v (consistent_before a b x v up val) }

pub literals_later : (a b : GraphValue) (ls : List ℕ) → Grows a b → All (IsLiteralOf a) ls → All (IsLiteralOf b) ls
literals_later a b ls up within = All-weaker (IsLiteralOf a) (IsLiteralOf b) (λ l low. literal_later a b l up low) ls within

pub lowest_later : (a b : GraphValue) (N : NetValue) (p : ℕ) (inputs ls : List ℕ) → Grows a b → AreLowestOf a N p inputs ls → AreLowestOf b N p inputs ls
lowest_later a b N p inputs ls up is = record { count = is.count; within = literals_later a b ls up is.within; is = λ x v val. is.is x v (consistent_before a b x v up val) }

-- the graph grows, and another net is the member
pub gap_with : (N : NetValue) (gap : GapValue) (g : GraphValue) (member : List ℕ) (sum : List Term) → Grows gap.graph g → IsStep g gap.places gap.exact_low member sum → IsGapOf N gap
    → IsGapOf N (record { graph = g; inputs = gap.inputs; places = gap.places; exact_low = gap.exact_low; member_low = member; sum = sum })
gap_with N gap g member sum up step is = record {
  graph_inputs = up.inputs ∙ is.graph_inputs;
  count = is.count;
  within = literals_later gap.graph g gap.inputs up is.within;
  inputs_are = λ i low.
      let asked = is.inputs_are i (omega (arith, low, up.inputs)) in
      record { within = literal_later gap.graph g _ up asked.within; is = λ x v val. asked.is x v (consistent_before gap.graph g x v up val) };
  few = is.few;
  in_outputs = is.in_outputs;
  exact = lowest_later gap.graph g N gap.places gap.inputs gap.exact_low up is.exact;
  step = step;
}

-- the graph grows
pub gap_grown : (N : NetValue) (gap : GapValue) (g : GraphValue) → Grows gap.graph g → IsGapOf N gap
    → IsGapOf N (record { graph = g; inputs = gap.inputs; places = gap.places; exact_low = gap.exact_low; member_low = gap.member_low; sum = gap.sum })
gap_grown N gap g up is = gap_with N gap g gap.member_low gap.sum up (step_later gap.graph g gap.places gap.exact_low gap.member_low gap.sum up is.step) is

-- the gap goes on to the net that the step leads to
pub gap_joined : (N : NetValue) (gap : GapValue) (g : GraphValue) (low : List ℕ) (step sum : List Term) → Grows gap.graph g → IsStep g gap.places gap.member_low low step
    → CountsMore (λ v. sum_value v step) gap.sum sum → IsGapOf N gap
    → IsGapOf N (record { graph = g; inputs = gap.inputs; places = gap.places; exact_low = gap.exact_low; member_low = low; sum = sum })
gap_joined N gap g low step sum up two more is = gap_with N gap g low sum up (step_joined gap.graph g gap.places gap.exact_low gap.member_low low gap.sum step sum up is.step two more) is

-- ---- how far the numbers are apart

-- Two numbers below P that are apart, and a sum that counts what the one is more than the other: so it is a
-- multiple of the weight that is apart from the multiples of P.
apart_by : (w P s e a k : ℕ) (T : Type 0) → w * P ≡ 4294967296 → e < P → a < P → Agree (s + w * a) (w * e) → k < distance e a → distance e a + k < P
    → ((z : ℕ) → z < P → Agree s (w * z) → k < z → z + k < P → T) → T
apart_by w P s e a k T all e_low a_low step over near found = elim (cases_lt e a) [ inl less ↦ below less | inr least ↦ above least ] where
  above : a ≤ e → T
  above least =
      let z : ℕ = e - a in
      let back : z + a ≡ e = omega (arith, least) in
      let product : w * z + w * a ≡ w * e = sym (mul-add w z a) ∙ ap (λ n. w * n) back in
      found z (omega (arith, e_low)) (omega (arith, product, step)) (omega (arith, over, least)) (omega (arith, near, least))

  below : e < a → T
  below less =
      let z : ℕ = e + P - a in
      let back : z + a ≡ e + P = omega (arith, a_low) in
      let product : w * z + w * a ≡ w * e + w * P = sym (mul-add w z a) ∙ ap (λ n. w * n) back ∙ mul-add w e P in
      found z (omega (arith, less, a_low)) (omega (arith, product, step, all)) (omega (arith, over, less, near, a_low)) (omega (arith, near, less, over, a_low))

-- what the words of both nets count
pub between : (g : GraphValue) (nets : NetPair) (p : ℕ) (inputs exact low : List ℕ) (sum : List Term) → AreLowestOf g nets.exact p inputs exact → AreLowestOf g nets.approx p inputs low
    → IsStep g p exact low sum → IsBetween g nets p inputs sum
between g nets p inputs exact low sum first second step = record {
  is = λ x v val.
      let w : ℕ = lowest_weight p in
      let one = word_is v exact w ∙ ap (λ (bits : List Bool). w * number_of bits) (first.is x v val) in
      let two = word_is v low w ∙ ap (λ (bits : List Bool). w * number_of bits) (second.is x v val) in
      subst (λ n. Agree (sum_value v sum + n) (w * number_of (take p (outputs_of nets.exact (map (literal_value v) inputs))))) two
      (subst (λ n. Agree (sum_value v sum + word_value v w low) n) one (step.is x v val));
}

-- ---- the literal that is asked about

low_number : (N : NetValue) (x : List Bool) (p : ℕ) → p ≤ length N.outputs → number_of (take p (outputs_of N x)) < 2 ^ p
low_number N x p few = number_of-lt_width p (take p (outputs_of N x)) (length-take-le p (outputs_of N x) (omega (arith, few, length-outputs_of N x)))

module _ (a b : GraphValue) (q : LevelQuestion) (p : ℕ) (inputs : List ℕ) (terms : List Term) (beyond : ℕ) where
  beyond_over : Grows a b → p ≤ 31 → length inputs ≡ input_count q.nets.exact → IsCandidate q.nets.exact q.nets.approx → IsBetween a q.nets p inputs terms → IsBeyond b p q.k terms beyond
      → AreEnough q p → IsTrueWhereOver b q inputs beyond
  beyond_over ab few count candidate apart is enough = record {
    within = is.within;
    over = λ x v val exceeds.
        let at_x : List Bool = map (literal_value v) inputs in
        let far : AreApart p q.k (outputs_of q.nets.exact at_x) (outputs_of q.nets.approx at_x) = enough.apart at_x (length-map inputs (literal_value v) ∙ count) exceeds in
        apart_by (lowest_weight p) (2 ^ p) (sum_value v terms) (number_of (take p (outputs_of q.nets.exact at_x))) (number_of (take p (outputs_of q.nets.approx at_x))) q.k _ (whole p few)
        (low_number q.nets.exact at_x p enough.few) (low_number q.nets.approx at_x p (omega (arith, enough.few, same_outputs q.nets.exact q.nets.approx candidate)))
        (apart.is x v (consistent_before a b x v ab val)) far.beyond far.around (λ z low agree over near. is.beyond x v z val low agree over near);
  }

pub goal_is : (a b c d : GraphValue) (q : LevelQuestion) (change : Change) (p : ℕ) (inputs : List ℕ) (terms : List Term) (beyond differs l : ℕ) → Grows a b → Grows b c → Grows c d → p ≤ 31
    → length inputs ≡ input_count q.nets.exact → IsCandidate q.nets.exact q.nets.approx → IsChangeFor q change → IsBetween a q.nets p inputs terms → IsBeyond b p q.k terms beyond
    → IsDifferenceOf c change q.nets.approx inputs differs → IsConjunctionOf d beyond differs l → IsGapGoal d q p inputs l
goal_is a b c d q change p inputs terms beyond differs l ab bc cd few count candidate made apart is different both = record {
  within = both.within;
  over = λ enough.
      over_changed b c d q change inputs beyond differs l bc cd count (ap length candidate.ports.inputs) made (beyond_over a b q p inputs terms beyond ab few count candidate apart is enough) different both;
}

-- where the literal is never true and the lowest outputs are enough, the error does not exceed the level
pub never_beyond : (q : LevelQuestion) (gap : GapValue) (goal : ℕ) → IsGapOf q.nets.exact gap → IsGapGoal gap.graph q gap.places gap.inputs goal → ((x : List Bool) → HasOneValue gap.graph x)
    → ((x : List Bool) → truth_of gap.graph x goal ≡ false) → AreEnough q gap.places → IsWithin q.metric q.nets.exact q.k q.nets.approx
never_beyond q gap goal is asked law never enough =
    let goal_of : IsGoalOf gap.graph q goal =
    over_graph q gap.graph gap.graph gap.inputs goal is.graph_inputs (grows_refl gap.graph) (is.count ∙ sym is.graph_inputs) is.inputs_are (asked.over enough) law in
    never_over q gap.graph goal goal_of never

pub next_grown : (N : NetValue) (gap : GapValue) (g : GraphValue) (low : List ℕ) (sum : List Term) → Grows gap.graph g → IsNextOf gap N low sum
    → IsNextOf (record { graph = g; inputs = gap.inputs; places = gap.places; exact_low = gap.exact_low; member_low = gap.member_low; sum = gap.sum }) N low sum
next_grown N gap g low sum up is = record { low = lowest_later gap.graph g N gap.places gap.inputs low up is.low; step = step_later gap.graph g gap.places gap.exact_low low sum up is.step }
