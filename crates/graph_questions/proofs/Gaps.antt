-- What one word of literals counts more than another.
use Rattle.std.proofs.Common.{◌≡◌, ℕ, suc, inl, inr, ◌+◌, ◌*◌, ◌/◌, ◌^◌, ◌<◌, ◌≤◌, Bool, true, false, ◌||◌, List, [], ◌∷◌, length, get_or, take, map, refl, sym, ap, ◌∙◌, arith}
use Rattle.std.specs.Prelude.{All}
use Rattle.std.proofs.lemmas.Bool.{cases_lt}
use Rattle.std.proofs.lemmas.List.{length-take-le, take-map}
use Rattle.std.proofs.lemmas.List.Elements.{All-take, All-weaker}
use Rattle.semantics.specs.Net.{NetValue, input_count}
use Rattle.semantics.specs.Value.{Assignment}
use Rattle.aig_core.specs.Graph.{GraphValue, IsLiteralOf, literal_value, IsConsistent, value_of, truth_of, HasOneValue}
use Rattle.aig_core.specs.Grown.{Grows, IsDisjunctionOf, IsInputOf}
use Rattle.aig_core.specs.Signals.{AreOutputsOver}
use Rattle.aig_core.proofs.Growing.{consistent_before, literal_later, grows_trans, grows_refl}
use Rattle.aig_core.proofs.Rounds.{literal_same}
use Rattle.literal_sums.specs.declared.term.Term.{Term}
use Rattle.literal_sums.specs.Sums.{counted, sum_value, word_value, CountsMore, AgreeAsSums}
use Rattle.literal_sums.specs.Words.{IsWordOf}
use Rattle.literal_sums.proofs.Counting.{sum_nil, word_nil, word_cons}
use Rattle.graph_questions.specs.Gaps.{lowest_weight, IsNothing, IsNothingWhere, AreLowestOf, IsStep, IsGapOf}

-- ---- the lowest outputs

pub lowest_is : (g : GraphValue) (N : NetValue) (p : ℕ) (inputs all low : List ℕ) → p ≤ length N.outputs → AreOutputsOver g N inputs all → low ≡ take p all → AreLowestOf g N p inputs low
lowest_is g N p inputs all low few outputs is = record {
  count = ap length is ∙ length-take-le p all (omega (arith, few, outputs.count));
  within = rw is (All-take (IsLiteralOf g) p all outputs.within);
  is = λ x v val. ap (map (literal_value v)) is ∙ sym (take-map (literal_value v) p all) ∙ ap (take p) (outputs.is x v val);
}

-- ---- where no literal of a word is true

module _ (v : Assignment) where
  word_none : (word : List ℕ) (weight : ℕ) → ((j : ℕ) → j < length word → literal_value v (get_or word j 0) ≡ false) → word_value v weight word ≡ 0
  word_none [] weight none = word_nil v weight
  word_none (l ∷ ls) weight none =
      let first : counted (literal_value v l) weight ≡ 0 = ap (λ b. counted b weight) (none 0 (omega arith)) in
      let rest : word_value v (2 * weight) ls ≡ 0 = word_none ls (2 * weight) (λ j low. none (suc j) (omega (arith, low))) in
      omega (arith, first, rest, word_cons v weight l ls)

-- where l is false, each of the first i literals is
pub record IsNoneSoFar (start g : GraphValue) (word : List ℕ) (i l : ℕ) : Type 0 where
  pub grows : Grows start g
  pub within : IsLiteralOf g l
  pub is : (x : List Bool) (v : Assignment) → IsConsistent g x v → literal_value v l ≡ false → (j : ℕ) → j < i → literal_value v (get_or word j 0) ≡ false

pub none_start : (g : GraphValue) (word : List ℕ) (l : ℕ) → l ≡ 0 → IsNoneSoFar g g word 0 l
none_start g word l zero_is = record {
  grows = grows_refl g;
  within = omega (arith, zero_is);
  is = λ x v val no j low. absurd (omega (arith, low));
}

neither : (a b : Bool) → (a || b) ≡ false → (a ≡ false) × (b ≡ false)
neither true b is = absurd cc
neither false b is = (refl, is)

pub none_more : (start before g : GraphValue) (word : List ℕ) (i l r : ℕ) → IsNoneSoFar start before word i l → Grows before g → IsDisjunctionOf g l (get_or word i 0) r
    → IsNoneSoFar start g word (i + 1) r
none_more start before g word i l r so_far grows either = record {
  grows = grows_trans start before g so_far.grows grows;
  within = either.within;
  is = λ x v val no j low.
      let both = neither (literal_value v l) (literal_value v (get_or word i 0)) (sym (either.is x v val) ∙ no) in
      elim (cases_lt j i) [
        | inl less ↦ so_far.is x v (consistent_before before g x v grows val) both.0 j less
        | inr more ↦
            let here : j ≡ i = omega (arith, low, more) in
            ap (λ n. literal_value v (get_or word n 0)) here ∙ both.1
      ];
}

pub none_done : (start g : GraphValue) (word : List ℕ) (i l : ℕ) → length word ≤ i → IsNoneSoFar start g word i l → IsNothingWhere g word l
none_done start g word i l end so_far = record {
  within = so_far.within;
  is = λ x v weight val no. word_none v word weight (λ j low. so_far.is x v val no j (omega (arith, low, end)));
}

-- ---- a sum that counts nothing

pub nothing_now : (g : GraphValue) (old now : List Term) → AgreeAsSums g now old → ((v : Assignment) → sum_value v now ≡ 0) → IsNothing g old
nothing_now g old now same none = record { is = λ x v val. omega (arith, same.is x v val, none v) }

module _ (reduced worded g : GraphValue) (old now : List Term) (shift l : ℕ) (word : List ℕ) where
  pub nothing_refuted : Grows reduced worded → Grows worded g → AgreeAsSums reduced now old → IsWordOf worded now shift word → IsNothingWhere g word l
      → ((x : List Bool) → HasOneValue g x) → ((x : List Bool) → truth_of g x l ≡ false) → IsNothing g old
  nothing_refuted first second same spelled where_false law never = record {
    is = λ x v val.
        let val_worded : IsConsistent worded x v = consistent_before worded g x v second val in
        let val_reduced : IsConsistent reduced x v = consistent_before reduced worded x v first val_worded in
        let one : HasOneValue g x = law x in
        let value : literal_value v l ≡ truth_of g x l = literal_same v (value_of g x) l (one.only v val (l / 2) (omega (arith, where_false.within))) in
        let none : word_value v (2 ^ shift) word ≡ 0 = where_false.is x v (2 ^ shift) val (value ∙ never x) in
        omega (arith, same.is x v val_reduced, spelled.is x v val_worded, none);
  }

-- ---- steps

module _ (g : GraphValue) (p w : ℕ) (from to : List ℕ) (none first whole : List Term) where
  pub step_whole : w ≡ lowest_weight p → none ≡ [] → CountsMore (λ v. word_value v w from) none first → CountsMore (λ v. word_value v w to) whole first → IsStep g p from to whole
  step_whole weight empty more less = record {
    is = λ x v val.
        let nil : sum_value v none ≡ 0 = ap (sum_value v) empty ∙ sum_nil v in
        let from_is : word_value v w from ≡ word_value v (lowest_weight p) from = ap (λ n. word_value v n from) weight in
        let to_is : word_value v w to ≡ word_value v (lowest_weight p) to = ap (λ n. word_value v n to) weight in
        omega (arith, more.is v val.constant, less.is v val.constant, nil, from_is, to_is);
  }

module _ (g : GraphValue) (p : ℕ) (from to : List ℕ) (whole copied rest guess none found : List Term) where
  pub step_found : IsStep g p from to whole → copied ≡ whole → CountsMore (λ v. sum_value v guess) rest copied → IsNothing g rest
      → none ≡ [] → CountsMore (λ v. sum_value v guess) none found → IsStep g p from to found
  step_found step copy less nothing empty more = record {
    is = λ x v val.
        let nil : sum_value v none ≡ 0 = ap (sum_value v) empty ∙ sum_nil v in
        let same : sum_value v copied ≡ sum_value v whole = ap (sum_value v) copy in
        omega (arith, step.is x v val, same, less.is v val.constant, nothing.is x v val, nil, more.is v val.constant);
  }

-- ---- the first member

module _ (start g : GraphValue) (N : NetValue) (p : ℕ) (inputs exact member : List ℕ) (sum : List Term) where
  -- the exact net itself, which counts nothing more than it does
  pub gap_begun : start.inputs ≡ input_count N → Grows start g → length inputs ≡ start.inputs → All (IsLiteralOf start) inputs
      → ((i : ℕ) → i < start.inputs → IsInputOf start i (get_or inputs i 0)) → p ≤ 31 → p ≤ length N.outputs → AreLowestOf g N p inputs exact → member ≡ exact → sum ≡ []
      → IsGapOf N (record { graph = g; inputs = inputs; places = p; exact_low = exact; member_low = member; sum = sum })
  gap_begun first grows count within are few low lowest same empty = record {
    graph_inputs = grows.inputs ∙ first;
    count = count ∙ first;
    within = All-weaker (IsLiteralOf start) (IsLiteralOf g) (λ l inside. literal_later start g l grows inside) inputs within;
    inputs_are = λ i inside.
        let is : IsInputOf start i (get_or inputs i 0) = are i (omega (arith, inside, grows.inputs)) in
        record {
          within = literal_later start g (get_or inputs i 0) grows is.within;
          is = λ x v val. is.is x v (consistent_before start g x v grows val);
        };
    few = few;
    in_outputs = low;
    exact = lowest;
    step = record {
      is = λ x v val.
          let nil : sum_value v sum ≡ 0 = ap (sum_value v) empty ∙ sum_nil v in
          let words : word_value v (lowest_weight p) member ≡ word_value v (lowest_weight p) exact = ap (word_value v (lowest_weight p)) same in
          omega (arith, nil, words);
    };
  }
