-- The difference that a change makes, and what is asked where there is one.
use Rattle.std.proofs.Common.{◌≡◌, ◌≢◌, ℕ, ◌<◌, Bool, true, false, not, ◌&&◌, ◌||◌, List, length, get_or, map, refl, ap, ◌∙◌, arith}
use Rattle.std.proofs.lemmas.Bool.{lt-ltb}
use Rattle.std.proofs.lemmas.Grind.{get_or_default_zero}
use Rattle.std.proofs.lemmas.List.{length-map}
use Rattle.semantics.specs.Net.{NetValue, input_count, signal_count}
use Rattle.semantics.specs.Value.{value_of}
use Rattle.net_search.specs.declared.judging.Change.{Change}
use Rattle.net_search.specs.Judging.{signal_value}
use Rattle.net_search.proofs.Changes.{change-differs}
use Rattle.aig_core.specs.Graph.{GraphValue, literal_value, IsConsistent}
use Rattle.aig_core.specs.Grown.{Grows, IsConjunctionOf, IsDisjunctionOf, IsOppositeOf}
use Rattle.aig_core.specs.Signals.{AreSignalsOver}
use Rattle.aig_core.proofs.Growing.{consistent_before}
use Rattle.graph_questions.specs.Differences.{differ, IsExclusiveOf, IsDifferenceOf}
use Rattle.graph_questions.specs.Levels.{LevelQuestion, asked_error, IsChangeFor, IsOverLiteral, IsTrueWhereOver}

both_ways : (a b : Bool) → ((a && not b) || (not a && b)) ≡ differ a b
both_ways true true = refl
both_ways true false = refl
both_ways false true = refl
both_ways false false = refl

-- the two conjunctions, joined
pub exclusive_is : (g₁ g₂ g₃ : GraphValue) (a b na nb first second r : ℕ) → Grows g₁ g₂ → Grows g₂ g₃ → IsOppositeOf a na → IsOppositeOf b nb
    → IsConjunctionOf g₁ a nb first → IsConjunctionOf g₂ na b second → IsDisjunctionOf g₃ first second r → IsExclusiveOf g₃ a b r
exclusive_is g₁ g₂ g₃ a b na nb first second r up upper not_a not_b one two either = record {
  within = either.within;
  is = λ x v val.
      let val₂ : IsConsistent g₂ x v = consistent_before g₂ g₃ x v upper val in
      let val₁ : IsConsistent g₁ x v = consistent_before g₁ g₂ x v up val₂ in
      either.is x v val
      ∙ (λ i. (one.is x v val₁ ∙ ap (λ t. literal_value v a && t) (not_b.is v)) i || (two.is x v val₂ ∙ ap (λ t. t && literal_value v b) (not_a.is v)) i)
      ∙ both_ways (literal_value v a) (literal_value v b);
}

differ_true : (a b : Bool) → a ≢ b → differ a b ≡ true
differ_true true true apart = absurd (apart refl)
differ_true true false apart = refl
differ_true false true apart = refl
differ_true false false apart = absurd (apart refl)

and_true : (a b : Bool) → a ≡ true → b ≡ true → (a && b) ≡ true
and_true a b is too = cc

-- the literals of the signal in both nets, and where exactly one is true
pub difference_is : (b c d : GraphValue) (change : Change) (after : NetValue) (inputs before behind : List ℕ) (l p q e f : ℕ) → Grows b c → Grows c d
    → length inputs ≡ input_count change.before.now → length inputs ≡ input_count after → change.signal < signal_count change.before.now → change.signal < signal_count after
    → length before ≡ signal_count change.before.now → length behind ≡ signal_count after → AreSignalsOver b change.before.now.tables inputs before → AreSignalsOver c after.tables inputs behind
    → p ≡ get_or before change.signal e → q ≡ get_or behind change.signal f
    → IsExclusiveOf d p q l → IsDifferenceOf d change after inputs l
difference_is b c d change after inputs before behind l p q e f up upper count count_after low low_after all_before all_behind first second read_p read_q exclusive = record {
  within = exclusive.within;
  is = λ x v val.
      let val_c : IsConsistent c x v = consistent_before c d x v upper val in
      let val_b : IsConsistent b x v = consistent_before b c x v up val_c in
      let x_of = map (literal_value v) inputs in
      let is_p = read_p ∙ get_or_default_zero before change.signal e (omega (arith, low, all_before)) in
      let is_q = read_q ∙ get_or_default_zero behind change.signal f (omega (arith, low_after, all_behind)) in
      let one : literal_value v p ≡ signal_value change.before.now x_of change.signal =
      ap (literal_value v) is_p ∙ (first change.signal (omega (arith, low, count))).is x v val_b ∙ ap (λ n. value_of n change.before.now.tables x_of change.signal) count in
      let two : literal_value v q ≡ signal_value after x_of change.signal =
      ap (literal_value v) is_q ∙ (second change.signal (omega (arith, low_after, count_after))).is x v val_c ∙ ap (λ n. value_of n after.tables x_of change.signal) count_after in
      exclusive.is x v val ∙ (λ i. differ (one i) (two i));
}

-- without a change the literal of the error itself is asked about
pub over_itself : (g : GraphValue) (q : LevelQuestion) (inputs : List ℕ) (l : ℕ) → IsOverLiteral g q inputs l → IsTrueWhereOver g q inputs l
over_itself g q inputs l is = record { within = is.within; over = λ x v val over. is.is x v val ∙ lt-ltb q.k (asked_error q (map (literal_value v) inputs)) over }

-- where the error exceeds the level, the change makes a difference
pub over_changed : (b c d : GraphValue) (q : LevelQuestion) (change : Change) (inputs : List ℕ) (over differs l : ℕ) → Grows b c → Grows c d → length inputs ≡ input_count q.nets.exact
    → input_count q.nets.exact ≡ input_count q.nets.approx → IsChangeFor q change → IsTrueWhereOver b q inputs over → IsDifferenceOf c change q.nets.approx inputs differs
    → IsConjunctionOf d over differs l → IsTrueWhereOver d q inputs l
over_changed b c d q change inputs over differs l up upper count same_inputs made is different both = record {
  within = both.within;
  over = λ x v val exceeds.
      let val_c : IsConsistent c x v = consistent_before c d x v upper val in
      let val_b : IsConsistent b x v = consistent_before b c x v up val_c in
      let x_of = map (literal_value v) inputs in
      let width : length x_of ≡ input_count q.nets.exact = length-map inputs (literal_value v) ∙ count in
      let apart : signal_value change.before.now x_of change.signal ≢ signal_value q.nets.approx x_of change.signal =
      change-differs q.metric q.nets.exact change.before.now q.nets.approx q.k change.signal x_of made.keeps made.made same_inputs width exceeds in
      both.is x v val ∙ and_true _ _
      (is.over x v val_b exceeds)
      (different.is x v val_c ∙ differ_true _ _ apart);
}
