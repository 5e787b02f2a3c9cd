-- Literals, and conjunctions that need no node.
use Rattle.std.proofs.Common.{◌≡◌, ◌≢◌, ℕ, ◌+◌, ◌-◌, ◌*◌, ◌/◌, ◌%◌, ◌≤◌, Bool, true, false, cond, not, ◌&&◌, ◌||◌, refl, sym, ap, ◌∙◌, arith}
use Rattle.std.proofs.lemmas.Bool.{eq-eqb, ne_eqb}
use Rattle.semantics.specs.Value.{Assignment}
use Rattle.aig_core.specs.Graph.{GraphValue, IsLiteralOf, literal_value}
use Rattle.aig_core.specs.Grown.{IsConjunctionOf, IsDisjunctionOf, IsOppositeOf}

-- a literal of each sign
pub value-even : (v : Assignment) (l n : ℕ) → l ≡ 2 * n → literal_value v l ≡ v n
value-even v l n is =
    let node : l / 2 ≡ n = omega (arith, is) in
    let sign : l % 2 ≢ 1 = (λ e. omega (arith, is, e)) in
    ap (λ b. cond b (not (v (l / 2))) (v (l / 2))) (ne_eqb (l % 2) 1 sign) ∙ ap v node

pub value-odd : (v : Assignment) (l n : ℕ) → l ≡ 2 * n + 1 → literal_value v l ≡ not (v n)
value-odd v l n is =
    let node : l / 2 ≡ n = omega (arith, is) in
    let sign : l % 2 ≡ 1 = omega (arith, is) in
    ap (λ b. cond b (not (v (l / 2))) (v (l / 2))) (eq-eqb (l % 2) 1 sign) ∙ ap (λ n. not (v n)) node

not_not : (b : Bool) → b ≡ not (not b)
not_not true = refl
not_not false = refl

pub opposite_down : (l : ℕ) → l % 2 ≡ 1 → IsOppositeOf l (l - 1)
opposite_down l odd = record {
  within = λ g low. omega (arith, odd, low);
  is = λ v.
      let down : l - 1 ≡ 2 * (l / 2) = omega (arith, odd) in
      let up : l ≡ 2 * (l / 2) + 1 = omega (arith, odd) in
      value-even v (l - 1) (l / 2) down ∙ not_not (v (l / 2)) ∙ ap not (sym (value-odd v l (l / 2) up));
}

pub opposite_up : (l : ℕ) → l % 2 ≢ 1 → IsOppositeOf l (l + 1)
opposite_up l even = record {
  within = λ g low. omega (arith, even, low);
  is = λ v.
      let here : l ≡ 2 * (l / 2) = omega (arith, even) in
      let up : l + 1 ≡ 2 * (l / 2) + 1 = omega (arith, even) in
      value-odd v (l + 1) (l / 2) up ∙ ap not (sym (value-even v l (l / 2) here));
}

-- ---- what needs no node

and_itself : (b : Bool) → b ≡ (b && b)
and_itself true = refl
and_itself false = refl

and_opposite : (b : Bool) → false ≡ (b && not b)
and_opposite true = refl
and_opposite false = refl

pub false_and : (g : GraphValue) (low high : ℕ) → low ≡ 0 → IsLiteralOf g high → IsConjunctionOf g low high 0
false_and g low high is within = record {
  within = omega arith;
  is = λ x v val. let zero_is : v 0 ≡ false = val.constant in rw (is, zero_is) refl;
}

pub true_and : (g : GraphValue) (low high : ℕ) → low ≡ 1 → IsLiteralOf g high → IsConjunctionOf g low high high
true_and g low high is within = record {
  within = within;
  is = λ x v val. let zero_is : v 0 ≡ false = val.constant in rw (is, zero_is) refl;
}

pub same_and : (g : GraphValue) (low high : ℕ) → low ≡ high → IsLiteralOf g high → IsConjunctionOf g low high low
same_and g low high is within = record {
  within = omega (arith, is, within);
  is = λ x v val. and_itself (literal_value v low) ∙ ap (λ l. literal_value v low && literal_value v l) is;
}

pub opposite_and : (g : GraphValue) (low high : ℕ) → low ≤ high → low ≢ high → low / 2 ≡ high / 2 → IsLiteralOf g high → IsConjunctionOf g low high 0
opposite_and g low high sorted differ node within = record {
  within = omega arith;
  is = λ x v val.
      let down : low ≡ 2 * (low / 2) = omega (arith, sorted, differ, node) in
      let up : high ≡ 2 * (low / 2) + 1 = omega (arith, sorted, differ, node) in
      value-even v 0 0 refl ∙ val.constant ∙ and_opposite (v (low / 2))
      ∙ (λ i. sym (value-even v low (low / 2) down) i && sym (value-odd v high (low / 2) up) i);
}

-- the conjunction in the other order, and the disjunction
and_turned : (a b : Bool) → (a && b) ≡ (b && a)
and_turned true true = refl
and_turned true false = refl
and_turned false true = refl
and_turned false false = refl

pub conjunction_turned : (g : GraphValue) (a b r : ℕ) → IsConjunctionOf g a b r → IsConjunctionOf g b a r
conjunction_turned g a b r is = record { within = is.within; is = λ x v val. is.is x v val ∙ and_turned (literal_value v a) (literal_value v b) }

de_morgan : (a b : Bool) → not (not a && not b) ≡ (a || b)
de_morgan true b = refl
de_morgan false true = refl
de_morgan false false = refl

pub disjunction : (g : GraphValue) (a b na nb none r : ℕ) → IsOppositeOf a na → IsOppositeOf b nb → IsConjunctionOf g na nb none → IsOppositeOf none r → IsDisjunctionOf g a b r
disjunction g a b na nb none r oa ob both or = record {
  within = or.within g both.within;
  is = λ x v val.
      or.is v ∙ ap not (both.is x v val ∙ (λ i. oa.is v i && ob.is v i)) ∙ de_morgan (literal_value v a) (literal_value v b);
}
