-- What is known of a gate, and adders by their eight values.
use Rattle.std.proofs.Common.{◌≡◌, ℕ, ◌+◌, ◌-◌, ◌*◌, ◌/◌, ◌%◌, ◌==◌, ◌<◌, ◌≤◌, Bool, true, false, cond, not, ◌&&◌, List, refl, sym, ap, subst, ◌∙◌, arith}
use Rattle.std.specs.Prelude.{nat_lt, nat_le, Option, Some, None}
use Rattle.std.proofs.lemmas.Bool.{lt-ltb}
use Rattle.semantics.specs.Value.{Assignment}
use Rattle.aig_core.specs.declared.gate.Node.{Node}
use Rattle.aig_core.specs.declared.gate.Node.TheVariants.{False, Input, And}
use Rattle.aig_core.specs.Graph.{GraphValue, gate_at, gate_node, node_at, node_count, literal_value, IsConsistent}
use Rattle.literal_sums.specs.declared.adder.Adder.{Adder}
use Rattle.literal_sums.specs.declared.adder.Inputs.{Inputs}
use Rattle.literal_sums.specs.Adders.{bit, inputs, IsAdder, IsAdderAt, IsBoth, IsTurned, IsKnownAt, Knows}

-- the gate of a node has its value
pub node_conjunction : (g : GraphValue) (x : List Bool) (v : Assignment) (n left right : ℕ) → n < node_count g → node_at g n ≡ And left right → IsConsistent g x v
    → v n ≡ (literal_value v left && literal_value v right)
node_conjunction g x v n left right low is val = at_zero (n == 0) refl (nat_lt n (gate_node g 0)) refl is
  where
    gate : ℕ → Node
    gate m = And (gate_at g m).left (gate_at g m).right

    at_gate : gate_node g 0 ≤ n → gate (n - gate_node g 0) ≡ And left right → v n ≡ (literal_value v left && literal_value v right)
    at_gate high here =
        let same : n ≡ gate_node g (n - gate_node g 0) = omega (arith, high) in
        let l : (gate_at g (n - gate_node g 0)).left ≡ left = cc in
        let r : (gate_at g (n - gate_node g 0)).right ≡ right = cc in
        ap v same ∙ val.gate (n - gate_node g 0) (omega (arith, low, high)) ∙ (λ i. literal_value v (l i) && literal_value v (r i))

    high_of : nat_lt n (gate_node g 0) ≡ false → gate_node g 0 ≤ n
    high_of e = grind (arith, lt-ltb, e)

    at_zero : (z : Bool) → (n == 0) ≡ z → (b : Bool) → nat_lt n (gate_node g 0) ≡ b
        → cond z False (cond b (Input (n - 1)) (gate (n - gate_node g 0))) ≡ And left right → v n ≡ (literal_value v left && literal_value v right)
    at_zero true e b f here = let no : False ≡ And left right = here in cc
    at_zero false e true f here = let no : Input (n - 1) ≡ And left right = here in cc
    at_zero false e false f here = at_gate (high_of f) here

-- the value of a gate's literal, by what is known of its two
pub gate_known : (g : GraphValue) (adder : Adder) (at : Inputs) (l left right : ℕ) (one two known told : Option Bool) (turn : Bool)
    → l / 2 < node_count g → node_at g (l / 2) ≡ And left right → turn ≡ (l % 2 == 1)
    → IsKnownAt g adder at left one → IsKnownAt g adder at right two → IsBoth one two known → IsTurned known turn told → IsKnownAt g adder at l told
gate_known g adder at l left right one two known told turn low is sign first second both turned = record {
  is = λ x v val here.
      let all : v (l / 2) ≡ (literal_value v left && literal_value v right) = node_conjunction g x v (l / 2) left right low is val in
      let value : Knows known (v (l / 2)) = subst (λ b. Knows known b) (sym all) (both (literal_value v left) (literal_value v right) (first.is x v val here) (second.is x v val here)) in
      subst (λ t. Knows told (cond t (not (v (l / 2))) (v (l / 2)))) sign (turned (v (l / 2)) value);
}

pub none_known : (g : GraphValue) (adder : Adder) (at : Inputs) (l : ℕ) → IsKnownAt g adder at l None
none_known g adder at l = record { is = λ x v val here. tt }

-- ---- the eight values

pub both_bools : (P : Bool → Type 0) → P false → P true → (b : Bool) → P b
both_bools P low high b = at b
  where
    at : (b : Bool) → P b
    at false = low
    at true = high

pub adder_from_all : (g : GraphValue) (adder : Adder) → ((first second third : Bool) → IsAdderAt g adder (inputs first second third)) → IsAdder g adder
adder_from_all g adder all = record {
  is = λ x v val. (all (literal_value v adder.first) (literal_value v adder.second) (literal_value v adder.third)).is x v val (record { first = refl; second = refl; third = refl });
}

table : (a b c : Bool) → bit a + bit b + bit c ≡ bit ((bit a + bit b + bit c) % 2 == 1) + 2 * bit (nat_le 2 (bit a + bit b + bit c))
table true true true = refl
table true true false = refl
table true false true = refl
table true false false = refl
table false true true = refl
table false true false = refl
table false false true = refl
table false false false = refl

added : (a b c s k : Bool) → s ≡ ((bit a + bit b + bit c) % 2 == 1) → k ≡ nat_le 2 (bit a + bit b + bit c) → bit a + bit b + bit c ≡ bit s + 2 * bit k
added a b c s k e f = table a b c ∙ (λ i. bit (sym e i) + 2 * bit (sym f i))

-- where the sum and the carry are known to be those of the count
pub known_adder : (g : GraphValue) (adder : Adder) (a b c : Bool) (n : ℕ) (sum carry : Option Bool) → n ≡ bit a + bit b + bit c
    → IsKnownAt g adder (inputs a b c) adder.sum sum → IsKnownAt g adder (inputs a b c) adder.carry carry
    → sum ≡ Some (n % 2 == 1) → carry ≡ Some (nat_le 2 n) → IsAdderAt g adder (inputs a b c)
known_adder g adder a b c n sum carry count sum_is carry_is s k = record {
  is = λ x v val here.
      let known_sum : literal_value v adder.sum ≡ (n % 2 == 1) = subst (λ o. Knows o (literal_value v adder.sum)) s (sum_is.is x v val here) in
      let known_carry : literal_value v adder.carry ≡ nat_le 2 n = subst (λ o. Knows o (literal_value v adder.carry)) k (carry_is.is x v val here) in
      (λ i. bit (here.first i) + bit (here.second i) + bit (here.third i))
      ∙ added a b c (literal_value v adder.sum) (literal_value v adder.carry) (known_sum ∙ ap (λ m. m % 2 == 1) count) (known_carry ∙ ap (nat_le 2) count);
}
