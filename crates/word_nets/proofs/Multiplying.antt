-- How the array multiplier grows, step by step.
use Rattle.std.proofs.Common.{◌≡◌, ℕ, zero, suc, ◌+◌, ◌*◌, ◌<◌, ◌≤◌, List, [], ◌∷◌, ◌++◌, length, drop, replicate, All, append-nil, refl, ap, sym, subst, ◌∙◌, arith}
use Rattle.std.specs.List.{range_with_len}
use Rattle.std.proofs.lemmas.List.{drop_all}
use Rattle.semantics.specs.Error.{bit_number}
use Rattle.quality_semantics.specs.WordNets.{WordNetValue, signals, started, net_of, BeginsWith, AreSignalsOf}
use Rattle.quality_semantics.specs.Buses.{places, adders, add}
use Rattle.quality_semantics.specs.Multiply.{products, product_rows, sum_rows, sum_of_rows, multiplier, multiplier_net, Multiplies}
use Rattle.semantics.specs.Net.{NetValue}
use Rattle.quality_semantics.proofs.Growth.{begins_after as begins_through}
use Rattle.quality_semantics.specs.Laws.{Fits, number}
use Rattle.quality_semantics.proofs.Multiply.{multiplier_multiplies, products_number}
use Rattle.bus_nets.specs.Numbers.{HasNumber}

pub begins_after : (W V U : WordNetValue) → BeginsWith U V → BeginsWith V W → BeginsWith U W
begins_after = begins_through

-- partial products are being appended, and the first i are done
pub record MakingProducts (start now : WordNetValue) (b : ℕ) (xs bits : List ℕ) (i : ℕ) : Type 0 where
  pub begins : BeginsWith now start
  pub more : signals start ≤ signals now
  pub bits_in : AreSignalsOf now bits
  pub net : (products now b (drop i xs)).net ≡ (products start b xs).net
  pub bus : bits ++ (products now b (drop i xs)).bus ≡ (products start b xs).bus

pub products_has : (W V : WordNetValue) (b : ℕ) (x bus : List ℕ) → V ≡ (products W b x).net → bus ≡ (products W b x).bus → HasNumber V bus (λ v. bit_number (v b) * number v x)
products_has W V b x bus net e = record { at = λ v fits. ap (number v) e ∙ products_number v W b x (subst (Fits v) net fits) }

pub making_has : (start now : WordNetValue) (b : ℕ) (x y bits : List ℕ) (i : ℕ) → MakingProducts start now b x bits i → length x ≤ i → x ≡ y → HasNumber now bits (λ v. bit_number (v b) * number v y)
making_has start now b x y bits i h past same =
    let none = drop_all i x past in
    let net : now ≡ (products start b x).net = ap (λ r. (products now b r).net) (sym none) ∙ h.net in
    let is : bits ≡ (products start b x).bus = sym (append-nil bits) ∙ ap (λ r. bits ++ (products now b r).bus) (sym none) ∙ h.bus in
    subst (λ z. HasNumber now bits (λ v. bit_number (v b) * number v z)) same (products_has start now b x bits net is)

-- rows of partial products are being appended, and the first i are done
pub record MakingRows (start now : WordNetValue) (xs ys : List ℕ) (rows : List (List ℕ)) (i : ℕ) : Type 0 where
  pub begins : BeginsWith now start
  pub more : signals start ≤ signals now
  pub rows_in : All (AreSignalsOf now) rows
  pub net : (product_rows now xs (drop i ys)).net ≡ (product_rows start xs ys).net
  pub rows_are : rows ++ (product_rows now xs (drop i ys)).rows ≡ (product_rows start xs ys).rows

-- rows are being added, and those before place j are in the sum
pub record AddingRows (start now : WordNetValue) (rows : List (List ℕ)) (sum : List ℕ) (j : ℕ) : Type 0 where
  pub begins : BeginsWith now start
  pub more : signals start ≤ signals now
  pub sum_in : AreSignalsOf now sum
  pub rest : sum_rows now sum j (drop j rows) ≡ sum_of_rows start rows

-- the bits of a product of words of at least one bit are at least one
adders_some : (W : WordNetValue) (c : ℕ) (ps : List (ℕ × ℕ)) → 0 < length (adders W c ps).bus
adders_some W c [] = omega arith
adders_some W c (p ∷ ps) = omega arith

sum_rows_some : (W : WordNetValue) (p : List ℕ) (j : ℕ) (rows : List (List ℕ)) → 0 < length p → 0 < length (sum_rows W p j rows).bus
sum_rows_some W p j [] some = some
sum_rows_some W p j (row ∷ rows) some =
    let shifted : List ℕ = replicate j W.inputs ++ row in
    let sum = add W p shifted in
    sum_rows_some sum.net sum.bus (suc j) rows (adders_some W W.inputs (places W.inputs p shifted))

pub multiplier_some : (w : ℕ) → 1 ≤ w → 0 < length (multiplier w).bus
unfolding multiplier
multiplier_some zero some = absurd (omega arith)
multiplier_some (suc w) some =
    let xs = range_with_len 0 (suc w) in
    let first = products (started (suc w + suc w)) (suc w) xs in
    let rest = product_rows first.net xs (range_with_len (suc w + 1) w) in
    let some_row : 0 < length first.bus = omega arith in
    sum_rows_some rest.net first.bus 1 rest.rows some_row

pub multiplier_from : (w : ℕ) (W V : WordNetValue) (xs ys : List ℕ) (rows : List (List ℕ)) → W ≡ started (w + w) → xs ≡ range_with_len 0 w → ys ≡ range_with_len w w → V ≡ (product_rows W xs ys).net
    → rows ≡ (product_rows W xs ys).rows → sum_of_rows V rows ≡ multiplier w
unfolding multiplier
multiplier_from w W V xs ys rows hW hx hy hV hr = rw (hr, hV, hx, hy, hW) refl

pub product_some : (w : ℕ) (W V : WordNetValue) (xs ys : List ℕ) (rows : List (List ℕ)) (p outputs : List ℕ) → 1 ≤ w → W ≡ started (w + w) → xs ≡ range_with_len 0 w → ys ≡ range_with_len w w
    → V ≡ (product_rows W xs ys).net → rows ≡ (product_rows W xs ys).rows → p ≡ (sum_of_rows V rows).bus → outputs ≡ p → 0 < length outputs
product_some w W V xs ys rows p outputs some hW hx hy hV hr hp ho =
    let all = multiplier_from w W V xs ys rows hW hx hy hV hr in
    rw (ho, hp, all) (multiplier_some w some)

pub multiplier_made : (w : ℕ) (W V U : WordNetValue) (xs ys : List ℕ) (rows : List (List ℕ)) (p outputs : List ℕ) (N : NetValue) → W ≡ started (w + w) → xs ≡ range_with_len 0 w
    → ys ≡ range_with_len w w → V ≡ (product_rows W xs ys).net → rows ≡ (product_rows W xs ys).rows → U ≡ (sum_of_rows V rows).net → p ≡ (sum_of_rows V rows).bus → outputs ≡ p → N ≡ net_of U outputs
    → N ≡ multiplier_net w
multiplier_made w W V U xs ys rows p outputs N hW hx hy hV hr hU hp ho hN =
    let all = multiplier_from w W V xs ys rows hW hx hy hV hr in
    rw (hN, ho, hp, hU, all) refl

pub multiplies_made : (w : ℕ) (N : NetValue) → N ≡ multiplier_net w → Multiplies w N
multiplies_made w N e = subst (λ M. Multiplies w M) (sym e) (multiplier_multiplies w)
