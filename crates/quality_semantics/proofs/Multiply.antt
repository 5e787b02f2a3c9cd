-- The array multiplier has the product.
use Rattle.std.proofs.Common.{◌≡◌, ℕ, zero, suc, ◌+◌, ◌*◌, ◌^◌, ◌<◌, Bool, true, false, ◌&&◌, List, [], ◌∷◌, ◌++◌, length, length-drop, replicate, map, take, drop, refl, ◌∙◌, arith}
use Rattle.std.specs.List.{range_with_len, AllByRecursion}
use Rattle.std.proofs.lemmas.List.{take_all}
use Rattle.std.proofs.lemmas.List.Elements.{All-nil, All-cons, All-head, All-tail, All-append, All-replicate, All-from_recursion}
use Rattle.semantics.specs.declared.mark.Mark.{Mark}
use Rattle.semantics.specs.Value.{Assignment, value_of, outputs_of}
use Rattle.semantics.specs.Error.{bit_number, number_of}
use Rattle.quality_semantics.specs.Forms.{and2}
use Rattle.quality_semantics.specs.WordNets.{WordNetValue, signals, appended, started, BeginsWith, AreSignalsOf, IsWordNet}
use Rattle.quality_semantics.specs.Buses.{add}
use Rattle.quality_semantics.specs.Laws.{Fits, number}
use Rattle.quality_semantics.specs.Multiply.{WithRows, products, product_rows, sum_rows, sum_of_rows, multiply, multiplier, multiplier_net, Multiplies}
use Rattle.quality_semantics.proofs.Tables.{and2_value}
use Rattle.quality_semantics.proofs.Growth.{begins_itself, begins_later, begins_after, begins_add, begins_appended, begins_signals, signals_kept, Fits-earlier, Fits-newest, Fits-values}
use Rattle.quality_semantics.proofs.Numbers.{add_number, input_bits}
use Rattle.quality_semantics.proofs.Formed.{HasBus, IsWordNet-started, IsWordNet-appended, signals-appended, two_in, zero_below, add_formed}
use Rattle.quality_semantics.proofs.Words.{inputs_in}
use Rattle.quality_semantics.proofs.Sound.{input_count-net_of}

begins_products : (W : WordNetValue) (b : ℕ) (xs : List ℕ) → BeginsWith (products W b xs).net W
begins_products W b [] = begins_itself W
begins_products W b (x ∷ xs) = begins_later W (and2 x b) _ (begins_products (appended W (and2 x b)) b xs)

begins_product_rows : (W : WordNetValue) (xs bs : List ℕ) → BeginsWith (product_rows W xs bs).net W
begins_product_rows W xs [] = begins_itself W
begins_product_rows W xs (b ∷ bs) =
    let row = products W b xs in
    begins_after W row.net _ (begins_product_rows row.net xs bs) (begins_products W b xs)

begins_sum_rows : (W : WordNetValue) (p : List ℕ) (j : ℕ) (rows : List (List ℕ)) → BeginsWith (sum_rows W p j rows).net W
begins_sum_rows W p j [] = begins_itself W
begins_sum_rows W p j (row ∷ rows) =
    let sum = add W p (replicate j W.inputs ++ row) in
    begins_after W sum.net _ (begins_sum_rows sum.net sum.bus (suc j) rows) (begins_add W p (replicate j W.inputs ++ row))

begins_sum_of_rows : (W : WordNetValue) (rows : List (List ℕ)) → BeginsWith (sum_of_rows W rows).net W
begins_sum_of_rows W [] = begins_itself W
begins_sum_of_rows W (row ∷ rows) = begins_sum_rows W row 1 rows

begins_multiply : (W : WordNetValue) (xs ys : List ℕ) → BeginsWith (multiply W xs ys).net W
begins_multiply W xs ys =
    let partial = product_rows W xs ys in
    begins_after W partial.net _ (begins_sum_of_rows partial.net partial.rows) (begins_product_rows W xs ys)

product_step : (a b : Bool) (n : ℕ) → bit_number (a && b) + 2 * (bit_number b * n) ≡ bit_number b * (bit_number a + 2 * n)
product_step true true n = omega arith
product_step true false n = omega arith
product_step false true n = omega arith
product_step false false n = omega arith

pub products_number : (v : Assignment) (W : WordNetValue) (b : ℕ) (xs : List ℕ) → Fits v (products W b xs).net → number v (products W b xs).bus ≡ bit_number (v b) * number v xs
products_number v W b [] h = omega arith
products_number v W b (x ∷ xs) h =
    let next = appended W (and2 x b) in
    let rest = products_number v next b xs h in
    let at_next = Fits-earlier v _ next (begins_products next b xs) h in
    let here : v (signals W) ≡ (v x && v b) = Fits-newest v W (and2 x b) at_next ∙ and2_value v x b in
    rw (here, rest) (product_step (v x) (v b) (number v xs))

-- the rows' numbers, each with twice the weight of the one before
rows_number : Assignment → List (List ℕ) → ℕ
rows_number v [] = 0
rows_number v (row ∷ rows) = number v row + 2 * rows_number v rows

rows_step : (b : Bool) (m n : ℕ) → bit_number b * m + 2 * (n * m) ≡ (bit_number b + 2 * n) * m
rows_step true m n = grind arith
rows_step false m n = grind arith

product_rows_number : (v : Assignment) (W : WordNetValue) (xs bs : List ℕ) → Fits v (product_rows W xs bs).net → rows_number v (product_rows W xs bs).rows ≡ number v bs * number v xs
unfolding rows_number
product_rows_number v W xs [] h = omega arith
product_rows_number v W xs (b ∷ bs) h =
    let row = products W b xs in
    let rest = product_rows_number v row.net xs bs h in
    let at_row = Fits-earlier v _ row.net (begins_product_rows row.net xs bs) h in
    let first = products_number v W b xs at_row in
    rw (first, rest) (rows_step (v b) (number v xs) (number v bs))

doubled_weight : (p q n : ℕ) → q ≡ 2 * p → 0 + 2 * (p * n) ≡ q * n
doubled_weight p q n e = rw e (grind arith)

doubled : (v : Assignment) (z j : ℕ) (row : List ℕ) → v z ≡ false → number v (replicate j z ++ row) ≡ 2 ^ j * number v row
doubled v z zero row low = omega arith
doubled v z (suc j) row low = let rest = doubled v z j row low in rw (low, rest) (doubled_weight (2 ^ j) (2 ^ suc j) (number v row) (omega arith))

later_weight : (s p q m n : ℕ) → q ≡ 2 * p → s + p * m + q * n ≡ s + p * (m + 2 * n)
later_weight s p q m n e = rw e (grind arith)

sum_rows_number : (v : Assignment) (W : WordNetValue) (p : List ℕ) (j : ℕ) (rows : List (List ℕ)) → Fits v (sum_rows W p j rows).net
    → number v (sum_rows W p j rows).bus ≡ number v p + 2 ^ j * rows_number v rows
unfolding rows_number
sum_rows_number v W p j [] h = omega arith
sum_rows_number v W p j (row ∷ rows) h =
    let shifted : List ℕ = replicate j W.inputs ++ row in
    let sum = add W p shifted in
    let at_sum = Fits-earlier v _ sum.net (begins_sum_rows sum.net sum.bus (suc j) rows) h in
    let low = (Fits-earlier v sum.net W (begins_add W p shifted) at_sum).zero in
    let rest = sum_rows_number v sum.net sum.bus (suc j) rows h in
    let here = add_number v W p shifted at_sum in
    rest ∙ rw (here, doubled v W.inputs j row low) (later_weight (number v p) (2 ^ j) (2 ^ suc j) (number v row) (rows_number v rows) (omega arith))

sum_of_rows_number : (v : Assignment) (W : WordNetValue) (rows : List (List ℕ)) → Fits v (sum_of_rows W rows).net → number v (sum_of_rows W rows).bus ≡ rows_number v rows
unfolding rows_number
sum_of_rows_number v W [] h = refl
sum_of_rows_number v W (row ∷ rows) h = sum_rows_number v W row 1 rows h ∙ omega arith

pub multiply_number : (v : Assignment) (W : WordNetValue) (xs ys : List ℕ) → Fits v (multiply W xs ys).net → number v (multiply W xs ys).bus ≡ number v xs * number v ys
multiply_number v W xs ys h =
    let partial = product_rows W xs ys in
    let at_rows = Fits-earlier v _ partial.net (begins_sum_of_rows partial.net partial.rows) h in
    let rows = product_rows_number v W xs ys at_rows in
    sum_of_rows_number v partial.net partial.rows h ∙ rows ∙ grind arith

-- all rows are signals of the network
AreRowsOf : WordNetValue → List (List ℕ) → Type 0
AreRowsOf W rows = AllByRecursion (AreSignalsOf W) rows

rows_kept : (W V : WordNetValue) (rows : List (List ℕ)) → BeginsWith V W → AreRowsOf W rows → AreRowsOf V rows
unfolding AreRowsOf
rows_kept W V [] h within = tt
rows_kept W V (row ∷ rows) h within = (signals_kept W V row h within.0, rows_kept W V rows h within.1)

record HasRows (r : WithRows) : Type 0 where
  net : IsWordNet r.net
  rows : AreRowsOf r.net r.rows

products_formed : (W : WordNetValue) (b : ℕ) (xs : List ℕ) → IsWordNet W → b < signals W → AreSignalsOf W xs → HasBus (products W b xs)
products_formed W b [] h hb hxs = record { net = h; bus = All-nil _ }
products_formed W b (x ∷ xs) h hb hxs =
    let next = appended W (and2 x b) in
    let one = signals-appended W (and2 x b) in
    let at_next = IsWordNet-appended W (and2 x b).pins (and2 x b).rows h (two_in _ x b (All-head (λ s. s < signals W) x xs hxs) hb)
    (All-from_recursion (λ (marks : List Mark). length marks ≡ 2) (and2 x b).rows (refl, tt)) in
    let rest = products_formed next b xs at_next (omega (arith, one, hb)) (signals_kept W next xs (begins_appended W (and2 x b)) (All-tail (λ s. s < signals W) x xs hxs)) in
    let last = products next b xs in
    let more = begins_signals next last.net (begins_products next b xs) in
    record { net = rest.net; bus = All-cons (λ s. s < signals last.net) (signals W) last.bus (omega (arith, one, more)) rest.bus }

product_rows_formed : (W : WordNetValue) (xs bs : List ℕ) → IsWordNet W → AreSignalsOf W xs → AreSignalsOf W bs → HasRows (product_rows W xs bs)
unfolding AreRowsOf
product_rows_formed W xs [] h hxs hbs = record { net = h; rows = tt }
product_rows_formed W xs (b ∷ bs) h hxs hbs =
    let row = products W b xs in
    let begins = begins_products W b xs in
    let first = products_formed W b xs h (All-head (λ s. s < signals W) b bs hbs) hxs in
    let rest = product_rows_formed row.net xs bs first.net (signals_kept W row.net xs begins hxs) (signals_kept W row.net bs begins (All-tail (λ s. s < signals W) b bs hbs)) in
    record { net = rest.net; rows = (signals_kept row.net _ row.bus (begins_product_rows row.net xs bs) first.bus, rest.rows) }

sum_rows_formed : (W : WordNetValue) (p : List ℕ) (j : ℕ) (rows : List (List ℕ)) → IsWordNet W → AreSignalsOf W p → AreRowsOf W rows → HasBus (sum_rows W p j rows)
unfolding AreRowsOf
sum_rows_formed W p j [] h hp hrows = record { net = h; bus = hp }
sum_rows_formed W p j (row ∷ rows) h hp hrows =
    let shifted : List ℕ = replicate j W.inputs ++ row in
    let sum = add W p shifted in
    let shifted_in = All-append (λ s. s < signals W) (replicate j W.inputs) row (All-replicate (λ s. s < signals W) j W.inputs (zero_below W h)) hrows.0 in
    let here = add_formed W p shifted h hp shifted_in in
    sum_rows_formed sum.net sum.bus (suc j) rows here.net here.bus (rows_kept W sum.net rows (begins_add W p shifted) hrows.1)

sum_of_rows_formed : (W : WordNetValue) (rows : List (List ℕ)) → IsWordNet W → AreRowsOf W rows → HasBus (sum_of_rows W rows)
unfolding AreRowsOf
sum_of_rows_formed W [] h hrows = record { net = h; bus = All-nil _ }
sum_of_rows_formed W (row ∷ rows) h hrows = sum_rows_formed W row 1 rows h hrows.0 hrows.1

multiply_formed : (W : WordNetValue) (xs ys : List ℕ) → IsWordNet W → AreSignalsOf W xs → AreSignalsOf W ys → HasBus (multiply W xs ys)
multiply_formed W xs ys h hxs hys =
    let partial = product_rows W xs ys in
    let rows = product_rows_formed W xs ys h hxs hys in
    sum_of_rows_formed partial.net partial.rows rows.net rows.rows

pub multiplier_multiplies : (w : ℕ) → Multiplies w (multiplier_net w)
unfolding multiplier outputs_of
multiplier_multiplies w x width =
    let start = started (w + w) in
    let xs = range_with_len 0 w in
    let ys = range_with_len w w in
    let M = multiply start xs ys in
    let begins = begins_multiply start xs ys in
    let formed = multiply_formed start xs ys (IsWordNet-started (w + w)) (inputs_in (w + w) 0 w (omega arith)) (inputs_in (w + w) w w (omega arith)) in
    let inputs : M.net.inputs ≡ w + w = begins.inputs in
    let starts : BeginsWith M.net (started M.net.inputs) = record { inputs = refl; tables = begins.tables } in
    let v : Assignment = value_of M.net.inputs M.net.tables x in
    let fits : Fits v M.net = Fits-values M.net x formed.net starts in
    let first : map v xs ≡ take w x = input_bits M.net x 0 w formed.net (omega (arith, width, inputs)) (omega (arith, inputs)) in
    let second : map v ys ≡ take w (drop w x) = input_bits M.net x w w formed.net (omega (arith, width, inputs)) (omega (arith, inputs)) in
    let rest : take w (drop w x) ≡ drop w x = take_all w (drop w x) (omega (arith, length-drop w x, width)) in
    let is : number v M.bus ≡ number_of (take w x) * number_of (drop w x) = multiply_number v start xs ys fits ∙ rw (first, second, rest) refl in
    rw (input_count-net_of M.net M.bus) is
