-- The array multiplier: all partial products, and then their sum, row after row. Source: the array multiplier
-- with ripple-carry rows.
use Rattle.std.specs.Prelude.{◌≡◌, ℕ, suc, ◌+◌, ◌*◌, replicate, List, [], ◌∷◌, ◌++◌, Bool, length, take, drop}
use Rattle.std.specs.List.{range_with_len}
use Rattle.semantics.specs.Net.{NetValue}
use Rattle.semantics.specs.Value.{outputs_of}
use Rattle.semantics.specs.Error.{number_of}
use Rattle.quality_semantics.specs.Forms.{and2}
use Rattle.quality_semantics.specs.WordNets.{WordNetValue, signals, appended, started, net_of}
use Rattle.quality_semantics.specs.Buses.{WithBus, add}

-- the network after a call, and its buses
pub record WithRows : Type 0 where
  pub net : WordNetValue
  pub rows : List (List ℕ)

-- a row of partial products: each bit of a bus, and b
abbrev pub products : WordNetValue → ℕ → List ℕ → WithBus
products W b [] = record { net = W; bus = [] }
products W b (x ∷ xs) =
    let rest = products (appended W (and2 x b)) b xs in
    record { net = rest.net; bus = signals W ∷ rest.bus }

-- one row for each bit of the second bus
abbrev pub product_rows : WordNetValue → List ℕ → List ℕ → WithRows
product_rows W xs [] = record { net = W; rows = [] }
product_rows W xs (b ∷ bs) =
    let row = products W b xs in
    let rest = product_rows row.net xs bs in
    record { net = rest.net; rows = row.bus ∷ rest.rows }

-- the bus p and the rows are added: the first row is doubled j times, and each later row once more than the
-- row before it
abbrev pub sum_rows : WordNetValue → List ℕ → ℕ → List (List ℕ) → WithBus
sum_rows W p j [] = record { net = W; bus = p }
sum_rows W p j (row ∷ rows) =
    let sum = add W p (replicate j W.inputs ++ row) in
    sum_rows sum.net sum.bus (suc j) rows

abbrev pub sum_of_rows : WordNetValue → List (List ℕ) → WithBus
sum_of_rows W [] = record { net = W; bus = [] }
sum_of_rows W (row ∷ rows) = sum_rows W row 1 rows

-- the product of two buses
abbrev pub multiply : WordNetValue → List ℕ → List ℕ → WithBus
multiply W xs ys = let partial = product_rows W xs ys in sum_of_rows partial.net partial.rows

-- the multiplier of two words of w bits
unfoldable pub multiplier : ℕ → WithBus
multiplier w = multiply (started (w + w)) (range_with_len 0 w) (range_with_len w w)

abbrev pub multiplier_net : ℕ → NetValue
multiplier_net w = net_of (multiplier w).net (multiplier w).bus

-- the net's output number is the product of its two words
abbrev pub Multiplies : ℕ → NetValue → Type 0
Multiplies w N = (x : List Bool) → length x ≡ w + w
    → number_of (outputs_of N x) ≡ number_of (take w x) * number_of (drop w x)
