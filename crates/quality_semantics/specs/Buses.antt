-- Networks on buses. A bus is a list of signals, bit 0 first; past its width it has the signal of 0. Each
-- call appends tables to a network, in the order in which they stand here. Source: ripple-carry adders and
-- comparators, multiplication by double-and-add, threshold counters.
use Rattle.std.specs.Prelude.{ℕ, zero, suc, ◌-◌, ◌/◌, ◌%◌, ◌==◌, Bool, true, false, cond, replicate}
use Rattle.std.specs.Prelude.{slice_index_or, slice_set, List, [], ◌∷◌, length, map}
use Rattle.quality_semantics.specs.Forms.{inv, or2, xor2, xor3, maj, gt, grow, low}
use Rattle.quality_semantics.specs.WordNets.{WordNetValue, signals, appended}

-- the network after a call, and the bus or the signal that is the call's result
pub record WithBus : Type 0 where
  pub net : WordNetValue
  pub bus : List ℕ

pub record WithSignal : Type 0 where
  pub net : WordNetValue
  pub signal : ℕ

-- the two bits of each place of two buses; past its width a bus has the signal z
abbrev pub places : ℕ → List ℕ → List ℕ → List (ℕ × ℕ)
places z [] ys = map (λ y. (z, y)) ys
places z (x ∷ xs) [] = (x, z) ∷ places z xs []
places z (x ∷ xs) (y ∷ ys) = (x, y) ∷ places z xs ys

-- a row of full adders, with the carry c into the first; the last bit is the carry out
abbrev pub adders : WordNetValue → ℕ → List (ℕ × ℕ) → WithBus
adders W c [] = record { net = W; bus = c ∷ [] }
adders W c (p ∷ ps) =
    let half = appended W (xor3 p.0 p.1 c) in
    let rest = adders (appended half (maj p.0 p.1 c)) (signals half) ps in
    record { net = rest.net; bus = signals W ∷ rest.bus }

-- the sum
abbrev pub add : WordNetValue → List ℕ → List ℕ → WithBus
add W x y = adders W W.inputs (places W.inputs x y)

-- a row of comparators; g says whether the first number is greater on the places below the row
abbrev pub comparators : WordNetValue → ℕ → List (ℕ × ℕ) → WithSignal
comparators W g [] = record { net = W; signal = g }
comparators W g (p ∷ ps) = comparators (appended W (gt p.0 p.1 g)) (signals W) ps

-- whether the number of the first bus is greater
abbrev pub greater : WordNetValue → List ℕ → List ℕ → WithSignal
greater W x y = comparators W W.inputs (places W.inputs x y)

-- whether x and y are more than z apart
abbrev pub exceed : WordNetValue → List ℕ → List ℕ → List ℕ → WithSignal
exceed W x y z =
    let s = add W y z in
    let p = greater s.net x s.bus in
    let t = add p.net x z in
    let q = greater t.net y t.bus in
    record { net = appended q.net (or2 p.signal q.signal); signal = signals q.net }

-- the bits of k up to its highest 1, bit 0 first, and no more than the first `most` of them
abbrev pub bits_within : ℕ → ℕ → List Bool
bits_within zero k = []
bits_within (suc most) k = elim (k == 0) [ true ↦ [] | false ↦ (k % 2 == 1) ∷ bits_within most (k / 2) ]

-- the bits of k up to its highest 1, bit 0 first
unfoldable pub binary : ℕ → List Bool
binary k = bits_within k k

-- the number k, each bit the signal of 1 or of 0; no table is appended
abbrev pub constant : WordNetValue → ℕ → List ℕ
constant W k = map (λ b. cond b (suc W.inputs) W.inputs) (binary k)

-- the double of a bus, plus x where the bit is 1
abbrev pub doubled_and : Bool → WithBus → List ℕ → WithBus
doubled_and false half x = record { net = half.net; bus = half.net.inputs ∷ half.bus }
doubled_and true half x = add half.net (half.net.inputs ∷ half.bus) x

-- a number times the bits of a constant, by `doubled_and` from the highest bit down
abbrev pub times_bits : WordNetValue → List ℕ → List Bool → WithBus
times_bits W x [] = record { net = W; bus = [] }
times_bits W x (b ∷ []) = record { net = W; bus = cond b x [] }
times_bits W x (b ∷ (d ∷ bits)) = doubled_and b (times_bits W x (d ∷ bits)) x

-- the product with a constant
abbrev pub times : WordNetValue → List ℕ → ℕ → WithBus
times W x k = times_bits W x (binary k)

-- the number of the bus, or 1 where that number is 0
abbrev pub not_zero_low : WordNetValue → List ℕ → WithBus
not_zero_low W [] = record { net = W; bus = [] }
not_zero_low W (x ∷ xs) = record { net = appended W (low x xs); bus = signals W ∷ xs }

-- the word with its last bit, the sign, turned over; the bus is not empty
abbrev pub flip_top : WordNetValue → List ℕ → WithBus
flip_top W x =
    let top = length x - 1 in
    record { net = appended W (inv (slice_index_or x top W.inputs)); bus = slice_set x top (signals W) }

-- a row of exclusive disjunctions, one for each place
abbrev pub differences : WordNetValue → List (ℕ × ℕ) → WithBus
differences W [] = record { net = W; bus = [] }
differences W (p ∷ ps) =
    let rest = differences (appended W (xor2 p.0 p.1)) ps in
    record { net = rest.net; bus = signals W ∷ rest.bus }

-- for each place, whether the bits of the two buses differ there
abbrev pub differ : WordNetValue → List ℕ → List ℕ → WithBus
differ W x y = differences W (places W.inputs x y)

-- A row of a counter: place j of a row says whether at least j of the bits so far were 1. Here d is the next
-- bit, and q the signal of the place before, in the row before.
abbrev pub growers : WordNetValue → ℕ → ℕ → List ℕ → WithBus
growers W d q [] = record { net = W; bus = [] }
growers W d q (p ∷ ps) =
    let rest = growers (appended W (grow p d q)) d p ps in
    record { net = rest.net; bus = signals W ∷ rest.bus }

-- One row for each bit. Place 0 of every row is the signal of 1, and no row's bus holds it.
abbrev pub count_rows : WordNetValue → List ℕ → List ℕ → WithBus
count_rows W row [] = record { net = W; bus = row }
count_rows W row (d ∷ ds) =
    let next = growers W d (suc W.inputs) row in
    count_rows next.net next.bus ds

-- whether at least k of the bits are 1
abbrev pub at_least : WordNetValue → List ℕ → ℕ → WithSignal
at_least W ds k =
    let last = count_rows W (replicate k W.inputs) ds in
    record { net = last.net; signal = slice_index_or (suc W.inputs ∷ last.bus) k W.inputs }
