use Rattle.std.proofs.Common.{◌≡◌, ◌<◌, ◌^◌, ◌*◌, ◌+◌, ℕ, List, true, false, get_or, w64, arith}
use Rattle.std.specs.Int.{trailing_zeros}
use Rattle.std.proofs.lemmas.Nat.Bits.{bit_at-trailing_zeros}
use Rattle.lane_bits.specs.Rows.{row_bit}
use Rattle.lane_bits.proofs.Bits.{none_in_word, first_in_word}
use Rattle.lane_bits.proofs.Changed.{no_bits}
use Rattle.lane_bits.proofs.kernels.first_set.Goals as goal

-- the first 1 of a row whose first words have none
first : (row : List ℕ) (k t : ℕ) → ((q : ℕ) → q < 64 * k → row_bit row q ≡ false) → 0 < get_or row k 0 → get_or row k 0 < 2 ^ 64
    → t ≡ trailing_zeros w64 (get_or row k 0) → (row_bit row (64 * k + t) ≡ true) × ((q : ℕ) → q < 64 * k + t → row_bit row q ≡ false)
first row k t before some fits is =
    let low = bit_at-trailing_zeros w64 (get_or row k 0) some fits in
    rw is (first_in_word row k (trailing_zeros w64 (get_or row k 0)) before low.0 low.1 low.2)

pub loop-k-init : goal.loop-k-init
loop-k-init c = no_bits c.args.row.now c.clear_words-k.result c.clear_words-k.ensures.clear

pub returns-then-p-count : goal.returns-then-p-count
returns-then-p-count c =
    let here = first c.args.row.now c.loop-k.k c.from.result c.loop-k.invariant (omega arith) (omega (arith, c.type_inv.row c.loop-k.k)) c.from.ensures in
    record { within = c.if-p-count.true; set = here.0; before = here.1 }

pub returns-else-p-count : goal.returns-else-p-count
returns-else-p-count c = λ q low.
    (first c.args.row.now c.loop-k.k c.from.result c.loop-k.invariant (omega arith) (omega (arith, c.type_inv.row c.loop-k.k)) c.from.ensures).1 q (omega arith)

pub loop-k-preserved : goal.loop-k-preserved
loop-k-preserved c = none_in_word c.args.row.now c.loop-k.k c.loop-k.invariant c.if-word-ne0.false
