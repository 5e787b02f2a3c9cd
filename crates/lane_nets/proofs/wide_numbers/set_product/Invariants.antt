use Rattle.std.proofs.Common.{◌≡◌, ℕ, ◌+◌, ◌*◌, ◌^◌, ◌<◌, ◌≤◌, length}
use Rattle.lane_nets.specs.Numbers.{wide_bit, wide_number, number_below}
use Rattle.lane_nets.proofs.wide_numbers.set_product.Given as goal

-- the product with the digits so far, and what the digits that are left add to it
abbrev pub invariant-loop-from : goal.invariant-loop-from
invariant-loop-from l = record {
  few : 2 ^ l.from * l.rest ≤ l.constant;
  product : (j b : ℕ) → j < 8 → b < 64
      → number_below (wide_bit l.product j b) (l.from + length l.number) + 2 ^ l.from * (l.rest * wide_number l.number j b) ≡ l.constant * wide_number l.number j b;
}
