-- One number that falls at each step of tidying, by which code and proofs end: how many tables there are, pins, tables that are no canonical
-- constants, and signals that are read. None of the four rises in a step, and one of them falls.
use Rattle.std.specs.Prelude.{ℕ, zero, suc, ◌+◌, Bool, true, false, cond, length, sum_by}
use Rattle.semantics.specs.Net.{TableValue, NetValue, table_count, signal_count}
use Rattle.chain_semantics.specs.TidyRules.{is_canonical, is_read}

abbrev pub one_if : Bool → ℕ
one_if b = cond b 1 0

abbrev pub unless : Bool → ℕ
unless true = 0
unless false = 1

-- how many numbers below a bound pass
abbrev pub count_below : (ℕ → Bool) → ℕ → ℕ
count_below test zero = 0
count_below test (suc bound) = one_if (test bound) + count_below test bound

-- the number of pins of a table, and one more unless the table is a canonical constant
abbrev pub table_cost : TableValue → ℕ
table_cost t = length t.pins + unless (is_canonical t)

abbrev pub read_count : NetValue → ℕ
read_count N = count_below (is_read N.tables) (signal_count N)

abbrev pub tidy_measure : NetValue → ℕ
tidy_measure N = table_count N + sum_by table_cost N.tables + read_count N
