-- A header in memory, where a number of clauses above 2 ^ 64 - 1 is held as 2 ^ 64 - 1.
use Rattle.std.specs.Prelude.{ℕ, ◌-◌, ◌^◌, min}
use Rattle.solve_cnf.specs.Reading.{Header}

abbrev pub held_number : ℕ → ℕ
held_number n = min n (2 ^ 64 - 1)

abbrev pub held_header : Header → Header
held_header h = record { variables = h.variables; clauses = held_number h.clauses }
