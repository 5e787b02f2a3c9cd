-- Which signals depend on a table. Source: BLIF's tables, read as a graph.
use Rattle.std.specs.Prelude.{◌≡◌, ℕ, ◌+◌, ◌-◌, ◌<◌, ◌≤◌, List, length, Contains}
use Rattle.semantics.specs.Net.{TableValue, table_at}

-- a path by pins leads from signal s to table t
pub data DependsOn (n : ℕ) (tables : List TableValue) (t : ℕ) : ℕ → Type 0 where
  itself : {s : ℕ} → s ≡ n + t → DependsOn n tables t s
  by_pin : {s p : ℕ} → n ≤ s → s < n + length tables → Contains (table_at tables (s - n)).pins p
      → DependsOn n tables t p → DependsOn n tables t s
