-- A small net has few literals.
use Rattle.std.proofs.Common.{◌≡◌, ℕ, ◌*◌, ◌≤◌, List, [], ◌∷◌, length, arith, lit≤}
use Rattle.std.specs.Prelude.{All, sum_by}
use Rattle.std.specs.List.{AllByRecursion}
use Rattle.std.proofs.lemmas.List.Sums.{sum_by-cons, count_by-le-length}
use Rattle.std.proofs.lemmas.List.Elements.{recursion_from_All}
use Rattle.semantics.specs.declared.mark.Mark.{Mark}
use Rattle.semantics.specs.Net.{TableValue, NetValue, IsTable, IsSmall, is_literal, row_literals, table_literals, literal_count}

-- the rows of a table with at most 256 pins have at most 256 literals each
rows_at_most : (n : ℕ) (rows : List (List Mark)) → n ≤ 256 → AllByRecursion (λ marks. length marks ≡ n) rows → sum_by row_literals rows ≤ 256 * length rows
rows_at_most n [] few all = lit≤ tt
rows_at_most n (marks ∷ rows) few all =
    omega (arith, sum_by-cons row_literals marks rows, rows_at_most n rows few all.1, count_by-le-length is_literal marks, all.0)

tables_at_most : (tables : List TableValue) → AllByRecursion IsTable tables → AllByRecursion (λ t. length t.pins ≤ 256) tables
    → sum_by table_literals tables ≤ 256 * sum_by (λ t. length t.rows) tables
tables_at_most [] formed few = lit≤ tt
tables_at_most (t ∷ tables) formed few =
    omega (
      arith,
      sum_by-cons table_literals t tables,
      sum_by-cons (λ (u : TableValue). length u.rows) t tables,
      tables_at_most tables formed.1 few.1,
      rows_at_most (length t.pins) t.rows few.0 (recursion_from_All _ t.rows formed.0.widths),
    )

pub literals_at_most : (N : NetValue) → IsSmall N → All IsTable N.tables → literal_count N ≤ 8388608
literals_at_most N small formed =
    omega (arith, tables_at_most N.tables (recursion_from_All _ N.tables formed) (recursion_from_All _ N.tables small.table_pins), small.all_rows)
