-- The circuit of a small net has few lines.
use Rattle.std.proofs.Common.{◌≡◌, ℕ, suc, ◌+◌, ◌*◌, ◌^◌, ◌≤◌, List, [], ◌∷◌, length, get_or, arith}
use Rattle.std.specs.Prelude.{All}
use Rattle.std.specs.List.{sum_by}
use Rattle.std.proofs.lemmas.List.Sums.{sum_by-cons, sum_by-le, count_by-le-length}
use Rattle.semantics.specs.declared.mark.Mark.{Mark}
use Rattle.semantics.specs.declared.limits.TheConstants.{MOST_TABLE_PINS}
use Rattle.semantics.specs.Net.{TableValue, NetValue, is_literal, IsTable, IsSmall}
use Rattle.aiger_semantics.specs.NetCircuit.{row_ands, rows_ands, table_ands}

rows_few : (pins : List ℕ) (rows : List (List Mark)) → All (λ (marks : List Mark). length marks ≡ length pins) rows → length pins ≤ MOST_TABLE_PINS → rows_ands rows ≤ length rows * 255
rows_few pins rows wide narrow =
    sum_by-le row_ands 255 rows
    (λ i d low. let literals = count_by-le-length is_literal (get_or rows i d) in let width = wide i d low in omega (arith, literals, width))

tables_few : (tables : List TableValue) → All IsTable tables → All (λ t. length t.pins ≤ MOST_TABLE_PINS) tables → sum_by table_ands tables ≤ 256 * sum_by (λ (t : TableValue). length t.rows) tables
tables_few [] formed narrow = omega arith
tables_few (t ∷ tables) formed narrow =
    let sum = sum_by-cons table_ands t tables in
    let rows = sum_by-cons (λ (u : TableValue). length u.rows) t tables in
    let f : IsTable t = formed 0 t (omega arith) in
    let own = rows_few t.pins t.rows f.widths (narrow 0 t (omega arith)) in
    let more = tables_few tables (λ i d low. formed (suc i) d (omega arith)) (λ i d low. narrow (suc i) d (omega arith)) in
    omega (arith, sum, rows, own, more)

pub small_fits : (N : NetValue) → IsSmall N → All IsTable N.tables → length N.inputs + 1 + sum_by table_ands N.tables ≤ 2 ^ 31
small_fits N small formed = let few = tables_few N.tables formed small.table_pins in omega (arith, few, small.inputs, small.all_rows)
