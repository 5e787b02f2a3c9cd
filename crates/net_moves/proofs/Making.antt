-- What a move of a net asks of its table.
use Rattle.std.proofs.Common.{◌≡◌, ℕ, suc, ◌<◌, ◌≤◌, ◌^◌, List, length, get_or, set, take, drop, All, ap, sym, subst, ◌∙◌, arith}
use Rattle.std.specs.List.{remove}
use Rattle.std.proofs.lemmas.List.{set-set, set-get_or}
use Rattle.std.proofs.lemmas.List.Sums.{sum_by-le, count_by-le-length, get_or-le-sum_by}
use Rattle.std.proofs.lemmas.List.Elements.{All-append, All-take, All-drop}
use Rattle.semantics.specs.declared.mark.Mark.{Mark}
use Rattle.semantics.specs.Net.{TableValue, NetValue, no_table, table_at, input_count, table_count, is_literal, row_literals, table_literals, IsAcyclic, IsSound, IsSmall}
use Rattle.semantics.specs.Replaced.{replaced, with_table}
use Rattle.chain_semantics.specs.declared.moves.Move.{Move}
use Rattle.chain_semantics.specs.declared.moves.Move.TheVariants.{Const, DropRow, DropLiteral, Signal, Pair}
use Rattle.chain_semantics.specs.Moves.{table_of, row_at, moved_table, moved}
use Rattle.chain_semantics.specs.MoveLaws.{IsMoveOf}
use Rattle.chain_semantics.proofs.MovedNets.{literal_within, moved-acyclic}
use Rattle.net_moves.specs.Fitting.{Fits}
use Rattle.net_moves.specs.Left.{AreCountable}
use Rattle.net_moves.specs.Made.{IsMadeIn}

pub Fits-move : (N : NetValue) (m : Move) → IsMoveOf N m → Fits (table_at N.tables (table_of m)) m
Fits-move N (Const t value) is = tt
Fits-move N (DropRow t row) is = (is.1, is.2)
Fits-move N (DropLiteral t row pin) is = (is.1, literal_within (row_at (table_at N.tables t).rows row) pin is.2)
Fits-move N (Signal t s flip) is = tt
Fits-move N (Pair t s flip_s u flip_u flip) is = tt

-- the tables with the table that was made
pub made-acyclic : (N : NetValue) (m : Move) (t : ℕ) (table : TableValue) → IsSound N → IsMoveOf N m → t ≡ table_of m → table ≡ moved_table (table_at N.tables t) m
    → IsAcyclic (input_count N) (replaced N.tables t table)
made-acyclic N m t table sound is at made = rw (made, at) (moved-acyclic N m sound is)

pub widths-without : (width row : ℕ) (rows : List (List Mark)) → All (λ marks. length marks ≡ width) rows → All (λ marks. length marks ≡ width) (remove rows row)
widths-without width row rows all =
    All-append (λ marks. length marks ≡ width) (take row rows) (drop (suc row) rows)
    (All-take (λ marks. length marks ≡ width) row rows all) (All-drop (λ marks. length marks ≡ width) (suc row) rows all)

-- the rows of a small net's table, and their literals, can be counted
small-rows : (N : NetValue) (t : ℕ) → IsSmall N → t < table_count N → length (table_at N.tables t).rows ≤ 32768
small-rows N t small within = omega (arith, get_or-le-sum_by (λ (u : TableValue). length u.rows) N.tables t no_table within, small.all_rows)

narrow-row : (N : NetValue) (t : ℕ) → IsSound N → IsSmall N → t < table_count N → All (λ marks. length marks ≤ 256) (table_at N.tables t).rows
narrow-row N t sound small within k d low = omega (arith, (sound.tables_formed t no_table within).widths k d low, small.table_pins t no_table within)

pub AreCountable-small : (N : NetValue) (t : ℕ) → IsSound N → IsSmall N → t < table_count N → AreCountable (table_at N.tables t).rows
AreCountable-small N t sound small within = record {
  few_rows = omega (arith, small-rows N t small within);
  few_pins = λ k d low. omega (arith, narrow-row N t sound small within k d low);
}

pub few_literals : (N : NetValue) (t : ℕ) → IsSound N → IsSmall N → t < table_count N → table_literals (table_at N.tables t) < 2 ^ 63
few_literals N t sound small within =
    let rows : List (List Mark) = (table_at N.tables t).rows in
    omega (
      arith,
      small-rows N t small within,
      sum_by-le row_literals 256 rows (λ k d low. omega (arith, count_by-le-length is_literal (get_or rows k d), narrow-row N t sound small within k d low)),
    )

-- the table that stood there comes again
pub taken_back : (before now : NetValue) (move : Move) (table : TableValue) (t : ℕ) → IsMadeIn before move table now → t ≡ table_of move → with_table now t table ≡ before
taken_back before now move table t m at =
    let again : set (set before.tables (table_of move) (moved_table (table_at before.tables (table_of move)) move)) (table_of move) table ≡ before.tables =
    set-set before.tables (table_of move) (moved_table (table_at before.tables (table_of move)) move) table ∙ ap (set before.tables (table_of move)) m.stood
    ∙ set-get_or before.tables (table_of move) no_table in
    ap (λ k. with_table now k table) at ∙ ap (λ (N : NetValue). with_table N (table_of move) table) m.made ∙ ap (λ ts. record before { tables = ts }) again

pub back-acyclic : (before now : NetValue) (move : Move) (table : TableValue) (t : ℕ) → IsMadeIn before move table now → t ≡ table_of move → IsAcyclic (input_count now) (replaced now.tables t table)
back-acyclic before now move table t m at = subst (λ (N : NetValue). IsAcyclic (input_count N) N.tables) (sym (taken_back before now move table t m at)) m.sound.acyclic
