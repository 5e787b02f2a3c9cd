-- The moves of a net, each of which changes one table. Source: SALSA's simplifications; the five kinds and
-- their order are this tool's own.
use Rattle.std.specs.Prelude.{◌==◌, ℕ, zero, suc, ◌+◌, ◌-◌, Bool, true, false, not, ◌&&◌, ◌||◌}
use Rattle.std.specs.Prelude.{if◌then◌else◌, List, [], ◌∷◌, ◌++◌, map, filter, flat_map, remove, take}
use Rattle.std.specs.Prelude.{length, slice_index_or, slice_set, nat_le, nat_lt}
use Rattle.std.specs.List.{list_any, range_with_len}
use Rattle.semantics.specs.declared.mark.Mark.{Mark}
use Rattle.semantics.specs.declared.mark.Mark.TheVariants.{Zero, One, Dash}
use Rattle.semantics.specs.Net.{TableValue, NetValue, table_at, input_count, signal_count, is_literal}
use Rattle.semantics.specs.Net.{table_literals, constant_table}
use Rattle.semantics.specs.Replaced.{with_table}
use Rattle.chain_semantics.specs.declared.moves.Move.{Move}
use Rattle.chain_semantics.specs.declared.moves.Move.TheVariants.{Const, DropRow, DropLiteral, Signal, Pair}
use Rattle.chain_semantics.specs.declared.moves.TheConstants.{MOST_NEAR_SIGNALS}

-- a path of at most `pins` pins leads from signal s to table t
unfoldable pub depends_within : ℕ → List TableValue → ℕ → ℕ → ℕ → Bool
depends_within n tables t zero s = s == n + t
depends_within n tables t (suc pins) s
    = (s == n + t) || (nat_le n s && list_any (depends_within n tables t pins) (table_at tables (s - n)).pins)

-- whether signal s depends on table t: in acyclic tables no path has more pins than there are tables
abbrev pub depends : ℕ → List TableValue → ℕ → ℕ → Bool
depends n tables t s = depends_within n tables t (length tables) s

-- constant 0 before constant 1, where the table has a literal
abbrev pub constant_moves : ℕ → TableValue → List Move
constant_moves t table = if nat_lt 0 (table_literals table) then Const t false ∷ Const t true ∷ [] else []

-- the rows in order, where there are two or more
abbrev pub row_moves : ℕ → TableValue → List Move
row_moves t table = if nat_lt 1 (length table.rows)
    then map (DropRow t) (range_with_len 0 (length table.rows)) else []

-- the pins at which these marks are literals; the first mark is that of pin p
abbrev pub literal_pins : ℕ → List Mark → List ℕ
literal_pins p [] = []
literal_pins p (m ∷ marks)
    = if is_literal m then p ∷ literal_pins (p + 1) marks else literal_pins (p + 1) marks

-- the literals of these rows in order; the first of them is row r
abbrev pub literal_moves : ℕ → ℕ → List (List Mark) → List Move
literal_moves t r [] = []
literal_moves t r (marks ∷ rows)
    = map (DropLiteral t r) (literal_pins 0 marks) ++ literal_moves t (r + 1) rows

-- the signal itself before its opposite
abbrev pub copies_of : ℕ → ℕ → List Move
copies_of t s = Signal t s false ∷ Signal t s true ∷ []

-- the signals that do not depend on table t
abbrev pub independent_signals : NetValue → ℕ → List ℕ
independent_signals N t = filter (λ s. not (depends (input_count N) N.tables t s))
    (range_with_len 0 (signal_count N))

-- those signals in order, where the table has two literals or more
abbrev pub signal_moves : NetValue → ℕ → TableValue → List Move
signal_moves N t table = if nat_lt 1 (table_literals table)
    then flat_map (copies_of t) (independent_signals N t) else []

-- the moves of a table but those to two signals
abbrev pub old_moves_of_table : NetValue → ℕ → TableValue → List Move
old_moves_of_table N t table
    = constant_moves t table ++ row_moves t table ++ literal_moves t 0 table.rows ++ signal_moves N t table

-- the list of the numbers, each at its first place
abbrev pub each_once : List ℕ → List ℕ
each_once [] = []
each_once (s ∷ signals) = s ∷ filter (λ u. not (u == s)) (each_once signals)

-- the pins of a signal that is a table; an input has none
abbrev pub pins_of : NetValue → ℕ → List ℕ
pins_of N s = if nat_lt s (input_count N) then [] else (table_at N.tables (s - input_count N)).pins

-- the pins of a table, and then, for each pin in order, the pins of the table that this pin is
abbrev pub pins_and_theirs : NetValue → TableValue → List ℕ
pins_and_theirs N table = table.pins ++ flat_map (pins_of N) table.pins

-- the signals of `pins_and_theirs`, each at its first place, and no more than the first `MOST_NEAR_SIGNALS`
unfoldable pub near_signals : NetValue → TableValue → List ℕ
near_signals N table = take MOST_NEAR_SIGNALS (each_once (pins_and_theirs N table))

-- each signal of a list with each later one
abbrev pub pairs_of : List ℕ → List (ℕ × ℕ)
pairs_of [] = []
pairs_of (s ∷ signals) = map (λ u. (s, u)) signals ++ pairs_of signals

abbrev pub plain_and_flipped : List Bool
plain_and_flipped = false ∷ true ∷ []

-- the eight moves to signals s and u: s plain before s flipped; for each of these, u plain before u flipped;
-- and for each of these, the value plain before the value flipped
abbrev pub flips_of : ℕ → ℕ → ℕ → List Move
flips_of t s u = flat_map (λ flip_s. flat_map (λ flip_u. map (Pair t s flip_s u flip_u) plain_and_flipped)
    plain_and_flipped) plain_and_flipped

-- to each two of the near signals, where the table has three literals or more and two pins or more
abbrev pub pair_moves : NetValue → ℕ → TableValue → List Move
pair_moves N t table =
    if nat_lt 2 (table_literals table) && nat_lt 1 (length table.pins)
    then flat_map (λ pair. flips_of t pair.0 pair.1) (pairs_of (near_signals N table)) else []

abbrev pub moves_of_table : NetValue → ℕ → TableValue → List Move
moves_of_table N t table = old_moves_of_table N t table ++ pair_moves N t table

-- the moves that each of these tables offers, in order; the first of them is table t
abbrev pub moves_from : (ℕ → TableValue → List Move) → ℕ → List TableValue → List Move
moves_from offered t [] = []
moves_from offered t (table ∷ tables) = offered t table ++ moves_from offered (t + 1) tables

unfoldable pub moves_of : NetValue → List Move
moves_of N = moves_from (moves_of_table N) 0 N.tables

-- the moves but those to two signals
unfoldable pub old_moves_of : NetValue → List Move
old_moves_of N = moves_from (old_moves_of_table N) 0 N.tables

-- a move that is not to two signals
abbrev pub is_old : Move → Bool
is_old (Const t value) = true
is_old (DropRow t row) = true
is_old (DropLiteral t row pin) = true
is_old (Signal t s flip) = true
is_old (Pair t s flip_s u flip_u flip) = false

-- the table that a move changes
abbrev pub table_of : Move → ℕ
table_of (Const t value) = t
table_of (DropRow t row) = t
table_of (DropLiteral t row pin) = t
table_of (Signal t s flip) = t
table_of (Pair t s flip_s u flip_u flip) = t

abbrev pub row_at : List (List Mark) → ℕ → List Mark
row_at rows r = slice_index_or rows r []

-- the mark that asks for a pin's value as it is, or turned over
abbrev pub copy_mark : Bool → Mark
copy_mark false = One
copy_mark true = Zero

-- what the table becomes; it keeps its name
abbrev pub moved_table : TableValue → Move → TableValue
moved_table table (Const t value) = constant_table table.name value
moved_table table (DropRow t row) = record table { rows = remove table.rows row }
moved_table table (DropLiteral t row pin)
    = record table { rows = slice_set table.rows row (slice_set (row_at table.rows row) pin Dash) }
moved_table table (Signal t s flip)
    = record table { pins = s ∷ []; rows = (copy_mark flip ∷ []) ∷ []; plane = true }
moved_table table (Pair t s flip_s u flip_u flip)
    = record table {
      pins = s ∷ u ∷ [];
      rows = (copy_mark flip_s ∷ copy_mark flip_u ∷ []) ∷ [];
      plane = not flip;
    }

-- the table is replaced, and nothing else changes
abbrev pub moved : NetValue → Move → NetValue
moved N move = with_table N (table_of move) (moved_table (table_at N.tables (table_of move)) move)
