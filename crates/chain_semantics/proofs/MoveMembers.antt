-- The moves of a net are those whose condition holds.
use Rattle.std.proofs.Common.{◌≡◌, ℕ, zero, suc, ◌+◌, ◌<◌, Bool, true, false, not, ◌&&◌, ltb, List, [], ◌∷◌, ◌++◌, map, length, All, sym, subst, refl, arith}
use Rattle.std.specs.List.{Contains, flat_map, range_with_len}
use Rattle.std.proofs.lemmas.Bool.{ltb-true, lt-ltb, and_parts, and_from, not-true, not_from_false, false_from_ne_true}
use Rattle.std.proofs.lemmas.List.Elements.{All-nil, All-cons, All-append, All-map, All-weaker, All-contains, Contains-append_left, Contains-append_right}
use Rattle.semantics.specs.Net.{TableValue, NetValue, table_at, input_count, table_count, signal_count, table_literals, IsAcyclic}
use Rattle.semantics.specs.Dependence.{DependsOn}
use Rattle.chain_semantics.specs.declared.moves.Move.{Move}
use Rattle.chain_semantics.specs.declared.moves.Move.TheVariants.{Const, DropRow, DropLiteral, Signal, Pair}
use Rattle.chain_semantics.specs.Moves.{depends, constant_moves, row_moves, literal_moves, copies_of, independent_signals, signal_moves, old_moves_of_table, near_signals, pairs_of, flips_of}
use Rattle.chain_semantics.specs.Moves.{pair_moves, moves_of_table, moves_from, moves_of}
use Rattle.chain_semantics.specs.MoveLaws.{AreInOrder, IsMoveOf}
use Rattle.chain_semantics.proofs.MoveDependence.{depends-path}
use Rattle.chain_semantics.proofs.MoveLists.{All-when, All-range, All-filtered, All-flat_map, All-literal_moves, Contains-when, Contains-here, Contains-later, Contains-range, Contains-map}
use Rattle.chain_semantics.proofs.MoveLists.{Contains-filter, Contains-flat_map, Contains-literal_moves}
use Rattle.chain_semantics.proofs.PairLists.{All-pairs, Contains-pairs, in_order-itself, All-flips, Contains-flips}

module _ (N : NetValue) (acyclic : IsAcyclic (input_count N) N.tables) where
  is_free : ℕ → ℕ → Bool
  is_free t s = not (depends (input_count N) N.tables t s)

  signals_are_moves : (t : ℕ) → t < table_count N → 1 < table_literals (table_at N.tables t) → All (IsMoveOf N) (flat_map (copies_of t) (independent_signals N t))
  unfolding is_free
  signals_are_moves t within some =
      All-flat_map (IsMoveOf N) (copies_of t) (independent_signals N t)
      (All-filtered (λ s. All (IsMoveOf N) (copies_of t s)) (is_free t) (range_with_len 0 (signal_count N))
      (All-range (λ s. is_free t s ≡ true → All (IsMoveOf N) (copies_of t s)) 0 (signal_count N)
      (λ s low free.
      let signal : s < signal_count N = omega arith in
      let apart : ¬ DependsOn (input_count N) N.tables t s =
      λ path. (let is : depends (input_count N) N.tables t s ≡ true = (depends-path (input_count N) N.tables t s acyclic signal).1 path in
      let none : depends (input_count N) N.tables t s ≡ false = not-true (depends (input_count N) N.tables t s) free in cc) in
      All-cons (IsMoveOf N) (Signal t s false) (Signal t s true ∷ []) (within, some, signal, apart)
      (All-cons (IsMoveOf N) (Signal t s true) [] (within, some, signal, apart) (All-nil (IsMoveOf N))))))

  pairs_are_moves : (t : ℕ) → t < table_count N → 2 < table_literals (table_at N.tables t) → 1 < length (table_at N.tables t).pins
      → All (IsMoveOf N) (flat_map (λ (p : ℕ × ℕ). flips_of t p.0 p.1) (pairs_of (near_signals N (table_at N.tables t))))
  pairs_are_moves t within some two =
      let near : List ℕ = near_signals N (table_at N.tables t) in
      All-flat_map (IsMoveOf N) (λ (p : ℕ × ℕ). flips_of t p.0 p.1) (pairs_of near)
      (All-weaker (λ (p : ℕ × ℕ). AreInOrder near p.0 p.1) (λ (p : ℕ × ℕ). All (IsMoveOf N) (flips_of t p.0 p.1))
      (λ p order. All-flips (IsMoveOf N) t p.0 p.1 (λ a b c. (within, some, two, order))) (pairs_of near)
      (All-pairs (AreInOrder near) near (in_order-itself near)))

  old_moves_are : (t : ℕ) → t < table_count N → All (IsMoveOf N) (old_moves_of_table N t (table_at N.tables t))
  old_moves_are t within =
      let table : TableValue = table_at N.tables t in
      let constants : All (IsMoveOf N) (constant_moves t table) =
      All-when (IsMoveOf N) (ltb 0 (table_literals table)) (Const t false ∷ Const t true ∷ [])
      (λ e. let some : 0 < table_literals table = ltb-true 0 (table_literals table) e in
      All-cons (IsMoveOf N) (Const t false) (Const t true ∷ []) (within, some) (All-cons (IsMoveOf N) (Const t true) [] (within, some) (All-nil (IsMoveOf N)))) in
      let rows : All (IsMoveOf N) (row_moves t table) =
      All-when (IsMoveOf N) (ltb 1 (length table.rows)) (map (DropRow t) (range_with_len 0 (length table.rows)))
      (λ e. All-map (IsMoveOf N) (DropRow t) (range_with_len 0 (length table.rows))
      (All-range (λ r. IsMoveOf N (DropRow t r)) 0 (length table.rows) (λ r low. (within, ltb-true 1 (length table.rows) e, omega arith)))) in
      let literals : All (IsMoveOf N) (literal_moves t 0 table.rows) =
      All-literal_moves (IsMoveOf N) t 0 table.rows
      (λ i k low literal. let place : i ≡ 0 + i = omega arith in subst (λ r. IsMoveOf N (DropLiteral t r k)) place (within, low, literal)) in
      let signals : All (IsMoveOf N) (signal_moves N t table) =
      All-when (IsMoveOf N) (ltb 1 (table_literals table)) (flat_map (copies_of t) (independent_signals N t))
      (λ e. signals_are_moves t within (ltb-true 1 (table_literals table) e)) in
      All-append (IsMoveOf N) ((constant_moves t table ++ row_moves t table) ++ literal_moves t 0 table.rows) (signal_moves N t table)
      (All-append (IsMoveOf N) (constant_moves t table ++ row_moves t table) (literal_moves t 0 table.rows)
      (All-append (IsMoveOf N) (constant_moves t table) (row_moves t table) constants rows) literals) signals

  table_moves_are : (t : ℕ) → t < table_count N → All (IsMoveOf N) (moves_of_table N t (table_at N.tables t))
  table_moves_are t within =
      let table : TableValue = table_at N.tables t in
      let three : Bool = ltb 2 (table_literals table) in
      let two : Bool = ltb 1 (length table.pins) in
      All-append (IsMoveOf N) (old_moves_of_table N t table) (pair_moves N t table) (old_moves_are t within)
      (All-when (IsMoveOf N) (three && two) (flat_map (λ (p : ℕ × ℕ). flips_of t p.0 p.1) (pairs_of (near_signals N table)))
      (λ e. let parts = and_parts three two e in pairs_are_moves t within (ltb-true 2 (table_literals table) parts.0) (ltb-true 1 (length table.pins) parts.1)))

  -- of tables that stand in the net from table t on
  moves_from_are : (t : ℕ) (tables : List TableValue) → ((i : ℕ) → i < length tables → (t + i < table_count N) × (table_at tables i ≡ table_at N.tables (t + i)))
      → All (IsMoveOf N) (moves_from (moves_of_table N) t tables)
  moves_from_are t [] h = All-nil (IsMoveOf N)
  moves_from_are t (table ∷ tables) h =
      let here = h 0 (omega arith) in
      let place : t + 0 ≡ t = omega arith in
      let is : table ≡ table_at N.tables t = subst (λ i. table ≡ table_at N.tables i) place here.1 in
      All-append (IsMoveOf N) (moves_of_table N t table) (moves_from (moves_of_table N) (t + 1) tables)
      (subst (λ u. All (IsMoveOf N) (moves_of_table N t u)) (sym is) (table_moves_are t (omega (arith, here.0))))
      (moves_from_are (t + 1) tables
      (λ i low.
      let later = h (suc i) (omega arith) in
      let next : t + suc i ≡ (t + 1) + i = omega arith in
      (omega (arith, later.0), subst (λ j. table_at tables i ≡ table_at N.tables j) next later.1)))

  pub moves_are : All (IsMoveOf N) (moves_of N)
  unfolding moves_of
  moves_are = moves_from_are 0 N.tables (λ i low. let same : i ≡ 0 + i = omega arith in (omega arith, subst (λ j. table_at N.tables i ≡ table_at N.tables j) same refl))

  -- a move of one of the five kinds is one of the table's
  in_constants : (t : ℕ) (table : TableValue) (m : Move) → Contains (constant_moves t table) m → Contains (old_moves_of_table N t table) m
  in_constants t table m c =
      Contains-append_left ((constant_moves t table ++ row_moves t table) ++ literal_moves t 0 table.rows) (signal_moves N t table) m
      (Contains-append_left (constant_moves t table ++ row_moves t table) (literal_moves t 0 table.rows) m
      (Contains-append_left (constant_moves t table) (row_moves t table) m c))

  in_rows : (t : ℕ) (table : TableValue) (m : Move) → Contains (row_moves t table) m → Contains (old_moves_of_table N t table) m
  in_rows t table m c =
      Contains-append_left ((constant_moves t table ++ row_moves t table) ++ literal_moves t 0 table.rows) (signal_moves N t table) m
      (Contains-append_left (constant_moves t table ++ row_moves t table) (literal_moves t 0 table.rows) m
      (Contains-append_right (constant_moves t table) (row_moves t table) m c))

  in_literals : (t : ℕ) (table : TableValue) (m : Move) → Contains (literal_moves t 0 table.rows) m → Contains (old_moves_of_table N t table) m
  in_literals t table m c =
      Contains-append_left ((constant_moves t table ++ row_moves t table) ++ literal_moves t 0 table.rows) (signal_moves N t table) m
      (Contains-append_right (constant_moves t table ++ row_moves t table) (literal_moves t 0 table.rows) m c)

  in_signals : (t : ℕ) (table : TableValue) (m : Move) → Contains (signal_moves N t table) m → Contains (old_moves_of_table N t table) m
  in_signals t table m c =
      Contains-append_right ((constant_moves t table ++ row_moves t table) ++ literal_moves t 0 table.rows) (signal_moves N t table) m c

  in_old : (t : ℕ) (table : TableValue) (m : Move) → Contains (old_moves_of_table N t table) m → Contains (moves_of_table N t table) m
  in_old t table m c = Contains-append_left (old_moves_of_table N t table) (pair_moves N t table) m c

  in_pairs : (t : ℕ) (table : TableValue) (m : Move) → Contains (pair_moves N t table) m → Contains (moves_of_table N t table) m
  in_pairs t table m c = Contains-append_right (old_moves_of_table N t table) (pair_moves N t table) m c

  in_both : (t : ℕ) (value : Bool) → Contains (Const t false ∷ Const t true ∷ []) (Const t value)
  in_both t false = Contains-here (Const t false) (Const t true ∷ [])
  in_both t true = Contains-later (Const t false) (Const t true ∷ []) (Const t true) (Contains-here (Const t true) [])

  in_copies : (t s : ℕ) (flip : Bool) → Contains (copies_of t s) (Signal t s flip)
  in_copies t s false = Contains-here (Signal t s false) (Signal t s true ∷ [])
  in_copies t s true = Contains-later (Signal t s false) (Signal t s true ∷ []) (Signal t s true) (Contains-here (Signal t s true) [])

  independent : (t s : ℕ) → s < signal_count N → ¬ DependsOn (input_count N) N.tables t s → Contains (independent_signals N t) s
  unfolding is_free
  independent t s within apart =
      let none : depends (input_count N) N.tables t s ≡ false =
      false_from_ne_true (depends (input_count N) N.tables t s) (λ e. apart ((depends-path (input_count N) N.tables t s acyclic within).0 e)) in
      Contains-filter (is_free t) (range_with_len 0 (signal_count N)) s (not_from_false (depends (input_count N) N.tables t s) none)
      (Contains-range 0 (signal_count N) s (omega arith) (omega arith))

  in_table : (m : Move) → IsMoveOf N m → (t : ℕ) × (t < table_count N) × Contains (moves_of_table N t (table_at N.tables t)) m
  in_table (Const t value) h =
      let table : TableValue = table_at N.tables t in (
        t,
        h.0,
        in_old t table (Const t value) (in_constants t table (Const t value)
            (Contains-when (ltb 0 (table_literals table)) (Const t false ∷ Const t true ∷ []) (Const t value) (lt-ltb 0 (table_literals table) h.1) (in_both t value))),
      )
  in_table (DropRow t row) h =
      let table : TableValue = table_at N.tables t in
      let all : List ℕ = range_with_len 0 (length table.rows) in (
        t,
        h.0,
        in_old t table (DropRow t row) (in_rows t table (DropRow t row)
            (Contains-when (ltb 1 (length table.rows)) (map (DropRow t) all) (DropRow t row) (lt-ltb 1 (length table.rows) h.1)
            (Contains-map (DropRow t) all row (Contains-range 0 (length table.rows) row (omega arith) (omega (arith, h.2)))))),
      )
  in_table (DropLiteral t row pin) h =
      let table : TableValue = table_at N.tables t in
      let place : 0 + row ≡ row = omega arith in (
        t,
        h.0,
        in_old t table (DropLiteral t row pin) (in_literals t table (DropLiteral t row pin)
            (subst (λ r. Contains (literal_moves t 0 table.rows) (DropLiteral t r pin)) place (Contains-literal_moves t 0 table.rows row pin h.1 h.2))),
      )
  in_table (Signal t s flip) h =
      let table : TableValue = table_at N.tables t in (
        t,
        h.0,
        in_old t table (Signal t s flip) (in_signals t table (Signal t s flip)
            (Contains-when (ltb 1 (table_literals table)) (flat_map (copies_of t) (independent_signals N t)) (Signal t s flip) (lt-ltb 1 (table_literals table) h.1)
            (Contains-flat_map (copies_of t) (independent_signals N t) s (Signal t s flip) (independent t s h.2 h.3) (in_copies t s flip)))),
      )
  in_table (Pair t s flip_s u flip_u flip) h =
      let table : TableValue = table_at N.tables t in
      let three : Bool = ltb 2 (table_literals table) in
      let two : Bool = ltb 1 (length table.pins) in
      let near : List ℕ = near_signals N table in
      let m : Move = Pair t s flip_s u flip_u flip in (
        t,
        h.0,
        in_pairs t table m
            (Contains-when (three && two) (flat_map (λ (p : ℕ × ℕ). flips_of t p.0 p.1) (pairs_of near)) m
            (and_from three two (lt-ltb 2 (table_literals table) h.1) (lt-ltb 1 (length table.pins) h.2))
            (Contains-flat_map (λ (p : ℕ × ℕ). flips_of t p.0 p.1) (pairs_of near) (s, u) m
            (Contains-pairs near s u h.3.first h.3.second h.3.order h.3.within h.3.is_first h.3.is_second) (Contains-flips t s u flip_s flip_u flip))),
      )

  in_tables : (t : ℕ) (tables : List TableValue) (i : ℕ) (m : Move) → i < length tables → Contains (moves_of_table N (t + i) (table_at tables i)) m
      → Contains (moves_from (moves_of_table N) t tables) m
  in_tables t [] i m low c = absurd (omega arith)
  in_tables t (table ∷ tables) zero m low c =
      let place : t + 0 ≡ t = omega arith in
      Contains-append_left (moves_of_table N t table) (moves_from (moves_of_table N) (t + 1) tables) m (subst (λ j. Contains (moves_of_table N j table) m) place c)
  in_tables t (table ∷ tables) (suc i) m low c =
      let place : t + suc i ≡ (t + 1) + i = omega arith in
      Contains-append_right (moves_of_table N t table) (moves_from (moves_of_table N) (t + 1) tables) m
      (in_tables (t + 1) tables i m (omega arith) (subst (λ j. Contains (moves_of_table N j (table_at tables i)) m) place c))

  pub moves_hold : (m : Move) → IsMoveOf N m → Contains (moves_of N) m
  unfolding moves_of
  moves_hold m h =
      let at = in_table m h in
      let place : at.0 ≡ 0 + at.0 = omega arith in
      in_tables 0 N.tables at.0 m at.1 (subst (λ j. Contains (moves_of_table N j (table_at N.tables at.0)) m) place at.2)

  pub move_is : (m : Move) → Contains (moves_of N) m → IsMoveOf N m
  move_is m c = All-contains (IsMoveOf N) (moves_of N) m moves_are c
