-- The moves of a net stand in order.
use Rattle.std.proofs.Common.{◌≡◌, ◌≢◌, ◌↔◌, ℕ, suc, ◌+◌, ◌<◌, ◌≤◌, Bool, true, false, not, ◌&&◌, ltb, List, [], ◌∷◌, ◌++◌, map, length, get_or, All, refl, ap, sym, subst, ◌∙◌, inl, inr, arith}
use Rattle.std.specs.Prelude.{AllPairs}
use Rattle.std.specs.List.{Contains, flat_map, range_with_len}
use Rattle.std.proofs.lemmas.Bool.{cond_both}
use Rattle.std.proofs.lemmas.List.Elements.{All-nil, All-cons, All-append, All-map, All-weaker}
use Rattle.std.proofs.lemmas.List.Kept.{AllPairs-cons, AllPairs-filter}
use Rattle.semantics.specs.declared.mark.Mark.{Mark}
use Rattle.semantics.specs.Net.{TableValue, NetValue, table_at, input_count, signal_count, is_literal, table_literals, IsAcyclic}
use Rattle.chain_semantics.specs.declared.moves.Move.{Move}
use Rattle.chain_semantics.specs.declared.moves.Move.TheVariants.{Const, DropRow, DropLiteral, Signal, Pair}
use Rattle.chain_semantics.specs.Moves.{depends, constant_moves, row_moves, literal_pins, literal_moves, copies_of, independent_signals, signal_moves, old_moves_of_table, near_signals, pairs_of}
use Rattle.chain_semantics.specs.Moves.{plain_and_flipped, flips_of, pair_moves, moves_of_table, moves_from, moves_of, table_of}
use Rattle.semantics.specs.Error.{bit_number}
use Rattle.chain_semantics.specs.TidyRules.{first_place_of}
use Rattle.chain_semantics.specs.MoveLaws.{IsMoveOf}
use Rattle.chain_semantics.specs.MoveOrder.{kind_number, places_of, IsBefore, ComesBefore}
use Rattle.chain_semantics.proofs.MoveLists.{All-when, All-range, All-flat_map, All-literal_pins, All-literal_moves}
use Rattle.chain_semantics.proofs.MoveMembers.{move_is, moves_hold}
use Rattle.chain_semantics.proofs.OrderedLists.{AllPairs-nil, AllPairs-one, AllPairs-append, AllPairs-when, AllPairs-map, AllPairs-flat_map, AllPairs-range, one_list}
use Rattle.chain_semantics.proofs.NearSignals.{near-once}
use Rattle.chain_semantics.proofs.PairLists.{PairBefore, pairs-in_order, All-flips}

before-asymmetric : (xs ys : List ℕ) → IsBefore xs ys → ¬ IsBefore ys xs
before-asymmetric [] ys h k = h
before-asymmetric (x ∷ xs) [] h k = h
before-asymmetric (x ∷ xs) (y ∷ ys) (inl h) (inl k) = omega (arith, h, k)
before-asymmetric (x ∷ xs) (y ∷ ys) (inl h) (inr (same, k)) = omega (arith, h, same)
before-asymmetric (x ∷ xs) (y ∷ ys) (inr (same, h)) (inl k) = omega (arith, k, same)
before-asymmetric (x ∷ xs) (y ∷ ys) (inr (same, h)) (inr (other, k)) = before-asymmetric xs ys h k

module _ (N : NetValue) where
  abbrev Before : Move → Move → Type 0
  Before = ComesBefore N

  comes-asymmetric : (a b : Move) → Before a b → ¬ Before b a
  comes-asymmetric a b h k = before-asymmetric (table_of a ∷ kind_number a ∷ places_of N a) (table_of b ∷ kind_number b ∷ places_of N b) h k

  -- moves of one table and one kind
  abbrev pub IsOf : ℕ → ℕ → Move → Type 0
  IsOf t kind m = (table_of m ≡ t) × (kind_number m ≡ kind)

  by_kind : (t k l : ℕ) (a b : Move) → k < l → IsOf t k a → IsOf t l b → Before a b
  by_kind t k l a b less of_a of_b = inr (of_a.0 ∙ sym of_b.0, inl (omega (arith, less, of_a.1, of_b.1)))

  kinds_apart : (t k l : ℕ) (xs ys : List Move) → k < l → All (IsOf t k) xs → All (IsOf t l) ys → All (λ a. All (Before a) ys) xs
  kinds_apart t k l xs ys less of_xs of_ys i d low =
      All-weaker (IsOf t l) (Before (get_or xs i d)) (λ b of_b. by_kind t k l (get_or xs i d) b less (of_xs i d low) of_b) ys of_ys

  -- ---- the five kinds

  pub constants_of : (t : ℕ) (table : TableValue) → All (IsOf t 0) (constant_moves t table)
  constants_of t table =
      All-when (IsOf t 0) (ltb 0 (table_literals table)) (Const t false ∷ Const t true ∷ [])
      (λ e. All-cons (IsOf t 0) (Const t false) (Const t true ∷ []) (refl, refl) (All-cons (IsOf t 0) (Const t true) [] (refl, refl) (All-nil (IsOf t 0))))

  constants_in_order : (t : ℕ) (table : TableValue) → AllPairs Before (constant_moves t table)
  constants_in_order t table =
      AllPairs-when Before (ltb 0 (table_literals table)) (Const t false ∷ Const t true ∷ [])
      (AllPairs-cons Before (Const t false) (Const t true ∷ [])
      (All-cons (Before (Const t false)) (Const t true) [] (inr (refl, inr (refl, inl (omega arith)))) (All-nil (Before (Const t false))))
      (AllPairs-one Before (Const t true)))

  pub rows_of : (t : ℕ) (table : TableValue) → All (IsOf t 1) (row_moves t table)
  rows_of t table =
      All-when (IsOf t 1) (ltb 1 (length table.rows)) (map (DropRow t) (range_with_len 0 (length table.rows)))
      (λ e. All-map (IsOf t 1) (DropRow t) (range_with_len 0 (length table.rows)) (All-range (λ r. IsOf t 1 (DropRow t r)) 0 (length table.rows) (λ r low. (refl, refl))))

  rows_in_order : (t : ℕ) (table : TableValue) → AllPairs Before (row_moves t table)
  rows_in_order t table =
      AllPairs-when Before (ltb 1 (length table.rows)) (map (DropRow t) (range_with_len 0 (length table.rows)))
      (AllPairs-map ◌<◌ Before (DropRow t) (λ a b less. inr (refl, inr (refl, inl less))) (range_with_len 0 (length table.rows)) (AllPairs-range 0 (length table.rows)))

  pub literals_of : (t r : ℕ) (rows : List (List Mark)) → All (IsOf t 2) (literal_moves t r rows)
  literals_of t r rows = All-literal_moves (IsOf t 2) t r rows (λ i k low literal. (refl, refl))

  pins_in_order : (p : ℕ) (marks : List Mark) → AllPairs ◌<◌ (literal_pins p marks)
  pins_in_order p [] = AllPairs-nil ◌<◌
  pins_in_order p (m ∷ marks) =
      let rest : AllPairs ◌<◌ (literal_pins (p + 1) marks) = pins_in_order (p + 1) marks in
      cond_both (is_literal m) (p ∷ literal_pins (p + 1) marks) (literal_pins (p + 1) marks) (AllPairs ◌<◌)
      (λ literal. AllPairs-cons ◌<◌ p (literal_pins (p + 1) marks) (All-literal_pins (◌<◌ p) (p + 1) marks (λ k is. omega arith)) rest)
      (λ dash. rest)

  literals_in_order : (t r : ℕ) (rows : List (List Mark)) → AllPairs Before (literal_moves t r rows)
  literals_in_order t r [] = AllPairs-nil Before
  literals_in_order t r (marks ∷ rows) =
      AllPairs-append Before (map (DropLiteral t r) (literal_pins 0 marks)) (literal_moves t (r + 1) rows)
      (AllPairs-map ◌<◌ Before (DropLiteral t r) (λ a b less. inr (refl, inr (refl, inr (refl, inl less)))) (literal_pins 0 marks) (pins_in_order 0 marks))
      (literals_in_order t (r + 1) rows)
      (All-map (λ a. All (Before a) (literal_moves t (r + 1) rows)) (DropLiteral t r) (literal_pins 0 marks)
      (λ i d low. All-literal_moves (Before (DropLiteral t r (get_or (literal_pins 0 marks) i d))) t (r + 1) rows
      (λ k pin within literal. inr (refl, inr (refl, inl (omega arith))))))

  pub signals_of : (t : ℕ) (table : TableValue) → All (IsOf t 3) (signal_moves N t table)
  signals_of t table =
      All-when (IsOf t 3) (ltb 1 (table_literals table)) (flat_map (copies_of t) (independent_signals N t))
      (λ e. All-flat_map (IsOf t 3) (copies_of t) (independent_signals N t)
      (λ i d low. All-cons (IsOf t 3) (Signal t (get_or (independent_signals N t) i d) false) (Signal t (get_or (independent_signals N t) i d) true ∷ []) (refl, refl)
      (All-cons (IsOf t 3) (Signal t (get_or (independent_signals N t) i d) true) [] (refl, refl) (All-nil (IsOf t 3)))))

  copies_in_order : (t s : ℕ) → AllPairs Before (copies_of t s)
  copies_in_order t s =
      AllPairs-cons Before (Signal t s false) (Signal t s true ∷ [])
      (All-cons (Before (Signal t s false)) (Signal t s true) [] (inr (refl, inr (refl, inr (refl, inl (omega arith))))) (All-nil (Before (Signal t s false))))
      (AllPairs-one Before (Signal t s true))

  -- the copies of a later signal come after both of an earlier one
  copies_after : (t r s : ℕ) (flip : Bool) → r < s → All (Before (Signal t r flip)) (copies_of t s)
  copies_after t r s flip less =
      let R : Move → Type 0 = Before (Signal t r flip) in
      All-cons R (Signal t s false) (Signal t s true ∷ []) (inr (refl, inr (refl, inl less)))
      (All-cons R (Signal t s true) [] (inr (refl, inr (refl, inl less))) (All-nil R))

  copies_apart : (t r s : ℕ) → r < s → All (λ a. All (Before a) (copies_of t s)) (copies_of t r)
  copies_apart t r s less =
      let P : Move → Type 0 = λ a. All (Before a) (copies_of t s) in
      All-cons P (Signal t r false) (Signal t r true ∷ []) (copies_after t r s false less)
      (All-cons P (Signal t r true) [] (copies_after t r s true less) (All-nil P))

  signals_in_order : (t : ℕ) (table : TableValue) → AllPairs Before (signal_moves N t table)
  signals_in_order t table =
      AllPairs-when Before (ltb 1 (table_literals table)) (flat_map (copies_of t) (independent_signals N t))
      (AllPairs-flat_map ◌<◌ Before (copies_of t) (copies_in_order t) (copies_apart t) (independent_signals N t)
      (AllPairs-filter ◌<◌ (λ s. not (depends (input_count N) N.tables t s)) (range_with_len 0 (signal_count N)) (AllPairs-range 0 (signal_count N))))

  pub pairs_of_kind : (t : ℕ) (table : TableValue) → All (IsOf t 4) (pair_moves N t table)
  pairs_of_kind t table =
      let near : List ℕ = near_signals N table in
      All-when (IsOf t 4) (ltb 2 (table_literals table) && ltb 1 (length table.pins)) (flat_map (λ (p : ℕ × ℕ). flips_of t p.0 p.1) (pairs_of near))
      (λ e. All-flat_map (IsOf t 4) (λ (p : ℕ × ℕ). flips_of t p.0 p.1) (pairs_of near)
      (λ i d low. All-flips (IsOf t 4) t (get_or (pairs_of near) i d).0 (get_or (pairs_of near) i d).1 (λ a b c. (refl, refl))))

  abbrev ByBit : Bool → Bool → Type 0
  ByBit a b = bit_number a < bit_number b

  both_in_order : AllPairs ByBit plain_and_flipped
  both_in_order =
      AllPairs-cons ByBit false (true ∷ []) (All-cons (ByBit false) true [] (omega arith) (All-nil (ByBit false))) (AllPairs-one ByBit true)

  -- the moves of a pair with the first signal plain, or turned over; and of these those with the second one so
  abbrev with_both : ℕ → ℕ → ℕ → Bool → Bool → List Move
  with_both t s u a b = map (Pair t s a u b) plain_and_flipped

  abbrev with_one : ℕ → ℕ → ℕ → Bool → List Move
  with_one t s u a = flat_map (with_both t s u a) plain_and_flipped

  both_before : (t s u : ℕ) (a b c : Bool) → ByBit b c → All (λ m. All (Before m) (with_both t s u a c)) (with_both t s u a b)
  both_before t s u a b c less =
      All-map (λ m. All (Before m) (with_both t s u a c)) (Pair t s a u b) plain_and_flipped
      (λ i d low. All-map (Before (Pair t s a u b (get_or plain_and_flipped i d))) (Pair t s a u c) plain_and_flipped
      (λ j e within. inr (refl, inr (refl, inr (refl, inr (refl, inr (refl, inl less)))))))

  All-one : (P : Move → Type 0) (t s u : ℕ) (a : Bool) → ((b c : Bool) → P (Pair t s a u b c)) → All P (with_one t s u a)
  All-one P t s u a f =
      All-flat_map P (with_both t s u a) plain_and_flipped
      (λ i d low. All-map P (Pair t s a u (get_or plain_and_flipped i d)) plain_and_flipped
      (λ j e within. f (get_or plain_and_flipped i d) (get_or plain_and_flipped j e)))

  one_before : (t s u : ℕ) (a b : Bool) → ByBit a b → All (λ m. All (Before m) (with_one t s u b)) (with_one t s u a)
  one_before t s u a b less =
      All-one (λ m. All (Before m) (with_one t s u b)) t s u a
      (λ c d. All-one (Before (Pair t s a u c d)) t s u b (λ e f. inr (refl, inr (refl, inr (refl, inr (refl, inl less))))))

  flips_in_order : (t s u : ℕ) → AllPairs Before (flips_of t s u)
  flips_in_order t s u =
      AllPairs-flat_map ByBit Before (with_one t s u)
      (λ a. AllPairs-flat_map ByBit Before (with_both t s u a)
      (λ b. AllPairs-map ByBit Before (Pair t s a u b) (λ c d less. inr (refl, inr (refl, inr (refl, inr (refl, inr (refl, inr (refl, inl less))))))) plain_and_flipped both_in_order)
      (both_before t s u a) plain_and_flipped both_in_order)
      (one_before t s u) plain_and_flipped both_in_order

  flips_before : (t : ℕ) (p q : ℕ × ℕ) → PairBefore (first_place_of (near_signals N (table_at N.tables t))) p q
      → All (λ m. All (Before m) (flips_of t q.0 q.1)) (flips_of t p.0 p.1)
  flips_before t p q less =
      All-flips (λ m. All (Before m) (flips_of t q.0 q.1)) t p.0 p.1
      (λ a b c. All-flips (Before (Pair t p.0 a p.1 b c)) t q.0 q.1
      (λ d e f. elim less [
        | inl first ↦ inr (refl, inr (refl, inl first))
        | inr second ↦ inr (refl, inr (refl, inr (second.0, inl second.1)))
      ]))

  pairs_in_order : (t : ℕ) → AllPairs Before (pair_moves N t (table_at N.tables t))
  pairs_in_order t =
      let table : TableValue = table_at N.tables t in
      let near : List ℕ = near_signals N table in
      AllPairs-when Before (ltb 2 (table_literals table) && ltb 1 (length table.pins)) (flat_map (λ (p : ℕ × ℕ). flips_of t p.0 p.1) (pairs_of near))
      (AllPairs-flat_map (PairBefore (first_place_of near)) Before (λ (p : ℕ × ℕ). flips_of t p.0 p.1) (λ p. flips_in_order t p.0 p.1) (flips_before t) (pairs_of near)
      (pairs-in_order near (near-once N table)))

  -- ---- the kinds of a table, and the tables

  old_in_order : (t : ℕ) (table : TableValue) → AllPairs Before (old_moves_of_table N t table)
  old_in_order t table =
      let c : List Move = constant_moves t table in
      let r : List Move = row_moves t table in
      let l : List Move = literal_moves t 0 table.rows in
      let s : List Move = signal_moves N t table in
      let P : Move → Type 0 = λ a. All (Before a) s in
      let Q : Move → Type 0 = λ a. All (Before a) l in
      AllPairs-append Before ((c ++ r) ++ l) s
      (AllPairs-append Before (c ++ r) l
      (AllPairs-append Before c r (constants_in_order t table) (rows_in_order t table) (kinds_apart t 0 1 c r (omega arith) (constants_of t table) (rows_of t table)))
      (literals_in_order t 0 table.rows)
      (All-append Q c r (kinds_apart t 0 2 c l (omega arith) (constants_of t table) (literals_of t 0 table.rows)) (kinds_apart t 1 2 r l (omega arith) (rows_of t table) (literals_of t 0 table.rows))))
      (signals_in_order t table)
      (All-append P (c ++ r) l
      (All-append P c r (kinds_apart t 0 3 c s (omega arith) (constants_of t table) (signals_of t table)) (kinds_apart t 1 3 r s (omega arith) (rows_of t table) (signals_of t table)))
      (kinds_apart t 2 3 l s (omega arith) (literals_of t 0 table.rows) (signals_of t table)))

  -- what holds of the moves of each kind holds of all moves of a table
  pub old_kinds : (P : Move → Type 0) (t : ℕ) (table : TableValue) → ((k : ℕ) (m : Move) → k < 4 → IsOf t k m → P m) → All P (old_moves_of_table N t table)
  old_kinds P t table f =
      let c : List Move = constant_moves t table in
      let r : List Move = row_moves t table in
      let l : List Move = literal_moves t 0 table.rows in
      let s : List Move = signal_moves N t table in
      let all : (k : ℕ) (xs : List Move) → k < 4 → All (IsOf t k) xs → All P xs = λ k xs low. All-weaker (IsOf t k) P (λ m. f k m low) xs in
      All-append P ((c ++ r) ++ l) s
      (All-append P (c ++ r) l (All-append P c r (all 0 c (omega arith) (constants_of t table)) (all 1 r (omega arith) (rows_of t table)))
      (all 2 l (omega arith) (literals_of t 0 table.rows)))
      (all 3 s (omega arith) (signals_of t table))

  table_in_order : (t : ℕ) → AllPairs Before (moves_of_table N t (table_at N.tables t))
  table_in_order t =
      let table : TableValue = table_at N.tables t in
      let pairs : List Move = pair_moves N t table in
      AllPairs-append Before (old_moves_of_table N t table) pairs (old_in_order t table) (pairs_in_order t)
      (old_kinds (λ a. All (Before a) pairs) t table
      (λ k a low of_a. All-weaker (IsOf t 4) (Before a) (λ b of_b. by_kind t k 4 a b low of_a of_b) pairs (pairs_of_kind t table)))

  abbrev IsAt : ℕ → Move → Type 0
  IsAt t m = table_of m ≡ t

  table_of-are : (t : ℕ) (table : TableValue) → All (IsAt t) (moves_of_table N t table)
  table_of-are t table =
      All-append (IsAt t) (old_moves_of_table N t table) (pair_moves N t table) (old_kinds (IsAt t) t table (λ k m low h. h.0))
      (All-weaker (IsOf t 4) (IsAt t) (λ m h. h.0) (pair_moves N t table) (pairs_of_kind t table))

  abbrev IsFrom : ℕ → Move → Type 0
  IsFrom t m = t ≤ table_of m

  from-are : (t : ℕ) (tables : List TableValue) → All (IsFrom t) (moves_from (moves_of_table N) t tables)
  from-are t [] = All-nil (IsFrom t)
  from-are t (table ∷ tables) =
      All-append (IsFrom t) (moves_of_table N t table) (moves_from (moves_of_table N) (t + 1) tables)
      (All-weaker (IsAt t) (IsFrom t) (λ m h. omega (arith, h)) (moves_of_table N t table) (table_of-are t table))
      (All-weaker (IsFrom (t + 1)) (IsFrom t) (λ m h. omega (arith, h)) (moves_from (moves_of_table N) (t + 1) tables) (from-are (t + 1) tables))

  -- of tables that stand in the net from table t on
  from_in_order : (t : ℕ) (tables : List TableValue) → ((i : ℕ) → i < length tables → table_at tables i ≡ table_at N.tables (t + i)) → AllPairs Before (moves_from (moves_of_table N) t tables)
  from_in_order t [] same = AllPairs-nil Before
  from_in_order t (table ∷ tables) same =
      let place : t + 0 ≡ t = omega arith in
      let is : table ≡ table_at N.tables t = subst (λ i. table ≡ table_at N.tables i) place (same 0 (omega arith)) in
      AllPairs-append Before (moves_of_table N t table) (moves_from (moves_of_table N) (t + 1) tables)
      (subst (λ u. AllPairs Before (moves_of_table N t u)) (sym is) (table_in_order t))
      (from_in_order (t + 1) tables
      (λ i low. let next : t + suc i ≡ (t + 1) + i = omega arith in subst (λ j. table_at tables i ≡ table_at N.tables j) next (same (suc i) (omega arith))))
      (λ i d low. All-weaker (IsFrom (t + 1)) (Before (get_or (moves_of_table N t table) i d))
      (λ m h. inl (omega (arith, table_of-are t table i d low, h))) (moves_from (moves_of_table N) (t + 1) tables) (from-are (t + 1) tables))

  pub moves_in_order : AllPairs Before (moves_of N)
  unfolding moves_of
  moves_in_order = from_in_order 0 N.tables (λ i low. let same : i ≡ 0 + i = omega arith in ap (table_at N.tables) same)

  pub moves_once : AllPairs ◌≢◌ (moves_of N)
  moves_once i j d before low same =
      let first : Move = get_or (moves_of N) i d in
      let second : Move = get_or (moves_of N) j d in
      let order : Before first second = moves_in_order i j d before low in
      let itself : Before first first = subst (Before first) (sym same) order in
      comes-asymmetric first first itself itself

  pub moves_only : (moves : List Move) → IsAcyclic (input_count N) N.tables → AllPairs Before moves
      → ((move : Move) → Contains moves move ↔ IsMoveOf N move) → moves ≡ moves_of N
  moves_only moves acyclic order members =
      one_list Before comes-asymmetric moves (moves_of N) order moves_in_order
      (λ m. (λ c. moves_hold N acyclic m ((members m).0 c), λ c. (members m).1 (move_is N acyclic m c)))
