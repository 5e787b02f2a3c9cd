-- The lists of moves that are left, one move on and at their ends.
use Rattle.std.proofs.Common.{◌≡◌, ◌↔◌, ℕ, suc, ◌+◌, ◌-◌, ◌<◌, ◌≤◌, Bool, true, false, not, cond, List, [], ◌∷◌, ◌++◌, map, length, get_or, drop, IsTrue, refl, ap, sym, ◌∙◌, arith}
use Rattle.std.specs.List.{filter, flat_map, range_with_len}
use Rattle.std.proofs.lemmas.Bool.{cond-true, cond-false}
use Rattle.std.proofs.lemmas.Bool.Decides.{same_from_decides}
use Rattle.std.proofs.lemmas.List.{drop_more, drop_all}
use Rattle.semantics.specs.declared.mark.Mark.{Mark}
use Rattle.semantics.specs.Net.{TableValue, NetValue, no_table, table_at, input_count, table_count, signal_count, is_literal, IsAcyclic}
use Rattle.semantics.specs.Dependence.{DependsOn}
use Rattle.chain_semantics.specs.declared.moves.Move.{Move}
use Rattle.chain_semantics.specs.declared.moves.Move.TheVariants.{DropRow, DropLiteral, Signal}
use Rattle.chain_semantics.specs.Moves.{depends, literal_pins, literal_moves, copies_of, independent_signals, moves_from}
use Rattle.chain_semantics.proofs.MoveDependence.{depends-path}
use Rattle.net_moves.specs.Left.{rows_left, literals_left, signals_from, signals_left, RoomAndMoves}

pub rows-more : (t row end : ℕ) → row < end → rows_left t row end ≡ DropRow t row ∷ rows_left t (row + 1) end
rows-more t row end low = let left : end - row ≡ suc (end - (row + 1)) = omega arith in rw left refl

pub rows-end : (t row end : ℕ) → end ≤ row → rows_left t row end ≡ []
rows-end t row end past = let none : end - row ≡ 0 = omega arith in rw none refl

pins-at : (marks : List Mark) (p : ℕ) (m : Mark) → p < length marks → m ≡ get_or marks p m
    → literal_pins p (drop p marks) ≡ cond (is_literal m) (p ∷ literal_pins (p + 1) (drop (p + 1) marks)) (literal_pins (p + 1) (drop (p + 1) marks))
pins-at marks p m low read =
    ap (literal_pins p) (drop_more marks p m low)
    ∙ ap (λ (n : Mark). cond (is_literal n) (p ∷ literal_pins (p + 1) (drop (p + 1) marks)) (literal_pins (p + 1) (drop (p + 1) marks))) (sym read)

pub pins-literal : (marks : List Mark) (p : ℕ) (m : Mark) → p < length marks → m ≡ get_or marks p m → is_literal m ≡ true
    → literal_pins p (drop p marks) ≡ p ∷ literal_pins (p + 1) (drop (p + 1) marks)
pins-literal marks p m low read literal = pins-at marks p m low read ∙ cond-true (is_literal m) _ _ literal

pub pins-dash : (marks : List Mark) (p : ℕ) (m : Mark) → p < length marks → m ≡ get_or marks p m → is_literal m ≡ false → literal_pins p (drop p marks) ≡ literal_pins (p + 1) (drop (p + 1) marks)
pins-dash marks p m low read dash = pins-at marks p m low read ∙ cond-false (is_literal m) _ _ dash

pub pins-end : (marks : List Mark) (p : ℕ) → length marks ≤ p → literal_pins p (drop p marks) ≡ []
pins-end marks p past = ap (literal_pins p) (drop_all p marks past)

-- before the first pin of a row, all of its literals are left
pub literals-start : (t r : ℕ) (rows : List (List Mark)) → literals_left t r 0 rows ≡ literal_moves t r rows
literals-start t r [] = refl
literals-start t r (marks ∷ rows) = refl

-- of the row that is read
row-at : (r : ℕ) (rows : List (List Mark)) (marks d : List Mark) → r < length rows → marks ≡ get_or rows r d → drop r rows ≡ marks ∷ drop (r + 1) rows
row-at r rows marks d low read = drop_more rows r d low ∙ ap (λ (m : List Mark). m ∷ drop (r + 1) rows) (sym read)

pub literals-more : (t r p q : ℕ) (rows : List (List Mark)) (marks d : List Mark) → r < length rows → marks ≡ get_or rows r d
    → literal_pins p (drop p marks) ≡ q ∷ literal_pins (q + 1) (drop (q + 1) marks) → literals_left t r p (drop r rows) ≡ DropLiteral t r q ∷ literals_left t r (q + 1) (drop r rows)
literals-more t r p q rows marks d low read found =
    let rest : drop r rows ≡ marks ∷ drop (r + 1) rows = row-at r rows marks d low read in
    ap (literals_left t r p) rest
    ∙ ap (λ l. map (DropLiteral t r) l ++ literal_moves t (r + 1) (drop (r + 1) rows)) found
    ∙ ap (λ (l : List (List Mark)). DropLiteral t r q ∷ literals_left t r (q + 1) l) (sym rest)

pub literals-row_end : (t r p : ℕ) (rows : List (List Mark)) (marks d : List Mark) → r < length rows → marks ≡ get_or rows r d
    → literal_pins p (drop p marks) ≡ [] → literals_left t r p (drop r rows) ≡ literals_left t (r + 1) 0 (drop (r + 1) rows)
literals-row_end t r p rows marks d low read none =
    ap (literals_left t r p) (row-at r rows marks d low read)
    ∙ ap (λ l. map (DropLiteral t r) l ++ literal_moves t (r + 1) (drop (r + 1) rows)) none
    ∙ sym (literals-start t (r + 1) (drop (r + 1) rows))

pub literals-end : (t r p : ℕ) (rows : List (List Mark)) → length rows ≤ r → literals_left t r p (drop r rows) ≡ []
literals-end t r p rows past = ap (literals_left t r p) (drop_all r rows past)

signals-at : (t s : ℕ) (marks : List Bool) → s < length marks → signals_from t s (drop s marks) ≡ cond (get_or marks s false) [] (copies_of t s) ++ signals_from t (s + 1) (drop (s + 1) marks)
signals-at t s marks low = ap (signals_from t s) (drop_more marks s false low)

pub signals-free : (t s : ℕ) (marks : List Bool) → s < length marks → get_or marks s false ≡ false
    → signals_from t s (drop s marks) ≡ Signal t s false ∷ (Signal t s true ∷ signals_from t (s + 1) (drop (s + 1) marks))
signals-free t s marks low free =
    signals-at t s marks low ∙ ap (λ b. cond b [] (copies_of t s) ++ signals_from t (s + 1) (drop (s + 1) marks)) free

pub signals-marked : (t s : ℕ) (marks : List Bool) → s < length marks → get_or marks s false ≡ true → signals_from t s (drop s marks) ≡ signals_from t (s + 1) (drop (s + 1) marks)
signals-marked t s marks low marked =
    signals-at t s marks low ∙ ap (λ b. cond b [] (copies_of t s) ++ signals_from t (s + 1) (drop (s + 1) marks)) marked

pub signals-end : (t s : ℕ) (marks : List Bool) → length marks ≤ s → signals_from t s (drop s marks) ≡ []
signals-end t s marks past = ap (signals_from t s) (drop_all s marks past)

-- marks from signal s on that tell what depends on the table
signals_by : (t s : ℕ) (test : ℕ → Bool) (marks : List Bool) → ((k : ℕ) → k < length marks → get_or marks k false ≡ test (s + k))
    → signals_from t s marks ≡ flat_map (copies_of t) (filter (λ u. not (test u)) (range_with_len s (length marks)))
signals_by t s test [] same = refl
signals_by t s test (mark ∷ marks) same =
    let place : s + 0 ≡ s = omega arith in
    let here : mark ≡ test s = same 0 (omega arith) ∙ ap test place in
    let rest : signals_from t (s + 1) marks ≡ flat_map (copies_of t) (filter (λ u. not (test u)) (range_with_len (s + 1) (length marks))) =
    signals_by t (s + 1) test marks (λ k low. let next : s + suc k ≡ (s + 1) + k = omega arith in same (suc k) (omega arith) ∙ ap test next) in
    ap (λ l. cond mark [] (copies_of t s) ++ l) rest ∙ one (test s) mark here (filter (λ u. not (test u)) (range_with_len (s + 1) (length marks)))
  where
    one : (b mark : Bool) → mark ≡ b → (l : List ℕ) → cond mark [] (copies_of t s) ++ flat_map (copies_of t) l ≡ flat_map (copies_of t) (cond (not b) (s ∷ l) l)
    one true mark e l = rw e refl
    one false mark e l = rw e refl

signals-start : (N : NetValue) (t : ℕ) (marks : List Bool) → IsAcyclic (input_count N) N.tables → length marks ≡ signal_count N
    → ((s : ℕ) → s < signal_count N → IsTrue (get_or marks s false) ↔ DependsOn (input_count N) N.tables t s)
    → signals_from t 0 marks ≡ flat_map (copies_of t) (independent_signals N t)
signals-start N t marks acyclic room marked =
    signals_by t 0 (depends (input_count N) N.tables t) marks
    (λ k low.
    let signal : k < signal_count N = omega arith in
    let same : get_or marks k false ≡ depends (input_count N) N.tables t k =
    same_from_decides (get_or marks k false) (depends (input_count N) N.tables t k) (marked k signal) (depends-path (input_count N) N.tables t k acyclic signal) in
    let place : k ≡ 0 + k = omega arith in
    same ∙ ap (depends (input_count N) N.tables t) place)
    ∙ ap (λ n. flat_map (copies_of t) (filter (λ u. not (depends (input_count N) N.tables t u)) (range_with_len 0 n))) room

-- the next table's moves, once those of the table at hand are given
pub next_table : (offers : ℕ → TableValue → List Move) (N : NetValue) (t : ℕ) → t < table_count N
    → moves_from offers t (drop t N.tables) ≡ offers t (table_at N.tables t) ++ moves_from offers (t + 1) (drop (t + 1) N.tables)
next_table offers N t low = ap (moves_from offers t) (drop_more N.tables t no_table low)

pub no_table_left : (offers : ℕ → TableValue → List Move) (N : NetValue) (t : ℕ) → table_count N ≤ t → moves_from offers t (drop t N.tables) ≡ []
no_table_left offers N t past = ap (moves_from offers t) (drop_all t N.tables past)

-- all signals are left once they are marked
pub all_signals_left : (N : NetValue) (t room : ℕ) (marks : List Bool) → IsAcyclic (input_count N) N.tables → length marks ≡ signal_count N → room ≡ signal_count N
    → ((s : ℕ) → s < signal_count N → IsTrue (get_or marks s false) ↔ DependsOn (input_count N) N.tables t s)
    → (let left : RoomAndMoves = record { room = length marks; left = signals_left t 0 false marks } in left) ≡ record { room = room; left = flat_map (copies_of t) (independent_signals N t) }
all_signals_left N t room marks acyclic whole is marked =
    let same : length marks ≡ room = whole ∙ sym is in
    let moves : signals_from t 0 marks ≡ flat_map (copies_of t) (independent_signals N t) = signals-start N t marks acyclic whole marked in
    cc
