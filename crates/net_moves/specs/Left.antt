-- What is left of lists of moves that are given one after another.
use Rattle.std.specs.Prelude.{◌≡◌, ◌==◌, ℕ, ◌+◌, ◌-◌, ◌<◌, ◌≤◌, ◌^◌, Bool, true, false, ◌||◌, if◌then◌else◌}
use Rattle.std.specs.Prelude.{Option, Some, None, MatchOption, List, [], ◌∷◌, ◌++◌, map, flat_map, take}
use Rattle.std.specs.Prelude.{drop, length, slice_index, All}
use Rattle.std.specs.List.{range_with_len}
use Rattle.semantics.specs.declared.mark.Mark.{Mark}
use Rattle.semantics.specs.Net.{TableValue, NetValue}
use Rattle.chain_semantics.specs.declared.moves.Move.{Move}
use Rattle.chain_semantics.specs.declared.moves.Move.TheVariants.{Const, DropRow, DropLiteral, Signal}
use Rattle.chain_semantics.specs.declared.moves.TheConstants.{MOST_NEAR_SIGNALS}
use Rattle.chain_semantics.specs.TidyRules.{has}
use Rattle.chain_semantics.specs.Moves.{literal_pins, literal_moves, copies_of, each_once, pairs_of}
use Rattle.chain_semantics.specs.Moves.{flips_of, old_moves_of_table, moves_of_table}

-- the first of a list is given, with the rest, or None of the empty list
abbrev pub GivesFirst : List Move → Option Move → List Move → Type 0
GivesFirst old given new = MatchOption given ((old ≡ []) × (new ≡ [])) (λ move. old ≡ move ∷ new)

-- the constants from this value on, or none
abbrev pub constants_left : ℕ → Option Bool → List Move
constants_left t None = []
constants_left t (Some false) = Const t false ∷ Const t true ∷ []
constants_left t (Some true) = Const t true ∷ []

-- from row r up to row end
abbrev pub rows_left : ℕ → ℕ → ℕ → List Move
rows_left t r end = map (DropRow t) (range_with_len r (end - r))

-- the literals from pin p of the first of these rows on, which is row r
abbrev pub literals_left : ℕ → ℕ → ℕ → List (List Mark) → List Move
literals_left t r p [] = []
literals_left t r p (marks ∷ rows)
    = map (DropLiteral t r) (literal_pins p (drop p marks)) ++ literal_moves t (r + 1) rows

-- rows and pins that are few enough for their numbers
pub record AreCountable (rows : List (List Mark)) : Type 0 where
  pub few_rows : length rows < 2 ^ 32
  pub few_pins : All (λ marks. length marks < 2 ^ 32) rows

-- the signals from s on, to which these marks belong: a marked signal depends on the table
abbrev pub signals_from : ℕ → ℕ → List Bool → List Move
signals_from t s [] = []
signals_from t s (depends ∷ marks) = (if depends then [] else copies_of t s) ++ signals_from t (s + 1) marks

-- the signals from s on; where the flag is set, of signal s only the opposite is left
abbrev pub signals_left : ℕ → ℕ → Bool → List Bool → List Move
signals_left t s false marks = signals_from t s (drop s marks)
signals_left t s true marks = Signal t s true ∷ signals_from t (s + 1) (drop (s + 1) marks)

-- the moves of a table that are left, with room for the marks of `room` signals
pub record RoomAndMoves : Type 0 where
  pub room : ℕ
  pub left : List Move

-- the signals of a list, each at its first place, and no more of them than a table has near signals at most
abbrev pub first_once : List ℕ → List ℕ
first_once signals = take MOST_NEAR_SIGNALS (each_once signals)

-- the signals with one more, unless the signal is there already or there is no room
abbrev pub with_signal : List ℕ → ℕ → List ℕ
with_signal near s = if length near == MOST_NEAR_SIGNALS || has near s then near else near ++ s ∷ []

-- the eight moves to a pair
abbrev pub flips_of_pair : ℕ → ℕ × ℕ → List Move
flips_of_pair t pair = flips_of t pair.0 pair.1

-- the signal at place i with those from place j on, and then the pairs of later signals
abbrev pub pairs_from : List ℕ → ℕ → ℕ → List (ℕ × ℕ)
pairs_from near i j = map (λ u. (slice_index near i, u)) (drop j near) ++ pairs_of (drop (i + 1) near)

-- the moves from move k of the first of those pairs on
abbrev pub pairs_left : ℕ → List ℕ → ℕ → ℕ → ℕ → List Move
pairs_left t near i j k = drop k (flat_map (flips_of_pair t) (pairs_from near i j))

-- the two places of a pair, or a place past the last pair
pub record ArePlaces (count first second : ℕ) : Type 0 where
  pub order : first < second
  pub last : count ≤ second → count ≤ first + 1

-- the moves that a table offers, with or without those to two signals
abbrev pub offered : Bool → NetValue → ℕ → TableValue → List Move
offered false = old_moves_of_table
offered true = moves_of_table
