-- The order of the moves of a net: by table, then by kind, then by row, pin or signal, and at last what is 0
-- or plain before what is 1 or flipped. Two signals are ordered by their places among the near signals.
use Rattle.std.specs.Prelude.{◌≡◌, ◌≢◌, ◌⊎◌, ◌↔◌, ℕ, ◌<◌, List, [], ◌∷◌, AllPairs, Contains}
use Rattle.semantics.specs.Net.{NetValue, table_at, input_count, IsAcyclic}
use Rattle.semantics.specs.Error.{bit_number}
use Rattle.chain_semantics.specs.declared.moves.Move.{Move}
use Rattle.chain_semantics.specs.declared.moves.Move.TheVariants.{Const, DropRow, DropLiteral, Signal, Pair}
use Rattle.chain_semantics.specs.TidyRules.{first_place_of}
use Rattle.chain_semantics.specs.Moves.{near_signals, moves_of, table_of}
use Rattle.chain_semantics.specs.MoveLaws.{IsMoveOf}

abbrev pub kind_number : Move → ℕ
kind_number (Const t value) = 0
kind_number (DropRow t row) = 1
kind_number (DropLiteral t row pin) = 2
kind_number (Signal t s flip) = 3
kind_number (Pair t s flip_s u flip_u flip) = 4

-- where a signal first stands among the near signals of table t
abbrev pub near_place : NetValue → ℕ → ℕ → ℕ
near_place N t s = first_place_of (near_signals N (table_at N.tables t)) s

-- where a move stands among those of its table and its kind
abbrev pub places_of : NetValue → Move → List ℕ
places_of N (Const t value) = bit_number value ∷ []
places_of N (DropRow t row) = row ∷ []
places_of N (DropLiteral t row pin) = row ∷ pin ∷ []
places_of N (Signal t s flip) = s ∷ bit_number flip ∷ []
places_of N (Pair t s flip_s u flip_u flip)
    = near_place N t s ∷ near_place N t u ∷ bit_number flip_s ∷ bit_number flip_u ∷ bit_number flip ∷ []

-- in dictionary order
abbrev pub IsBefore : List ℕ → List ℕ → Type 0
IsBefore [] ys = ⊥
IsBefore (x ∷ xs) [] = ⊥
IsBefore (x ∷ xs) (y ∷ ys) = (x < y) ⊎ ((x ≡ y) × IsBefore xs ys)

abbrev pub ComesBefore : NetValue → Move → Move → Type 0
ComesBefore N a b = IsBefore (table_of a ∷ kind_number a ∷ places_of N a)
    (table_of b ∷ kind_number b ∷ places_of N b)

-- Each move comes before all later ones, so no move stands twice. In an acyclic net the list is the only list
-- in this order whose members are the moves whose condition holds.
pub record MoveOrderLaw : Type 0 where
  pub in_order : (N : NetValue) → AllPairs (ComesBefore N) (moves_of N)
  pub once : (N : NetValue) → AllPairs ◌≢◌ (moves_of N)
  pub only : (N : NetValue) (moves : List Move) → IsAcyclic (input_count N) N.tables
      → AllPairs (ComesBefore N) moves
      → ((move : Move) → Contains moves move ↔ IsMoveOf N move) → moves ≡ moves_of N
