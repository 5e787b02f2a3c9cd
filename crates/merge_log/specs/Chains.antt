-- Hints of a step, as unit propagation along them goes on. Source: LRAT: each hint before the last makes one
-- literal true, and the last one ends in a conflict.
use Rattle.std.specs.Prelude.{ℕ, zero, suc, ◌+◌, Bool, true, false, ◌||◌, ◌==◌, if◌then◌else◌, List, [], ◌∷◌}
use Rattle.std.specs.Prelude.{◌++◌, slice_index_or, ℤ, neg_ℤ, Option, None, Some}
use Rattle.semantics.specs.declared.mark.Mark.{Mark}
use Rattle.semantics.specs.declared.mark.Mark.TheVariants.{Zero, One, Dash}
use Rattle.proof_semantics.specs.Clauses.{has_literal}
use Rattle.proof_semantics.specs.NetClauses.{literal_at}
use Rattle.merge_log.specs.declared.placed.Place.{Place}
use Rattle.merge_log.specs.declared.placed.PlacedPins.{PlacedPins}

-- the hints so far, the literals that are true behind them, and whether two of these literals are opposite
pub record ChainValue : Type 0 where
  pub hints : List ℕ
  pub literals : List ℤ
  pub ended : Bool

-- no hint yet: the literals of the step's clause are false
abbrev pub started : ℤ → ℤ → ChainValue
started one other = record { hints = []; literals = one ∷ other ∷ []; ended = false }

-- The clause with this id makes the literal true; where the literal is false, this is a conflict. A literal
-- that is known already takes no hint.
abbrev pub implied : ChainValue → ℕ → ℤ → ChainValue
implied c id l =
    if c.ended || has_literal c.literals l
    then c
    else record {
      hints = c.hints ++ id ∷ [];
      literals = c.literals ++ l ∷ [];
      ended = has_literal c.literals (neg_ℤ l);
    }

-- the clause with this id ends in a conflict, if no conflict came before
abbrev pub ended_with : ChainValue → ℕ → List ℕ
ended_with c id = if c.ended then c.hints else c.hints ++ id ∷ []

-- For each signal the first signal to which it was made equal, or itself where there is none; and the id of
-- the first of the two clauses that make them equal. The first clause says that the signal's truth implies
-- the other's, and the second one the converse.
pub record MergedValue : Type 0 where
  pub firsts : List ℕ
  pub ids : List ℕ

abbrev pub first_of : MergedValue → ℕ → ℕ
first_of m s = slice_index_or m.firsts s s

abbrev pub id_of : MergedValue → ℕ → ℕ
id_of m s = slice_index_or m.ids s 0

-- signal p has the value `sign`, so the first signal to which it was made equal has this value
abbrev pub to_first : ChainValue → MergedValue → ℕ → Bool → ChainValue
to_first c m p sign = if first_of m p == p then c
    else implied c (id_of m p + (if sign then 0 else 1)) (literal_at (first_of m p) sign)

-- the first signal has the value, so signal q has it
abbrev pub from_first : ChainValue → MergedValue → ℕ → Bool → ChainValue
from_first c m q sign = if first_of m q == q then c
    else implied c (id_of m q + (if sign then 1 else 0)) (literal_at q sign)

-- signal p has the value, so signal q has it
abbrev pub carried : ChainValue → MergedValue → ℕ → ℕ → Bool → ChainValue
carried c m p q sign = if p == q then c else from_first (to_first c m p sign) m q sign

-- what a mark asks of its pin
abbrev pub asked : Mark → Option Bool
asked Zero = Some false
asked One = Some true
asked Dash = None

-- The row whose clauses have the ids from `id` on is true, so its pins have what its marks ask, and so have
-- the other pins.
abbrev pub row_chain : MergedValue → ℕ → List Mark → List ℕ → List ℕ → ChainValue → ChainValue
row_chain m id [] pins others c = c
row_chain m id (mark ∷ marks) [] others c = c
row_chain m id (mark ∷ marks) (p ∷ pins) [] c = c
row_chain m id (mark ∷ marks) (p ∷ pins) (q ∷ others) c = elim (asked mark) [
  | None ↦ row_chain m id marks pins others c
  | Some sign ↦ row_chain m (suc id) marks pins others (carried (implied c id (literal_at p sign)) m p q sign)
]

-- the chain of a row with these marks that stands here, and of the pins of another row
abbrev pub placed_row_chain : MergedValue → List Mark → PlacedPins → PlacedPins → ChainValue → ChainValue
placed_row_chain m marks at other c = row_chain m at.place.clause marks at.pins.now other.pins.now c

-- Each of the `count` rows from the place `row` on is false, by the clauses from the id `implication` on; and
-- so is each row from the place `other` on, by every second clause from the id `equal` on.
abbrev pub table_chain : ℕ → ℕ → ℕ → ℕ → ℕ → ChainValue → ChainValue
table_chain row other implication equal zero c = c
table_chain row other implication equal (suc count) c =
    table_chain (suc row) (suc other) (suc implication) (suc (suc equal)) count
    (implied (implied c implication (literal_at row false)) equal (literal_at other false))

-- the chain of `count` rows from the place `rows` on, and of as many from the place `equal` on, by the
-- clauses that made them equal
abbrev pub placed_table_chain : Place → Place → ℕ → ChainValue → ChainValue
placed_table_chain rows equal count c = table_chain rows.row equal.row rows.clause equal.clause count c
