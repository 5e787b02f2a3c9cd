-- A formula that says of two copies of one signal that exactly one of them is true, and steps that say that
-- they are equal.
use Rattle.std.specs.Prelude.{ℕ, List, [], ◌∷◌, pos, neg_ℤ}
use Rattle.proof_semantics.specs.declared.item.Item.TheVariants.{Add}
use Rattle.proof_semantics.specs.Clauses.{Clause}
use Rattle.proof_semantics.specs.Formula.{Formula}
use Rattle.proof_semantics.specs.Logs.{LogItem}

-- 1 is the signal, and 2 and 3 are its copies
abbrev pub two_copies : Formula
two_copies = record {
  variables = 3;
  clauses =
      (neg_ℤ (pos 2) ∷ pos 1 ∷ []) ∷ (pos 2 ∷ neg_ℤ (pos 1) ∷ [])
      ∷ (neg_ℤ (pos 3) ∷ pos 1 ∷ []) ∷ (pos 3 ∷ neg_ℤ (pos 1) ∷ [])
      ∷ (pos 2 ∷ pos 3 ∷ []) ∷ (neg_ℤ (pos 2) ∷ neg_ℤ (pos 3) ∷ []) ∷ [];
}

-- each copy implies the other
abbrev pub equal_copies : List LogItem
equal_copies =
    Add (record { id = 7; literals = neg_ℤ (pos 2) ∷ pos 3 ∷ []; hints = 1 ∷ 4 ∷ [] })
    ∷ Add (record { id = 8; literals = pos 2 ∷ neg_ℤ (pos 3) ∷ []; hints = 3 ∷ 2 ∷ [] }) ∷ []
