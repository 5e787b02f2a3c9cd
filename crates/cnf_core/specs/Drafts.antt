-- Lists that can be taken back.
use Rattle.std.specs.Prelude.{◌≡◌, ℕ, ℤ, List, ◌++◌}

-- the list at hand, behind those that were begun before it
pub record DraftValue (T : Type 0) : Type 0 where
  pub before : List T
  pub at_hand : List T

abbrev pub whole : {T : Type 0} → DraftValue T → List T
whole d = d.before ++ d.at_hand

-- items joined the list at hand
abbrev pub HasGrown : {T : Type 0} → DraftValue T → DraftValue T → Type 0
HasGrown {T} old new = (more : List T) × (new ≡ record old { at_hand = old.at_hand ++ more })

-- the literals of the item at hand, and its hints or ids
pub record ItemDraftValue : Type 0 where
  pub literals : DraftValue ℤ
  pub numbers : DraftValue ℕ

-- other hints or ids are at hand
abbrev pub with_numbers : ItemDraftValue → List ℕ → ItemDraftValue
with_numbers d numbers = record d { numbers = record d.numbers { at_hand = numbers } }

-- the lists grew only at their ends
pub record Grows (old new : ItemDraftValue) : Type 0 where
  pub literals : (more : List ℤ) × (whole new.literals ≡ whole old.literals ++ more)
  pub numbers : (more : List ℕ) × (whole new.numbers ≡ whole old.numbers ++ more)
