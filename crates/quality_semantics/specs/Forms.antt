-- The forms of tables from which arithmetic networks are made: pins and rows; each has plane 1. Source: the
-- gates of ripple-carry arithmetic.
use Rattle.std.specs.Prelude.{ℕ, List, [], ◌∷◌, length, replicate}
use Rattle.semantics.specs.declared.mark.Mark.{Mark}
use Rattle.semantics.specs.declared.mark.Mark.TheVariants.{Zero, One, Dash}

pub record Form : Type 0 where
  pub pins : List ℕ
  pub rows : List (List Mark)

abbrev pub form : List ℕ → List (List Mark) → Form
form pins rows = record { pins = pins; rows = rows }

-- the constants
abbrev pub zero_form : Form
zero_form = form [] []

abbrev pub one_form : Form
one_form = form [] ([] ∷ [])

-- the opposite
abbrev pub inv : ℕ → Form
inv x = form (x ∷ []) ((Zero ∷ []) ∷ [])

abbrev pub and2 : ℕ → ℕ → Form
and2 x y = form (x ∷ y ∷ []) ((One ∷ One ∷ []) ∷ [])

abbrev pub or2 : ℕ → ℕ → Form
or2 x y = form (x ∷ y ∷ []) ((One ∷ Dash ∷ []) ∷ (Dash ∷ One ∷ []) ∷ [])

abbrev pub xor2 : ℕ → ℕ → Form
xor2 x y = form (x ∷ y ∷ []) ((One ∷ Zero ∷ []) ∷ (Zero ∷ One ∷ []) ∷ [])

-- the sum's bit of a full adder
abbrev pub xor3 : ℕ → ℕ → ℕ → Form
xor3 x y c = form (x ∷ y ∷ c ∷ [])
    ((One ∷ Zero ∷ Zero ∷ []) ∷ (Zero ∷ One ∷ Zero ∷ []) ∷ (Zero ∷ Zero ∷ One ∷ []) ∷ (One ∷ One ∷ One ∷ [])
    ∷ [])

-- the majority of three bits, the carry of a full adder
abbrev pub maj : ℕ → ℕ → ℕ → Form
maj x y c = form (x ∷ y ∷ c ∷ [])
    ((One ∷ One ∷ Dash ∷ []) ∷ (One ∷ Dash ∷ One ∷ []) ∷ (Dash ∷ One ∷ One ∷ []) ∷ [])

-- a comparator's bit: x is greater than y, or they are equal and g
abbrev pub gt : ℕ → ℕ → ℕ → Form
gt x y g = form (x ∷ y ∷ g ∷ [])
    ((One ∷ Zero ∷ Dash ∷ []) ∷ (One ∷ Dash ∷ One ∷ []) ∷ (Dash ∷ Zero ∷ One ∷ []) ∷ [])

-- a counter's bit: the count was reached already (p), or the next bit d is 1 and the count before was reached
-- (q)
abbrev pub grow : ℕ → ℕ → ℕ → Form
grow p d q = form (p ∷ d ∷ q ∷ []) ((One ∷ Dash ∷ Dash ∷ []) ∷ (Dash ∷ One ∷ One ∷ []) ∷ [])

-- bit 0 of a bus of at least one bit, or 1 where all its bits are 0
abbrev pub low : ℕ → List ℕ → Form
low x xs = form (x ∷ xs) ((One ∷ replicate (length xs) Dash) ∷ (Zero ∷ replicate (length xs) Zero) ∷ [])
