-- The net of the demonstration: an adder of two words of w bits. Source: the ripple-carry adder, a half adder
-- and then full adders. The inputs are `a0`, `a1` and so on, and then `b0`, `b1` and so on. Stage i has two
-- tables: its bit `si` of the sum, and its carry, which is named for the next stage: `c1` is the carry of
-- stage 0. So input `ai` is signal i, input `bi` is signal w + i, and table t is signal 2 * w + t.
use Rattle.std.specs.Prelude.{◌≡◌, ℕ, zero, suc, ◌+◌, ◌-◌, ◌*◌, true, Bool, List, [], ◌∷◌, ◌++◌, map}
use Rattle.std.specs.Prelude.{flat_map, length, take, drop, decimal, codes}
use Rattle.std.specs.List.{range_with_len}
use Rattle.semantics.specs.Texts.{Bytes}
use Rattle.semantics.specs.Net.{TableValue, NetValue}
use Rattle.semantics.specs.Value.{outputs_of}
use Rattle.semantics.specs.Error.{number_of}
use Rattle.quality_semantics.specs.Forms.{Form, and2, xor2, xor3, maj}

-- a letter and a number
abbrev pub demo_name : Bytes → ℕ → Bytes
demo_name letter i = letter ++ decimal i

-- the signals of the two tables of stage i
abbrev pub sum_signal : ℕ → ℕ → ℕ
sum_signal w i = w + w + 2 * i

abbrev pub carry_signal : ℕ → ℕ → ℕ
carry_signal w i = w + w + 2 * i + 1

-- stage 0 is a half adder, and each later one a full adder that reads the carry of the stage before
abbrev pub sum_form : ℕ → ℕ → Form
sum_form w zero = xor2 0 w
sum_form w (suc i) = xor3 (suc i) (w + suc i) (carry_signal w i)

abbrev pub carry_form : ℕ → ℕ → Form
carry_form w zero = and2 0 w
carry_form w (suc i) = maj (suc i) (w + suc i) (carry_signal w i)

-- the table of a form
abbrev pub demo_table : Bytes → Form → TableValue
demo_table name f = record { name = name; pins = f.pins; rows = f.rows; plane = true }

abbrev pub stage_tables : ℕ → ℕ → List TableValue
stage_tables w i = demo_table (demo_name (codes "s") i) (sum_form w i)
    ∷ demo_table (demo_name (codes "c") (i + 1)) (carry_form w i) ∷ []

-- The outputs are the bits of the sum, and then the last carry.
unfoldable pub demo_net : ℕ → NetValue
demo_net w = record {
  model = codes "demo";
  inputs = map (demo_name (codes "a")) (range_with_len 0 w)
      ++ map (demo_name (codes "b")) (range_with_len 0 w);
  tables = flat_map (stage_tables w) (range_with_len 0 w);
  outputs = map (sum_signal w) (range_with_len 0 w) ++ carry_signal w (w - 1) ∷ [];
}

-- the net's output number is the sum of its two words
abbrev pub Adds : ℕ → NetValue → Type 0
Adds w N = (x : List Bool) → length x ≡ w + w
    → number_of (outputs_of N x) ≡ number_of (take w x) + number_of (drop w x)
