-- Which refusal a net of names has, and which net is read: each refusal is told exactly where its condition
-- holds and the conditions of the refusals before it do not.
use Rattle.std.specs.Prelude.{◌≡◌, ◌≢◌, ◌↔◌, ℕ, ◌+◌, ◌<◌, ◌≤◌, [], length, Some, Ok, Err, All, AllPairs}
use Rattle.std.specs.Prelude.{Contains}
use Rattle.semantics.specs.declared.which.Which.{Which}
use Rattle.semantics.specs.Texts.{Bytes}
use Rattle.semantics.specs.Net.{NetValue, input_count, signal_names, name_of, IsAcyclic, IsSmall}
use Rattle.semantics.specs.Refusals.{IsFirstUngrounded}
use Rattle.semantics.specs.RefusalOrder.{IsFirstPassed, IsFirstDoubled}
use Rattle.blif_semantics.specs.Lines.{logical_lines, statements}
use Rattle.blif_semantics.specs.Statements.{Wrong}
use Rattle.blif_semantics.specs.Reading.{doubled, no_output, undriven, cycle, limit, wrong_line, NamedNet}
use Rattle.blif_semantics.specs.Reading.{names_of, names_read, numbered, single, blif_reading}
use Rattle.blif_semantics.specs.FirstRefusals.{IsFirstWrong, IsFirstUndriven}

-- no name is driven twice
abbrev pub NamesDiffer : NamedNet → Type 0
NamesDiffer d = AllPairs ◌≢◌ (names_of d)

-- and an output is listed
abbrev pub HasOutput : NamedNet → Type 0
HasOutput d = NamesDiffer d × (0 < length d.outputs)

-- and each name that is read is driven
abbrev pub ReadsDriven : NamedNet → Type 0
ReadsDriven d = HasOutput d × All (Contains (names_of d)) (names_read d)

-- and no table is on a cycle or behind one
abbrev pub IsGrounded : NamedNet → Type 0
IsGrounded d = ReadsDriven d × IsAcyclic (input_count (numbered d)) (numbered d).tables

-- the first table that is on a cycle or behind one has this name
abbrev pub IsFirstOnCycle : NamedNet → Bytes → Type 0
IsFirstOnCycle d name =
    (i : ℕ) × IsFirstUngrounded (input_count (numbered d)) (numbered d).tables i
    × (name_of (signal_names (numbered d)) (input_count (numbered d) + i) ≡ name)

-- in this order: a name driven twice, no output, a name that is not driven, a cycle, a limit; a net of names
-- without any of these is read as its numbered parts
pub record RefusalOrderLaw : Type 0 where
  pub of_doubled : (d : NamedNet) (name : Bytes)
      → (single d ≡ Err (doubled name)) ↔ IsFirstDoubled (names_of d) name
  pub of_no_output : (d : NamedNet) → (single d ≡ Err no_output) ↔ (NamesDiffer d × (d.outputs ≡ []))
  pub of_undriven : (d : NamedNet) (name : Bytes)
      → (single d ≡ Err (undriven name)) ↔ (HasOutput d × IsFirstUndriven d name)
  pub of_cycle : (d : NamedNet) (name : Bytes)
      → (single d ≡ Err (cycle name)) ↔ (ReadsDriven d × IsFirstOnCycle d name)
  pub of_limit : (d : NamedNet) (which : Which)
      → (single d ≡ Err (limit which)) ↔ (IsGrounded d × IsFirstPassed (numbered d) which)
  pub accepted : (d : NamedNet) (N : NetValue)
      → (single d ≡ Ok N) ↔ (IsGrounded d × IsSmall (numbered d) × (numbered d ≡ N))
  -- before all of them comes the first wrong line, in a text that keeps the limit
  pub of_wrong_line : (text : Bytes) (most line : ℕ) (w : Wrong)
      → (blif_reading text most ≡ Err (wrong_line line w))
      ↔ ((length text ≤ most) × IsFirstWrong (statements (logical_lines text))
      (record { line = line; wrong = w }))
