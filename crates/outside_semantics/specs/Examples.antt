-- Worked examples, computed from the definitions.
use Rattle.std.specs.Prelude.{◌≡◌, ℕ, ◌-◌, ◌^◌, ◌<◌, false, List, [], ◌∷◌, Option, Some, None, codes}
use Rattle.std.specs.Ordering.{nat_cmp}
use Rattle.std.specs.Cmp.Lexicographic.{slice_cmp}
use Rattle.std.specs.FinMap.{empty, get}
use Rattle.semantics.specs.Texts.{Bytes}
use Rattle.outside_semantics.specs.Outside.{Held, FilesTold, Rose, turns_on, turns_after, IsReadOut, appended}
use Rattle.outside_semantics.specs.WrittenFiles.{File, with_files, IsCutShort}

-- one more fault is a rise, and no further fault is none; but a count at its end stands still
pub record CountExamples : Type 0 where
  pub one_more : Rose 3 4
  pub none : Rose 3 3 → ⊥
  pub at_its_end : Rose (2 ^ 64 - 1) (2 ^ 64 - 1)
  pub before_its_end : (before now : ℕ) → before < 2 ^ 64 - 1 → Rose before now → before < now

-- what files tell that tell nothing but their turns
abbrev pub told_turns : List Bytes → FilesTold
told_turns turns = record {
  held = None;
  reading = None;
  writing = None;
  opened = None;
  turns = turns;
  faults = 0;
  steady_read = λ _. false;
  steady_write = λ _. false;
  calm_read = false;
  calm_write = false;
}

abbrev pub a_turn_on_b : List Bytes
a_turn_on_b = codes "b" ∷ []

-- A read is a turn of the open file where it asked for 65,536 bytes or fewer and gave some; the turns on a
-- name are counted, and one turn does not read a file out.
pub record TurnExamples : Type 0 where
  pub least_given : turns_after (Some (codes "a")) 65536 1 a_turn_on_b ≡ codes "a" ∷ codes "b" ∷ []
  pub most_given : turns_after (Some (codes "b")) 10 10 a_turn_on_b ≡ codes "b" ∷ codes "b" ∷ []
  pub asked_too_much : turns_after (Some (codes "a")) 65537 65537 a_turn_on_b ≡ a_turn_on_b
  pub gave_nothing : turns_after (Some (codes "a")) 65536 0 a_turn_on_b ≡ a_turn_on_b
  pub none_open : turns_after None 65536 1 a_turn_on_b ≡ a_turn_on_b
  pub on_a : turns_on (told_turns (codes "a" ∷ codes "b" ∷ codes "a" ∷ [])) (codes "a") ≡ 2
  pub on_ab : turns_on (told_turns (codes "a" ∷ codes "b" ∷ codes "a" ∷ [])) (codes "ab") ≡ 0
  pub not_read_out : IsReadOut (told_turns []) (told_turns a_turn_on_b) (codes "b") → ⊥

abbrev pub file : Bytes → Bytes → File
file name text = record { name = name; text = text }

-- no file but these
abbrev pub only : List File → Held
only files = with_files (empty {R = slice_cmp nat_cmp}) files

-- a file of three bytes, and what it holds after a text was appended
abbrev pub three : Held
three = only (file (codes "a") (codes "one") ∷ [])

abbrev pub after_append : Option Bytes → Bytes → Option Bytes
after_append writing name = get (appended three writing (codes "!")) name

-- a text comes behind what the file holds, a file that is not held is not made, and with nothing written all
-- stays
pub record AppendExamples : Type 0 where
  pub behind : after_append (Some (codes "a")) (codes "a") ≡ Some (codes "one!")
  pub not_made : after_append (Some (codes "b")) (codes "b") ≡ None
  pub others : after_append (Some (codes "b")) (codes "a") ≡ Some (codes "one")
  pub closed : after_append None (codes "a") ≡ Some (codes "one")

abbrev pub after_four : Bytes → Option Bytes
after_four name = get (with_files three
    (file (codes "b") (codes "x") ∷ file (codes "c") (codes "y") ∷ file (codes "b") (codes "z") ∷ [])) name

-- of two files with the same name the later one counts, and a name that is not written keeps its bytes
pub record WrittenExamples : Type 0 where
  pub twice : after_four (codes "b") ≡ Some (codes "z")
  pub between : after_four (codes "c") ≡ Some (codes "y")
  pub before : after_four (codes "a") ≡ Some (codes "one")
  pub none : after_four (codes "d") ≡ None

-- two files were to be written, and a fault left these
abbrev pub fault_leaves : List File → Type 0
fault_leaves files = IsCutShort three (with_files three files)
    (file (codes "b") (codes "xy") ∷ file (codes "c") (codes "z") ∷ [])

-- The file that failed is untouched, empty or a first part; it is no other part, and no file stands after it.
pub record CutExamples : Type 0 where
  pub not_created : fault_leaves []
  pub emptied : fault_leaves (file (codes "b") [] ∷ [])
  pub first_part : fault_leaves (file (codes "b") (codes "x") ∷ [])
  pub second_emptied : fault_leaves (file (codes "b") (codes "xy") ∷ file (codes "c") [] ∷ [])
  pub no_other_part : fault_leaves (file (codes "b") (codes "y") ∷ []) → ⊥
  pub no_later_file : fault_leaves (file (codes "b") (codes "x") ∷ file (codes "c") [] ∷ []) → ⊥
