-- How the fields of a formula's check stand to the bytes that were taken.
use Rattle.std.specs.Prelude.{◌≡◌, ◌≢◌, Bool, true, false, ◌++◌}
use Rattle.semantics.specs.Texts.{Bytes}
use Rattle.proof_semantics.specs.Formula.{Formula, dimacs_text}
use Rattle.bundle_texts.specs.declared.formula_check.FormulaCheck.TheInside.{Inside}
use Rattle.bundle_texts.specs.TextCheck.{TextCheck, room_at}

abbrev pub check_view : Inside → TextCheck
check_view a = record { formula = a.formula.now; text = a.text.bytes; room = room_at a.is_same }

-- either the formula's text is this text and then `rest`, or no text that begins with this text is the
-- formula's
abbrev pub StandsAt : Bool → Formula → Bytes → Bytes → Type 0
StandsAt true formula text rest = text ++ rest ≡ dimacs_text formula
StandsAt false formula text rest = (more : Bytes) → text ++ more ≢ dimacs_text formula

abbrev pub Stands : Inside → Type 0
Stands a = StandsAt a.is_same a.formula.now a.text.bytes a.rest
