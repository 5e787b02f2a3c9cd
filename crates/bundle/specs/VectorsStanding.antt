-- How the fields of a check of vectors stand to the bytes that were taken.
use Rattle.bundle.specs.declared.vectors_check.VectorsCheck.TheInside.{Inside}
use Rattle.bundle.specs.Shown.{VectorsText, StandsAt}
use Rattle.bundle_texts.specs.TextCheck.{room_at}

abbrev pub check_view : Inside → VectorsText
check_view a = record { asked = a.broken.asked; text = a.text.bytes; room = room_at a.is_right }

abbrev pub Stands : Inside → Type 0
Stands a = StandsAt a.is_right a.broken a.line a.text.bytes
