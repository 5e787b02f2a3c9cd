-- What the masks are once a row that they lend is let go.
use Rattle.std.specs.Prelude.{◌≡◌, ⊤}
use Rattle.std.specs.Borrow.{follows_so, Fml, MutBor}
use mathlib.Core.Option.{none}
use Rattle.care_masks.specs.Masks.{Masks}
use Rattle.care_masks.specs.contracts.fixed.FixedMasks.{the_row}

-- after the borrow the masks are what they were before it
abbrev pub StayTheSame : MutBor Masks → Fml
StayTheSame masks = follows_so the_row the_row masks.ghost_name none (λ _ _. ⊤) (λ after. after ≡ masks.now)
