-- What a reader of logs has read.
use Rattle.std.specs.Prelude.{◌≡◌, ℕ, ◌+◌, Bool, false, List, [], ◌++◌, slice_get, Option, Some, None}
use Rattle.std.specs.Prelude.{is_some, Err, if◌then◌else◌, ◌⊎◌}
use Rattle.semantics.specs.Texts.{Bytes}
use Rattle.proof_semantics.specs.declared.lrat_refusal.LratRefusal.{LratRefusal}
use Rattle.proof_semantics.specs.declared.lrat_refusal.LratRefusal.TheVariants.{OutOfMemory}
use Rattle.proof_semantics.specs.Logs.{LogItem}
use Rattle.proof_semantics.specs.LratReading.{whole_items, lrat_refusal, with_end, lrat_items}

pub record LogRead : Type 0 where
  -- all that was fed
  pub text : Bytes
  -- how many items were given
  pub given : ℕ
  -- whether the text has ended
  pub finished : Bool
  pub refused : Option LratRefusal

abbrev pub nothing_read : LogRead
nothing_read = record { text = []; given = 0; finished = false; refused = None }

-- the text as far as its tokens have ended
abbrev pub read_text : Bytes → Bool → Bytes
read_text text finished = if finished then with_end text else text

-- the items that are whole in what was read, given or not
abbrev pub read_items : LogRead → List LogItem
read_items v = whole_items (read_text v.text v.finished)

abbrev pub fed : LogRead → Bytes → LogRead
fed v piece = record v { text = v.text ++ piece; refused = lrat_refusal (v.text ++ piece) }

-- A reader that has refused a text returns the refusal again. Else memory was wanting and nothing changed, or
-- the text is refused now.
abbrev pub IsFeedRefusal : LogRead → Bytes → LratRefusal → LogRead → Type 0
IsFeedRefusal old piece r new = elim old.refused [
  | Some refusal ↦ (r ≡ refusal) × (new ≡ old)
  | None ↦ ((r ≡ OutOfMemory) × (new ≡ old)) ⊎ ((new ≡ fed old piece) × (new.refused ≡ Some r))
]

abbrev pub IsFinishRefusal : LogRead → LratRefusal → LogRead → Type 0
IsFinishRefusal old r new = elim old.refused [
  | Some refusal ↦ (r ≡ refusal) × (new ≡ old)
  | None ↦ ((r ≡ OutOfMemory) × (new ≡ old))
      ⊎ ((lrat_items old.text ≡ Err r) × (new ≡ record old { refused = Some r }))
]

-- the next item was given, if there is one
abbrev pub after_next : LogRead → LogRead
after_next v = record v {
  given
      = if is_some (slice_get (read_items v) v.given) then v.given + 1 else v.given;
}
