-- How the fields of a log's check stand to the bytes that were taken.
use Rattle.std.specs.Prelude.{ℕ, ◌+◌, ◌<◌, ◌^◌, List, length}
use Rattle.proof_semantics.specs.Clauses.{Clause}
use Rattle.proof_semantics.specs.Logs.{LogItem}
use Rattle.cnf_core.specs.LratReads.{LogRead}
use Rattle.bundle_texts.specs.declared.judge.Judge.{Judge}
use Rattle.bundle_texts.specs.declared.log_check.Standing.{Standing}
use Rattle.bundle_texts.specs.declared.log_check.Standing.TheVariants.{Accepted, Refused, Lost}
use Rattle.bundle_texts.specs.declared.log_check.LogCheck.TheInside.{Inside}
use Rattle.bundle_texts.specs.TextCheck.{TextCheck}
use Rattle.bundle_texts.specs.LogTold.{IsSoundSoFar, NeverRefutes}
use Rattle.bundle_texts.specs.LogJudged.{HasTaken}

-- nothing more is wanted of a text that is refused
abbrev pub room_at : Standing → ℕ
room_at (Accepted room) = room
room_at Refused = 0
room_at Lost = 0

module _ {L : Type 0} where
  abbrev pub check_view : Inside L → TextCheck
  check_view a = record { formula = a.formula.now; text = a.reader.text; room = room_at a.standing }

  module _ (holds : L → List LogItem → Type 0) where
    abbrev pub StandsAt : Standing → List Clause → LogRead → Judge L → Type 0
    StandsAt (Accepted room) clauses v judge = IsSoundSoFar (HasTaken holds) clauses v judge
        × (length v.text + room < 2 ^ 63)
    StandsAt Refused clauses v judge = NeverRefutes clauses v.text
    StandsAt Lost clauses v judge = Unit {0}

    abbrev pub Stands : Inside L → Type 0
    Stands a = StandsAt a.standing a.formula.now.clauses a.reader a.judge
