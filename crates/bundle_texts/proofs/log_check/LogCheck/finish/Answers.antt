use Rattle.std.proofs.Common.{◌≡◌, List, subst}
use Rattle.semantics.specs.Texts.{Bytes}
use Rattle.proof_semantics.specs.Logs.{LogItem}
use Rattle.file_reading.specs.Reading.{IsAllWanted}
use Rattle.bundle_texts.specs.declared.log_check.Standing.TheVariants.{Refused}
use Rattle.bundle_texts.specs.declared.log_check.LogCheck.TheInside.{Inside}
use Rattle.bundle_texts.specs.TextCheck.{TextCheck}
use Rattle.bundle_texts.specs.LogTold.{IsRefutingText, NeverRefutes}
use Rattle.bundle_texts.specs.LogStanding.{check_view, room_at, StandsAt, Stands}
use Rattle.bundle_texts.proofs.LogChecks.{never_content}
use Rattle.bundle_texts.proofs.log_check.LogCheck.finish.Goals as goal

refused_content : {L : Type 0} (holds : L → List LogItem → Type 0) (a : Inside L) (v : TextCheck) → check_view a ≡ v → Stands holds a → a.standing ≡ Refused
    → (content : Bytes) → IsAllWanted content v.text v.room → ¬ IsRefutingText v.formula.clauses content
refused_content holds a v view stands is =
    let never : NeverRefutes a.formula.now.clauses a.reader.text = subst (λ s. StandsAt holds s a.formula.now.clauses a.reader a.judge) is stands in
    subst (λ (u : TextCheck). (content : Bytes) → IsAllWanted content u.text u.room → ¬ IsRefutingText u.formula.clauses content) view
    (λ content wanted. never_content a.formula.now.clauses content a.reader.text (room_at a.standing) never wanted)

pub returns-in-Refused : goal.returns-in-Refused
returns-in-Refused g c content wanted = refused_content g.L.ItemSink.holds c.self.inside c.args.self c.self.view_is c.self.invariant c.in-Refused.is content wanted
