-- How turns of reading join, and what the text is once they end.
use Rattle.std.proofs.Common.{◌≡◌, ℕ, ◌+◌, ◌≤◌, Bool, true, false, [], length, take, Some, refl, sym, subst, ap, ◌∙◌, inl, inr, arith}
use Rattle.std.proofs.lemmas.List.{take_all, length-take}
use Rattle.std.proofs.lemmas.Bool.{false_from_ne_true}
use Rattle.semantics.specs.Texts.{Bytes}
use Rattle.outside_semantics.specs.Outside.{Held, FilesTold, KeepsAtRead, Opened, OpenFailed, ReadFailed, bytes_of, turn_budget}
use Rattle.file_core.proofs.Told.{Goes-Goes, Goes-same, StaysCalm-StaysCalm, StaysCalm-same, held_before}
use Rattle.file_reading.specs.declared.unread.Unread.{Unread}
use Rattle.file_reading.specs.declared.unread.Unread.TheVariants as unread
use Rattle.file_reading.specs.Refused.{TurnRefused, FileUnread}
use Rattle.file_reading.specs.Reading.{HasRead, SoFar, TurnRead, FilesStay, FileRead, IsFrontOf, FileFailed, FileEndless}

pub KeepsAtRead-same : (a : FilesTold) → KeepsAtRead a a
KeepsAtRead-same a = record { goes = Goes-same a; opened = refl; calm = StaysCalm-same a; stays = λ h told. told }

KeepsAtRead-KeepsAtRead : {a b c : FilesTold} → KeepsAtRead a b → KeepsAtRead b c → KeepsAtRead a c
KeepsAtRead-KeepsAtRead p q = record {
  goes = Goes-Goes p.goes q.goes;
  opened = q.opened ∙ p.opened;
  calm = StaysCalm-StaysCalm p.calm q.calm;
  stays = λ h told. q.stays h (p.stays h told);
}

pub SoFar-none : (a : FilesTold) (text : Bytes) → text ≡ [] → SoFar a a text 0
SoFar-none a text none = record {
  keeps = KeepsAtRead-same a;
  taken = omega arith;
  counted = λ name opened. omega arith;
  reads = λ held name told has. subst (HasRead a held name) (sym none) has;
}

pub SoFar-more : {o a b : FilesTold} {before after : Bytes} {room turns : ℕ} {more : Bool} → SoFar o a before turns
    → TurnRead (record { told = a; text = before }) (record { told = b; text = after }) room more → more ≡ true
    → SoFar o b after (turns + 1)
SoFar-more s t goes_on = record {
  keeps = KeepsAtRead-KeepsAtRead s.keeps t.keeps;
  taken = omega (arith, s.taken, t.grows goes_on);
  counted = λ name opened. omega (arith, s.counted name opened, t.turn goes_on name (s.keeps.opened ∙ opened));
  reads = λ held name told has. t.reads held name (s.keeps.stays held told) (s.reads held name told has);
}

-- the files stay from before the opening on
stays_since : {old opened now : FilesTold} {name : Bytes} → Opened old opened name → KeepsAtRead opened now
    → (a b : Held) → old.held ≡ Some a → now.held ≡ Some b → (opened.held ≡ Some a) × (b ≡ a)
stays_since {old} {opened} {now} {name} was keeps a b told tells =
    let m = held_before opened now keeps.goes b tells in
    let same : m.0 ≡ a = was.keeps.stays a m.0 told m.1 in
    let still : now.held ≡ Some m.0 = keeps.stays m.0 m.1 in
    (m.1 ∙ ap Some same, cc (same, still, tells))

-- nothing was read when the file was opened
HasRead-none : {old opened : FilesTold} {name : Bytes} → Opened old opened name → (a : Held) → old.held ≡ Some a → opened.held ≡ Some a → HasRead opened a name []
HasRead-none was a told tells = record { place = was.reading a a told tells; front = refl }

-- no file changed since the opening
FilesStay-from : {old opened now : FilesTold} {name : Bytes} → Opened old opened name → KeepsAtRead opened now → FilesStay old now name
FilesStay-from was keeps = record {
  goes = Goes-Goes was.keeps.goes keeps.goes;
  stays = λ a b told tells. (stays_since was keeps a b told tells).1;
  still_told = λ a told has. keeps.stays a (was.keeps.still_told a told has);
}

-- where the turns ended the text is all of the file, or all that is wanted
pub FileRead-from : {old opened before now : FilesTold} {name front text : Bytes} {room turns : ℕ} {more : Bool} → Opened old opened name → SoFar opened before front turns
    → TurnRead (record { told = before; text = front }) (record { told = now; text = text }) room more → more ≡ false → FileRead old now name text room
FileRead-from {old} {opened} {before} {now} {name} {front} {text} {room} was sofar turn last =
    let keeps : KeepsAtRead opened now = KeepsAtRead-KeepsAtRead sofar.keeps turn.keeps in
    let stopped = turn.stops last in
    record {
      stay = FilesStay-from was keeps;
      held = λ a b told tells. was.is_held a a told (stays_since was keeps a b told tells).0;
      all = λ a b told tells.
          let opened_told = (stays_since was keeps a b told tells).0 in
          let has = sofar.reads a name opened_told (HasRead-none was a told opened_told) in
          let part : text ≡ take (length text) (bytes_of a name) = stopped.0 ∙ has.front ∙ ap (λ t. take (length t) (bytes_of a name)) (sym stopped.0) in
          elim stopped.1 [
            | inl unwanted ↦ inr (unwanted, part)
            | inr ended ↦ inl (stopped.0 ∙ has.front ∙ take_all (length front) (bytes_of a name) (ended.ends a name (sofar.keeps.stays a opened_told) has))
          ];
    }

-- what was taken is a first part of the file, also after a call that changed no file
pub IsFrontOf-from : {old opened before now : FilesTold} {name text : Bytes} {turns : ℕ} → Opened old opened name → SoFar opened before text turns → KeepsAtRead before now
    → IsFrontOf old now name text
IsFrontOf-from was sofar later a b told tells =
    let opened_told = (stays_since was (KeepsAtRead-KeepsAtRead sofar.keeps later) a b told tells).0 in
    (sofar.reads a _ opened_told (HasRead-none was a told opened_told)).front

-- the turn that met a fault took nothing
pub IsFrontOf-at_fault : {old opened before : FilesTold} {name front : Bytes} {turns : ℕ} (now : FilesTold) (text : Bytes) (reason : Unread) → Opened old opened name
    → SoFar opened before front turns → TurnRefused before now reason → reason ≡ unread.Fault → text ≡ front → IsFrontOf old now name text
IsFrontOf-at_fault {old} {opened} {before} {name} now text reason was sofar refused fault same =
    let failed : ReadFailed before now = subst (TurnRefused before now) fault refused in
    subst (IsFrontOf old now name) (sym same) (IsFrontOf-from was sofar failed.keeps)

-- the text is a first part of the file, so the file is no shorter
pub FileEndless-from : {old opened now : FilesTold} {name text : Bytes} {turns : ℕ} → Opened old opened name → SoFar opened now text turns → turn_budget ≤ turns → FileEndless old now name text
FileEndless-from {old} {opened} {now} {name} {text} was sofar spent = record {
  stay = FilesStay-from was sofar.keeps;
  read_out = omega (arith, spent, was.keeps.goes.turns name, sofar.counted name was.opened);
  taken = omega (arith, spent, sofar.taken);
  front = IsFrontOf-from was sofar (KeepsAtRead-same now);
  long = λ a b told tells.
      let opened_told = (stays_since was sofar.keeps a b told tells).0 in
      let has = sofar.reads a name opened_told (HasRead-none was a told opened_told) in
      omega (arith, spent, sofar.taken, ap length has.front, length-take (length text) (bytes_of a name));
}

pub FileFailed-open : {old now : FilesTold} {name : Bytes} → OpenFailed old now name → FileFailed old now name
FileFailed-open failed = record {
  stay = record { goes = failed.keeps.goes; stays = failed.keeps.stays; still_told = failed.keeps.still_told };
  rose = failed.rose;
  not_steady = failed.not_steady;
}

-- a fault in reading is one of a file that is not steady
FileFailed-read : {old opened before now : FilesTold} {name : Bytes} → Opened old opened name → KeepsAtRead opened before → ReadFailed before now → FileFailed old now name
FileFailed-read {old} {opened} {before} {now} {name} was keeps failed = record {
  stay = FilesStay-from was (KeepsAtRead-KeepsAtRead keeps failed.keeps);
  rose = omega (arith, was.keeps.goes.counts, keeps.goes.counts, failed.rose);
  not_steady = false_from_ne_true _ (λ steady. cc (keeps.calm.read (was.calm steady), failed.not_calm));
}

FilesStay-later : {old opened before now : FilesTold} {name : Bytes} → Opened old opened name → KeepsAtRead opened before → KeepsAtRead before now → FilesStay old now name
FilesStay-later was keeps later = FilesStay-from was (KeepsAtRead-KeepsAtRead keeps later)

-- a turn that was refused ends the reading for the same reason
pub FileUnread-from : {old opened before : FilesTold} {name : Bytes} (now : FilesTold) (text : Bytes) (reason : Unread) → Opened old opened name → KeepsAtRead opened before
    → TurnRefused before now reason
    → FileUnread old now name text reason
FileUnread-from now text unread.Fault was keeps refused = FileFailed-read was keeps refused
FileUnread-from now text unread.OutOfMemory was keeps refused = FilesStay-later was keeps refused
FileUnread-from now text unread.Endless was keeps refused = absurd refused
