-- What is known of IN, of which a front up to one byte past the limit was read.
use Rattle.std.proofs.Common.{◌≡◌, ◌+◌, ◌-◌, ◌<◌, ◌≤◌, ℕ, Bool, false, not, if◌then◌else◌, length, take, nat_le, Option, Some, None, Ok, Err, inl, inr, refl, ap, sym, subst, ◌∙◌, arith}
use Rattle.std.proofs.lemmas.List.{take_all, length-take}
use Rattle.std.proofs.lemmas.Bool.{cases_lt}
use Rattle.std.proofs.lemmas.Bool.Decides.{nat_tests}
use Rattle.semantics.specs.declared.limits.TheConstants.{MOST_INPUT_BYTES}
use Rattle.semantics.specs.Texts.{Bytes}
use Rattle.semantics.specs.Net.{NetValue}
use Rattle.blif_semantics.specs.Reading.{Refusal, text_long, blif_reading}
use Rattle.blif_semantics.proofs.ReadNet.{read_sound, read_small}
use Rattle.outside_semantics.specs.Outside.{FilesTold, SinkTold, Goes, WhereTold, bytes_of}
use Rattle.file_core.proofs.Told.{held_before}
use Rattle.file_reading.specs.Reading.{IsAllWanted, FileRead}
use Rattle.job_semantics.specs.Input.{input_reading, IsReadAs, IsRefusedFor}
use Rattle.job_semantics.specs.Synthesis.{OfInput, WhereHeld}
use Rattle.blif_text.specs.Refusals.{refusal_of, Tells}
use Rattle.blif_text.specs.declared.refusal.BlifRefusal.{BlifRefusal}
use Rattle.job_answers.specs.declared.status.Status.{Status}
use Rattle.job_answers.specs.Refused.{blif_answer}
use Rattle.job_answers.specs.declared.status.Status.TheVariants.{NoMemory, ReadFault}
use Rattle.conversions.specs.Input.{FrontRead, FrontUnread, NetRead, NetUnread, TextRefused}
use Rattle.conversions.proofs.Told.{blif_told, blif_untold}

-- the reading of a text is that of its front up to one byte past the limit
abbrev pub ReadsFront : {X : Type 0} → (Bytes → X) → Type 0
ReadsFront reading = (content : Bytes) → reading (take (MOST_INPUT_BYTES + 1) content) ≡ reading content

-- so it is where all texts past the limit are read alike
pub reads_front : {X : Type 0} (reading : Bytes → X) (long : X) → ((text : Bytes) → MOST_INPUT_BYTES < length text → reading text ≡ long) → ReadsFront reading
reads_front reading long alike content =
    elim (cases_lt MOST_INPUT_BYTES (length content)) [
      | inl past ↦ alike (take (MOST_INPUT_BYTES + 1) content) (omega (arith, length-take (MOST_INPUT_BYTES + 1) content)) ∙ sym (alike content past)
      | inr short ↦ ap reading (take_all (MOST_INPUT_BYTES + 1) content (omega arith))
    ]

pub if_false : {X : Type 0} (b : Bool) (x y : X) → b ≡ false → (if not b then x else y) ≡ x
if_false b x y is = ap (λ t. if not t then x else y) is

too_long : (text : Bytes) → MOST_INPUT_BYTES < length text → input_reading text ≡ Err text_long
unfolding blif_reading
too_long text past = if_false (nat_le (length text) MOST_INPUT_BYTES) _ _ (grind (arith, nat_tests))

pub net_reads_front : ReadsFront input_reading
net_reads_front = reads_front input_reading (Err text_long) too_long

-- what was read of a file is its front up to one byte past the limit
front_is : (content text : Bytes) (most room : ℕ) → length text ≤ most + 1 → room ≡ most + 1 - length text → IsAllWanted content text room → text ≡ take (most + 1) content
front_is content text most room within is all =
    elim all [
      | inl whole ↦ whole ∙ sym (take_all (most + 1) content (omega (arith, ap length whole, within)))
      | inr part ↦ part.1 ∙ ap (λ k. take k content) (omega (arith, part.0, is, within))
    ]

pub FrontRead-from : {old new : FilesTold} {name text : Bytes} {room : ℕ} → length text ≤ MOST_INPUT_BYTES + 1 → room ≡ MOST_INPUT_BYTES + 1 - length text
    → FileRead old new name text room → FrontRead old new name text
FrontRead-from {name = name} {text = text} {room = room} within is read = record {
  stay = read.stay;
  held = read.held;
  front = λ a b told tells. front_is (bytes_of a name) text MOST_INPUT_BYTES room within is (read.all a b told tells);
}

-- what is read of the front is read of IN
module _ {X : Type 0} (reading : Bytes → X) (front : ReadsFront reading) {old new : FilesTold} {name text : Bytes} (result : X) (read : FrontRead old new name text)
    (is : reading text ≡ result) where
  told-from : WhereTold old new (λ a b. reading (bytes_of a name) ≡ result)
  told-from a b told tells = sym (front (bytes_of a name)) ∙ ap reading (sym (read.front a b told tells)) ∙ is

  at_entry-from : WhereHeld old name (λ a. reading (bytes_of a name) ≡ result)
  at_entry-from a told has = sym (front (bytes_of a name)) ∙ ap reading (sym (read.front a a told (read.stay.still_told a told has))) ∙ is

  pub OfInput-from : {said says : SinkTold} → OfInput (record { old = old; new = new; said = said; says = says }) name (λ t. reading t ≡ result)
  OfInput-from = record { told = told-from; at_entry = at_entry-from }

-- later calls change nothing of it
pub OfInput-later : {old mid new : FilesTold} {said says : SinkTold} {name : Bytes} (P : Bytes → Type 0) → Goes mid new
    → OfInput (record { old = old; new = mid; said = said; says = says }) name P → OfInput (record { old = old; new = new; said = said; says = says }) name P
OfInput-later {old} {mid} {new} {said} {says} {name} P goes was = record {
  told = λ a b told tells. let m = held_before mid new goes b tells in was.told a m.0 told m.1;
  at_entry = was.at_entry;
}

-- what is known of IN once it was read as a net, and where it was refused
pub net_read : {old new : FilesTold} {said says : SinkTold} {name : Bytes} {N : NetValue} → NetRead old new name N
    → OfInput (record { old = old; new = new; said = said; says = says }) name (λ text. IsReadAs text N)
net_read read = record { told = read.told; at_entry = read.at_entry }

pub text_refused : {old new : FilesTold} {said says : SinkTold} {name : Bytes} {refusal : Refusal} → TextRefused refusal old new name
    → OfInput (record { old = old; new = new; said = said; says = says }) name (λ text. IsRefusedFor text refusal)
text_refused refused = record { told = refused.told; at_entry = refused.at_entry }

pub NetRead-from : {old new : FilesTold} {name text bytes : Bytes} {N : NetValue} → FrontRead old new name text → bytes ≡ text → input_reading bytes ≡ Ok N → NetRead old new name N
NetRead-from {bytes = bytes} {N = N} read same is =
    let as_net = ap input_reading (sym same) ∙ is in
    record {
      stay = read.stay;
      told = told-from input_reading net_reads_front (Ok N) read as_net;
      at_entry = at_entry-from input_reading net_reads_front (Ok N) read as_net;
      sound = read_sound bytes MOST_INPUT_BYTES N is;
      small = read_small bytes MOST_INPUT_BYTES N is;
    }

-- where IN was not read, there is no net
pub unread_net : (old new : FilesTold) (name : Bytes) (answer : Status) → FrontUnread old new name answer → NetUnread old new name answer
unread_net old new name ReadFault failed = failed
unread_net old new name NoMemory stay = stay
unread_net old new name _ bad = absurd bad

-- a refusal of the text is one of IN
refused_by : {old new : FilesTold} {name text : Bytes} (reason : BlifRefusal) (told : Option Refusal) → refusal_of reason ≡ told → FrontRead old new name text
    → Tells reason (input_reading text) → NetUnread old new name (blif_answer reason)
refused_by {old} {new} {name} reason None is read tells = subst (NetUnread old new name) (sym (blif_untold reason is)) read.stay
refused_by {old} {new} {name} reason (Some refusal) is read tells = subst (NetUnread old new name) (sym (blif_told reason refusal is)) (
  refusal,
  is,
  record {
    stay = read.stay;
    held = read.held;
    told = told-from input_reading net_reads_front (Err refusal) read (tells refusal is);
    at_entry = at_entry-from input_reading net_reads_front (Err refusal) read (tells refusal is);
  },
)

pub NetUnread-from : {old new : FilesTold} {name text bytes : Bytes} (reason : BlifRefusal) (answer : Status) → FrontRead old new name text → bytes ≡ text
    → Tells reason (input_reading bytes) → answer ≡ blif_answer reason → NetUnread old new name answer
NetUnread-from {old} {new} {name} {text} reason answer read same tells is =
    subst (NetUnread old new name) (sym is) (refused_by reason (refusal_of reason) refl read (subst (λ t. Tells reason (input_reading t)) same tells))
