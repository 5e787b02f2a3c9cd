-- What the reader's and the checker's answers say of a log's text.
use Rattle.std.proofs.Common.{◌≡◌, ℕ, ◌+◌, ◌<◌, ◌≤◌, Bool, true, false, List, [], ◌∷◌, ◌++◌, length, take, drop, refl, sym, ap, subst, ◌∙◌, inl, inr, Option, None, Some, Result, Ok, Err, slice_get}
use Rattle.std.proofs.Common.{is_some, append_assoc, length-append, if◌then◌else◌, ◌-◌, arith}
use Rattle.std.specs.Prelude.{◌⊎◌, ⊤, IfOk, IfSome, IsTrue}
use Rattle.std.proofs.lemmas.List.{append-nil, take-append-drop, take_more}
use Rattle.std.proofs.Math.Seq.{take-append_seam, take-length}
use Rattle.std.proofs.lemmas.Option.{slice_get_within, slice_get_cases, get_or_from_slice_get}
use Rattle.semantics.specs.Texts.{Bytes}
use Rattle.proof_semantics.specs.declared.item.Item.TheVariants.{Add, Remove}
use Rattle.proof_semantics.specs.declared.step_refusal.StepRefusal.{StepRefusal}
use Rattle.proof_semantics.specs.declared.step_refusal.StepRefusal.TheVariants as step
use Rattle.proof_semantics.specs.declared.lrat_refusal.LratRefusal.{LratRefusal}
use Rattle.proof_semantics.specs.declared.lrat_refusal.LratRefusal.TheVariants as text_refusal
use Rattle.proof_semantics.specs.Clauses.{Clause}
use Rattle.proof_semantics.specs.Logs.{StepValue, LogItem, IsSoundFrom, IsSoundLog, step_answer, last_added}
use Rattle.proof_semantics.specs.LratReading.{whole_items, good_part, with_end, lrat_refusal, lrat_items}
use Rattle.proof_semantics.specs.LratTokens.{ended_tokens}
use Rattle.proof_semantics.proofs.LratGrowth.{growth_law}
use Rattle.proof_semantics.proofs.Refutations.{refutation_law}
use Rattle.file_reading.specs.Reading.{IsAllWanted}
use Rattle.cnf_core.specs.LratReads.{LogRead, nothing_read, read_text, read_items, fed, IsFeedRefusal, after_next}
use Rattle.lrat_check.specs.Checker.{CheckerValue, start_of, stepped, removed, after, StandsAfter}
use Rattle.bundle_texts.specs.declared.judge.Judge.{Judge}
use Rattle.bundle_texts.specs.LogTold.{IsRefutingText, NeverRefutes, IsNeverSound, AreJudged, IsInStep, IsSoundSoFar, SoFar}
use Rattle.bundle_texts.specs.LogJudged.{HasTaken, IsKeptAtEnd, IsOfRefutation, IsLogIn}

rest_sound : (k : CheckerValue) (log more : List LogItem) → IsSoundFrom k.held k.last (log ++ more) → IsSoundFrom (after k log).held (after k log).last more
rest_sound k [] more h = h
rest_sound k (Add s ∷ log) more (rises, derives, h) = rest_sound (stepped k s) log more h
rest_sound k (Remove ids ∷ log) more h = rest_sound (removed k ids) log more h

-- no sound log goes on with a step that is refused
step_never : (clauses : List Clause) (log : List LogItem) (k : CheckerValue) (s : StepValue) (r : StepRefusal) → StandsAfter clauses log k
    → step_answer k.held k.last s ≡ Err r → IsNeverSound clauses (log ++ Add s ∷ [])
step_never clauses log k s r h refused later sound =
    let whole : IsSoundLog clauses (log ++ (Add s ∷ later)) = subst (IsSoundLog clauses) (append_assoc log (Add s ∷ []) later) sound in
    let rest : IsSoundFrom k.held k.last (Add s ∷ later) =
    subst (λ (c : CheckerValue). IsSoundFrom c.held c.last (Add s ∷ later)) (sym h.value) (rest_sound (start_of clauses) log (Add s ∷ later) whole) in
    let accepted : step_answer k.held k.last s ≡ Ok tt = (refutation_law.accepted k.held k.last s).1 (rest.0, rest.1) in
    cc

-- what a step's refusal says
pub step_refused : (answer : Result ⊤ StepRefusal) (old : CheckerValue) (s : StepValue) (r : StepRefusal) → (answer ≡ Err step.OutOfMemory) ⊎ (answer ≡ step_answer old.held old.last s)
    → answer ≡ Err r → ¬ (r ≡ step.OutOfMemory) → (clauses : List Clause) (log : List LogItem) → StandsAfter clauses log old → IsNeverSound clauses (log ++ Add s ∷ [])
step_refused answer old s r (inl memory) is other clauses log h = absurd (other (cc))
step_refused answer old s r (inr told) is other clauses log h = step_never clauses log old s r h (sym told ∙ is)

take_one_more : {X : Type 0} (xs : List X) (i : ℕ) (x : X) → slice_get xs i ≡ Some x → (i < length xs) × (take (i + 1) xs ≡ take i xs ++ x ∷ [])
take_one_more xs i x h =
    let within = slice_get_within xs i x h in
    (within, take_more xs i x within ∙ ap (λ y. take i xs ++ y ∷ []) (get_or_from_slice_get xs i x x h))

none_past : {X : Type 0} (xs : List X) (i : ℕ) → slice_get xs i ≡ None → length xs ≤ i
none_past xs i h = elim (slice_get_cases xs i).1 [ inl found ↦ cc (found.2, h) | inr past ↦ past.0 ]

-- the next item is given
next_is : (now next : LogRead) (item : LogItem) → Some item ≡ slice_get (read_items now) now.given → next ≡ after_next now → next ≡ record now { given = now.given + 1 }
next_is now next item h is = is ∙ ap (λ (o : Option LogItem). record now { given = if is_some o then now.given + 1 else now.given }) (sym h)

pub last_is : (now next : LogRead) → None ≡ slice_get (read_items now) now.given → next ≡ after_next now → next ≡ now
last_is now next none is = is ∙ ap (λ (o : Option LogItem). record now { given = if is_some o then now.given + 1 else now.given }) (sym none)

pub grown_within : (old v : LogRead) (more : Bytes) → old.finished ≡ false → old.given ≤ length (read_items old) → read_items v ≡ whole_items (old.text ++ more) → v.given ≡ old.given
    → v.given ≤ length (read_items v)
grown_within old v more going within items given =
    let same : read_items old ≡ whole_items old.text = ap (λ b. whole_items (read_text old.text b)) going in
    let later = growth_law.items old.text more in
    omega (arith, within, given, ap length items, ap length same, ap length later.1, length-append (whole_items old.text) later.0)

pub fed_items : (old v : LogRead) (piece : Bytes) → old.finished ≡ false → v ≡ fed old piece → read_items v ≡ whole_items (old.text ++ piece)
fed_items old v piece going is = ap read_items is ∙ ap (λ b. whole_items (read_text (old.text ++ piece) b)) going

pub ended_items : (old v : LogRead) → v ≡ record old { finished = true } → read_items v ≡ whole_items (with_end old.text)
ended_items old v is = ap read_items is

nothing_whole : whole_items [] ≡ []
unfolding whole_items good_part ended_tokens
nothing_whole = refl

-- a text that begins with items one of which is refused, or with a text that is refused, never refutes
items_never : (clauses : List Clause) (text : Bytes) → IsNeverSound clauses (whole_items text) → NeverRefutes clauses text
items_never clauses text never more (log, read, refutes) =
    let later = (growth_law.read text more log read).1 in
    never later.0 (subst (IsSoundLog clauses) later.1 refutes.sound)

text_never : (clauses : List Clause) (text : Bytes) (r : LratRefusal) → lrat_refusal text ≡ Some r → NeverRefutes clauses text
text_never clauses text r refused more (log, read, refutes) = let calm : lrat_refusal text ≡ None = (growth_law.read text more log read).0 in cc

-- the text with a piece is refused
pub record IsRefusedNow (old new : LogRead) (piece : Bytes) : Type 0 where
  pub text : new.text ≡ old.text ++ piece
  pub judged : (clauses : List Clause) → NeverRefutes clauses new.text

pub refused_now : (old new : LogRead) (piece : Bytes) (r : LratRefusal) → old.refused ≡ None → IsFeedRefusal old piece r new → ¬ (r ≡ text_refusal.OutOfMemory) → IsRefusedNow old new piece
refused_now old new piece r calm refused other =
    elim (rw calm at refused) [
      | inl memory ↦ absurd (other memory.0)
      | inr now ↦
          let text : new.text ≡ old.text ++ piece = ap (λ (v : LogRead). v.text) now.0 in
          record { text = text; judged = λ clauses. text_never clauses new.text r (ap lrat_refusal text ∙ sym (ap (λ (v : LogRead). v.refused) now.0) ∙ now.1) }
    ]

pub never_ended : (clauses : List Clause) (text : Bytes) (items : List LogItem) → lrat_items text ≡ Ok items → IsNeverSound clauses items → ¬ IsRefutingText clauses text
never_ended clauses text items read never (log, other, r) =
    let same : log ≡ items ++ [] = cc (append-nil items) in
    never [] (subst (IsSoundLog clauses) same r.sound)

-- what is known of all the text that was wanted
pub never_content : (clauses : List Clause) (content text : Bytes) (room : ℕ) → NeverRefutes clauses text → IsAllWanted content text room → ¬ IsRefutingText clauses content
never_content clauses content text room never (inl whole) refutes =
    never [] (subst (IsRefutingText clauses) (sym whole ∙ sym (append-nil text)) refutes)
never_content clauses content text room never (inr (none, front)) refutes =
    never (drop (length text) content) (subst (IsRefutingText clauses) (sym (take-append-drop (length text) content) ∙ ap (λ t. t ++ drop (length text) content) (sym front)) refutes)

-- what is kept of a whole text whose items were all taken
pub kept_in : {L : Type 0} (holds : L → List LogItem → Type 0) (clauses : List Clause) (text : Bytes) (items : List LogItem) (judge : Judge L) (kept : Option L) → lrat_items text ≡ Ok items
    → HasTaken holds clauses items judge → IsKeptAtEnd holds items kept → IsLogIn holds clauses kept text
kept_in holds clauses text items judge None read taken other = λ (log, again, r). let same : items ≡ log = cc in other (ap last_added same ∙ r.ends)
kept_in holds clauses text items judge (Some kept) read taken (ends, held) = (items, read, record { sound = taken.checked.sound; ends = ends }, held)

-- what is known of what is kept, whatever the text
pub of_refutation : {L : Type 0} (holds : L → List LogItem → Type 0) (clauses : List Clause) (kept : Option L) (text : Bytes) → IsLogIn holds clauses kept text
    → IfSome kept (IsOfRefutation holds clauses)
of_refutation holds clauses None text h = tt
of_refutation holds clauses (Some kept) text (log, read, refutes, held) = (log, refutes, held)

-- what judges the items of a log, by what it says that they were all accepted
module _ {K : Type 0} (Accepted : List Clause → List LogItem → K → Type 0) where
  -- the reader gave some items, and the checker stands after them where it stood before them
  pub record HasGiven (first : LogRead) (start : K) (now : LogRead) (k : K) : Type 0 where
    pub reading : now ≡ record first { given = now.given }
    pub within : now.given ≤ length (read_items first)
    pub in_step : (clauses : List Clause) → IsInStep Accepted clauses first start → IsInStep Accepted clauses now k

  pub HasGiven-none : (first : LogRead) (start : K) → first.given ≤ length (read_items first) → HasGiven first start first start
  HasGiven-none first start within = record { reading = refl; within = within; in_step = λ clauses h. h }

  pub HasGiven-next : {first now next : LogRead} {start k after : K} (item : LogItem) → HasGiven first start now k → Some item ≡ slice_get (read_items now) now.given → next ≡ after_next now
      → ((clauses : List Clause) (log : List LogItem) → Accepted clauses log k → Accepted clauses (log ++ item ∷ []) after) → HasGiven first start next after
  HasGiven-next {first} {now} {next} {start} {k} {after} item h found is stands =
      let one = next_is now next item found is in
      let more = take_one_more (read_items now) now.given item (sym found) in
      let front : take next.given (read_items next) ≡ take now.given (read_items now) ++ item ∷ [] = ap (λ (v : LogRead). take v.given (read_items v)) one ∙ more.1 in
      record {
        reading = one ∙ ap (λ (v : LogRead). record v { given = now.given + 1 }) h.reading ∙ ap (λ n. record first { given = n }) (sym (ap (λ (v : LogRead). v.given) one));
        within = omega (arith, more.0, ap (λ (v : LogRead). v.given) one, ap (λ (v : LogRead). length (read_items v)) h.reading);
        in_step = λ clauses s. subst (λ log. Accepted clauses log after) (sym front) (stands clauses (take now.given (read_items now)) (h.in_step clauses s));
      }

  pub given_falls : {first now next : LogRead} {start k : K} (item : LogItem) → HasGiven first start now k → Some item ≡ slice_get (read_items now) now.given → next ≡ after_next now
      → length (read_items first) - next.given < length (read_items first) - now.given
  given_falls {first} {now} {next} item h found is =
      let one = next_is now next item found is in
      let more = take_one_more (read_items now) now.given item (sym found) in
      omega (arith, more.0, ap (λ (v : LogRead). v.given) one, ap (λ (v : LogRead). length (read_items v)) h.reading)

  -- an item is refused
  pub HasGiven-refused : {first now : LogRead} {start k : K} (item : LogItem) → HasGiven first start now k → Some item ≡ slice_get (read_items now) now.given
      → ((clauses : List Clause) (log : List LogItem) → Accepted clauses log k → IsNeverSound clauses (log ++ item ∷ []))
      → (clauses : List Clause) → IsInStep Accepted clauses first start → IsNeverSound clauses (read_items first)
  HasGiven-refused {first} {now} item h found refused clauses s later sound =
      let items = read_items first in
      let same : read_items now ≡ items = ap read_items h.reading in
      let more = take_one_more (read_items now) now.given item (sym found) in
      let rest = drop (now.given + 1) (read_items now) in
      let whole : items ≡ (take now.given (read_items now) ++ item ∷ []) ++ rest = sym same ∙ sym (take-append-drop (now.given + 1) (read_items now)) ∙ ap (λ t. t ++ rest) more.1 in
      refused clauses (take now.given (read_items now)) (h.in_step clauses s) (rest ++ later)
      (subst (IsSoundLog clauses) (ap (λ t. t ++ later) whole ∙ append_assoc (take now.given (read_items now) ++ item ∷ []) rest later) sound)

  -- no item is left
  pub given_all : {first now : LogRead} {start k : K} → HasGiven first start now k → None ≡ slice_get (read_items now) now.given → now.given ≡ length (read_items first)
  given_all {first} {now} h none =
      let past = none_past (read_items now) now.given (sym none) in
      omega (arith, past, h.within, ap (λ (v : LogRead). length (read_items v)) h.reading)

  pub all_stand : {first now : LogRead} {start k : K} → HasGiven first start now k → now.given ≡ length (read_items first)
      → (clauses : List Clause) → IsInStep Accepted clauses first start → Accepted clauses (read_items first) k
  all_stand {first} {now} {start} {k} h all clauses s =
      let same : read_items now ≡ read_items first = ap read_items h.reading in
      let whole : take now.given (read_items now) ≡ read_items first = (λ i. take (all i) (same i)) ∙ take-length (read_items first) in
      subst (λ log. Accepted clauses log k) whole (h.in_step clauses s)

  -- more text leaves the items that were whole before it
  grown : (clauses : List Clause) (old : LogRead) (k : K) (more : Bytes) (v : LogRead) → IsSoundSoFar Accepted clauses old k → read_items v ≡ whole_items (old.text ++ more) → v.given ≡ old.given
      → IsInStep Accepted clauses v k
  grown clauses old k more v h items given =
      let same : read_items old ≡ whole_items old.text = ap (λ b. whole_items (read_text old.text b)) h.going in
      let later = growth_law.items old.text more in
      let front : take v.given (read_items v) ≡ whole_items old.text =
      (λ i. take ((given ∙ h.all_given ∙ ap length same) i) ((items ∙ later.1) i)) ∙ take-append_seam (whole_items old.text) later.0 in
      subst (λ log. Accepted clauses log k) (same ∙ sym front) h.sound

  pub starts_sound : (clauses : List Clause) (v : LogRead) (k : K) → v ≡ nothing_read → Accepted clauses [] k → IsSoundSoFar Accepted clauses v k
  starts_sound clauses v k is stands =
      let none : read_items v ≡ [] = ap read_items is ∙ nothing_whole in
      record {
        going = ap (λ (u : LogRead). u.finished) is;
        calm = ap (λ (u : LogRead). u.refused) is;
        all_given = ap (λ (u : LogRead). u.given) is ∙ sym (ap length none);
        sound = subst (λ log. Accepted clauses log k) (sym none) stands;
      }

  -- a piece was read, and the items that were whole with it were judged
  pub went_on : {E : Type 0} (old mid new : LogRead) (piece : Bytes) (k after : K) (answer : Result Bool E) → mid ≡ fed old piece → mid.refused ≡ None
      → ((given : ℕ) × (new ≡ record mid { given = given }))
      → IfOk answer (λ accepted. IsTrue accepted → new.given ≡ length (read_items mid))
      → IfOk answer (λ accepted. (clauses : List Clause) → IsInStep Accepted clauses mid k → AreJudged Accepted accepted clauses (read_items mid) after)
      → IfOk answer (λ more. (clauses : List Clause) → IsSoundSoFar Accepted clauses old k → SoFar Accepted more clauses new after)
  went_on old mid new piece k after (Err e) is calm reading given judged = tt
  went_on old mid new piece k after (Ok true) is calm reading given judged = λ clauses h.
      let items : read_items mid ≡ read_items new = sym (ap read_items reading.1) in
      let stands = judged clauses (grown clauses old k piece mid h (fed_items old mid piece h.going is) (ap (λ (v : LogRead). v.given) is)) in
      record {
        going = ap (λ (v : LogRead). v.finished) (reading.1 ∙ ap (λ (v : LogRead). record v { given = reading.0 }) is) ∙ h.going;
        calm = ap (λ (v : LogRead). v.refused) reading.1 ∙ calm;
        all_given = given refl ∙ ap length items;
        sound = subst (λ log. Accepted clauses log after) items stands;
      }
  went_on old mid new piece k after (Ok false) is calm reading given judged = λ clauses h.
      let text : new.text ≡ old.text ++ piece = ap (λ (v : LogRead). v.text) (reading.1 ∙ ap (λ (v : LogRead). record v { given = reading.0 }) is) in
      let items = fed_items old mid piece h.going is in
      let never = judged clauses (grown clauses old k piece mid h items (ap (λ (v : LogRead). v.given) is)) in
      items_never clauses new.text (subst (IsNeverSound clauses) (items ∙ ap whole_items (sym text)) never)

  pub judged_at_end : {clauses : List Clause} {old mid : LogRead} {k : K} → mid ≡ record old { finished = true } → IsSoundSoFar Accepted clauses old k → IsInStep Accepted clauses mid k
  judged_at_end {clauses} {old} {mid} {k} is h = grown clauses old k (10 ∷ []) mid h (ended_items old mid is) (ap (λ (v : LogRead). v.given) is)
