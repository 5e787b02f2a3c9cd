-- Scanning a text byte by byte comes to what matching its tokens comes to.
use Rattle.std.proofs.Common.{◌≡◌, ℕ, suc, ◌+◌, ◌<◌, List, [], ◌∷◌, ◌++◌, length, true, false, Bool, refl, ap, sym, ◌∙◌, append_assoc, length-append, zero-add, arith}
use Rattle.std.specs.Prelude.{All, fold}
use Rattle.std.specs.List.{slice_split, take_while}
use Rattle.std.proofs.lemmas.Bool.{le-ltb, lt-ltb}
use Rattle.std.proofs.lemmas.List.{append-nil}
use Rattle.std.proofs.lemmas.List.Splits.{slice_split_none, slice_split_at, length-slice_split}
use Rattle.std.proofs.lemmas.List.Sums.{take_while-cons, fold-append}
use Rattle.std.proofs.lemmas.List.Elements.{All-nil, All-cons, All-append}
use Rattle.semantics.specs.Texts.{Bytes}
use Rattle.proof_semantics.specs.declared.lrat_refusal.LratRefusal.TheVariants.{BadByte}
use Rattle.proof_semantics.specs.Logs.{LogItem}
use Rattle.proof_semantics.specs.LratTokens.{is_blank, is_log_byte, Token, token_at, ended, ended_tokens}
use Rattle.proof_semantics.specs.LratMatching.{Stage, Outside, Begun, Literals, Hints, Deletion, Refused, stage_after_all, items_given}
use Rattle.proof_semantics.specs.LratReading.{good_part, whole_items, is_refused, stage_with_byte, stage_of}
use Rattle.proof_semantics.proofs.LratGrowth.{ended_more}
use Rattle.cnf_core.specs.declared.held_word.HeldWord.{HeldWord}
use Rattle.cnf_core.specs.declared.held_word.HeldWord.TheVariants.{Empty}
use Rattle.cnf_core.specs.LratScanning.{held_with, ended_word, ScannerValue, begin, stage_with, given_with, closed, closed_gives, scanned, gives, scanned_all, all_given}
use Rattle.cnf_core.proofs.LratForms.{word_is}

-- behind a refusal nothing changes
refused_scan : (s : ScannerValue) (text : Bytes) → is_refused s.stage ≡ true → (scanned_all s text ≡ s) × (all_given s text ≡ [])
refused_scan s [] r = (refl, refl)
refused_scan s (c ∷ cs) r = rw r (refused_scan s cs r)

refused_match : (st : Stage) (ts : List Token) → is_refused st ≡ true → (stage_after_all st ts ≡ st) × (items_given st ts ≡ [])
refused_match st [] r = (refl, refl)
refused_match (Refused refusal) (t ∷ ts) r = refused_match (Refused refusal) ts r
refused_match Outside (t ∷ ts) r = cc
refused_match (Begun id) (t ∷ ts) r = cc
refused_match (Literals id literals) (t ∷ ts) r = cc
refused_match (Hints id literals hints) (t ∷ ts) r = cc
refused_match (Deletion ids) (t ∷ ts) r = cc

abbrev held_word : Bytes → HeldWord
held_word held = fold held_with Empty held

-- to end the token at hand is to match it
closes : (st : Stage) (place : ℕ) (held : Bytes) (ts : List Token)
    → (stage_after_all st (token_at place held ++ ts) ≡ stage_after_all (stage_with st (ended_word (held_word held)) place) ts)
    × (items_given st (token_at place held ++ ts) ≡ given_with st (ended_word (held_word held)) ++ items_given (stage_with st (ended_word (held_word held)) place) ts)
closes st place [] ts = (refl, refl)
closes st place (c ∷ cs) ts = rw (word_is c cs) (refl, refl)

-- the parts of what is held of the token at hand and the text's good part
abbrev parts : Bytes → Bytes → List Bytes
parts held text = slice_split is_blank (held ++ take_while is_log_byte text)

record Fits (s : ScannerValue) (held : Bytes) : Type 0 where
  going : is_refused s.stage ≡ false
  word : s.word ≡ held_word held
  at : s.at ≡ s.start + length held
  plain : All (λ x. is_blank x ≡ false) held

record Agrees (s : ScannerValue) (held text : Bytes) : Type 0 where
  stage : (scanned_all s text).stage ≡ stage_with_byte (stage_after_all s.stage (ended s.start (parts held text))) (s.at + length (take_while is_log_byte text)) (s.at + length text)
  items : all_given s text ≡ items_given s.stage (ended s.start (parts held text))

a_refusal : (st : Stage) (bad size : ℕ) → is_refused st ≡ true → stage_with_byte st bad size ≡ st
a_refusal st bad size r = rw r refl

nothing_bad : (st : Stage) (n : ℕ) → is_refused st ≡ false → stage_with_byte st n n ≡ st
nothing_bad st n r = rw (r, le-ltb n n (omega arith)) refl

bad_here : (st : Stage) (n m k : ℕ) → is_refused st ≡ false → m ≡ n → m < k → stage_with_byte st m k ≡ Refused (BadByte n)
bad_here st n m k r f h = rw (r, lt-ltb m k h, f) refl

agrees_nil : (s : ScannerValue) (held : Bytes) → Fits s held → Agrees s held []
agrees_nil s held fits =
    let e : parts held [] ≡ held ∷ [] = rw append-nil (slice_split_none is_blank held fits.plain) in
    record {
      stage = rw e (sym (nothing_bad s.stage (s.at + 0) fits.going));
      items = rw e refl;
    }

blank_is_good : (c : ℕ) → is_blank c ≡ true → is_log_byte c ≡ true
unfolding is_log_byte
blank_is_good c h = rw h refl

scan_blank : (s : ScannerValue) (c : ℕ) → is_refused s.stage ≡ false → is_blank c ≡ true → (scanned s c ≡ closed s) × (gives s c ≡ closed_gives s)
scan_blank s c r b = (rw (r, b) refl, rw (r, b) refl)

scan_good : (s : ScannerValue) (c : ℕ) → is_refused s.stage ≡ false → is_blank c ≡ false → is_log_byte c ≡ true
    → (scanned s c ≡ record s { word = held_with s.word c; at = s.at + 1 }) × (gives s c ≡ [])
scan_good s c r b g = (rw (r, b, g) refl, rw (r, b) refl)

scan_bad : (s : ScannerValue) (c : ℕ) → is_refused s.stage ≡ false → is_blank c ≡ false → is_log_byte c ≡ false → (scanned s c ≡ record s { stage = Refused (BadByte s.at) }) × (gives s c ≡ [])
scan_bad s c r b g = (rw (r, b, g) refl, rw (r, b) refl)

first_scan : (s t : ScannerValue) (c : ℕ) (cs : Bytes) → scanned s c ≡ t → (scanned_all s (c ∷ cs)).stage ≡ (scanned_all t cs).stage
first_scan s t c cs e = ap (λ (u : ScannerValue). (scanned_all u cs).stage) e

first_give : (s t : ScannerValue) (c : ℕ) (cs : Bytes) (xs : List LogItem) → scanned s c ≡ t → gives s c ≡ xs → all_given s (c ∷ cs) ≡ xs ++ all_given t cs
first_give s t c cs xs e f = ap (λ (ys : List LogItem). ys ++ all_given (scanned s c) cs) f ∙ ap (λ (u : ScannerValue). xs ++ all_given u cs) e

agrees_bad : (s : ScannerValue) (held : Bytes) (c : ℕ) (cs : Bytes) → Fits s held → is_blank c ≡ false → is_log_byte c ≡ false → Agrees s held (c ∷ cs)
agrees_bad s held c cs fits b g =
    let e : take_while is_log_byte (c ∷ cs) ≡ [] = rw (take_while-cons is_log_byte c cs, g) refl in
    let f : parts held (c ∷ cs) ≡ held ∷ [] = rw (e, append-nil) (slice_split_none is_blank held fits.plain) in
    let t : ScannerValue = record s { stage = Refused (BadByte s.at) } in
    let scan = scan_bad s c fits.going b g in
    let stays = refused_scan t cs refl in
    let o : is_refused (stage_after_all s.stage (ended s.start (parts held (c ∷ cs)))) ≡ false = rw f fits.going in
    let n : s.at + length (take_while is_log_byte (c ∷ cs)) ≡ s.at = rw e (omega arith) in
    record {
      stage = first_scan s t c cs scan.0 ∙ ap (λ (u : ScannerValue). u.stage) stays.0 ∙ sym (bad_here _ s.at _ (s.at + length (c ∷ cs)) o n (omega arith));
      items = first_give s t c cs [] scan.0 scan.1 ∙ stays.1 ∙ rw f refl;
    }

shifted : (x o p : Stage) (m n a b d : ℕ) → x ≡ stage_with_byte o (m + a) (m + b) → m ≡ n + 1 → p ≡ o → d ≡ suc a → x ≡ stage_with_byte p (n + d) (n + suc b)
shifted x o p m n a b d h g e f =
    let i : m + a ≡ n + suc a = omega arith in
    let j : m + b ≡ n + suc b = omega arith in
    rw (e, f, ← i, ← j) h

agrees_good : (s : ScannerValue) (held : Bytes) (c : ℕ) (cs : Bytes) → Fits s held → is_blank c ≡ false → is_log_byte c ≡ true → ((t : ScannerValue) (more : Bytes) → Fits t more → Agrees t more cs)
    → Agrees s held (c ∷ cs)
agrees_good s held c cs fits b g rest =
    let e : take_while is_log_byte (c ∷ cs) ≡ c ∷ take_while is_log_byte cs = rw (take_while-cons is_log_byte c cs, g) refl in
    let t : ScannerValue = record s { word = held_with s.word c; at = s.at + 1 } in
    let more = held ++ c ∷ [] in
    let f : parts held (c ∷ cs) ≡ parts more cs = rw e (ap (slice_split is_blank) (sym (append_assoc held (c ∷ []) (take_while is_log_byte cs)))) in
    let scan = scan_good s c fits.going b g in
    let fit : Fits t more = record {
      going = fits.going;
      word = rw fits.word (sym (fold-append held_with Empty held (c ∷ [])));
      at = rw (length-append held (c ∷ [])) (omega (arith, fits.at));
      plain = All-append (λ x. is_blank x ≡ false) held (c ∷ []) fits.plain (All-cons (λ x. is_blank x ≡ false) c [] b (All-nil (λ x. is_blank x ≡ false)));
    } in
    let r = rest t more fit in
    record {
      stage = first_scan s t c cs scan.0 ∙ shifted _ _ _ (s.at + 1) s.at (length (take_while is_log_byte cs)) (length cs) _ r.stage refl
          (ap (λ (ps : List Bytes). stage_after_all s.stage (ended s.start ps)) f) (ap length e);
      items = first_give s t c cs [] scan.0 scan.1 ∙ r.items ∙ ap (λ (ps : List Bytes). items_given s.stage (ended s.start ps)) (sym f);
    }

blank_cases :
    (s : ScannerValue) (held : Bytes) (c : ℕ) (cs : Bytes) (t : ScannerValue) →
    (scanned s c ≡ t) × (gives s c ≡ closed_gives s) → t.at ≡ s.at + 1 →
    stage_after_all s.stage (ended s.start (parts held (c ∷ cs))) ≡ stage_after_all t.stage (ended t.start (parts [] cs)) →
    items_given s.stage (ended s.start (parts held (c ∷ cs))) ≡ closed_gives s ++ items_given t.stage (ended t.start (parts [] cs)) →
    take_while is_log_byte (c ∷ cs) ≡ c ∷ take_while is_log_byte cs →
    (r : Bool) → is_refused t.stage ≡ r → (is_refused t.stage ≡ false → Agrees t [] cs) → Agrees s held (c ∷ cs)
blank_cases s held c cs t scan at stage items e true r rest =
    let later = ended t.start (parts [] cs) in
    let stays = refused_scan t cs r in
    let same = refused_match t.stage later r in
    record {
      stage = first_scan s t c cs scan.0 ∙ ap (λ (u : ScannerValue). u.stage) stays.0
          ∙ sym (ap (λ (st : Stage). stage_with_byte st (s.at + length (take_while is_log_byte (c ∷ cs))) (s.at + length (c ∷ cs))) (stage ∙ same.0) ∙ a_refusal t.stage _ _ r);
      items = first_give s t c cs _ scan.0 scan.1 ∙ ap (λ xs. closed_gives s ++ xs) (stays.1 ∙ sym same.1) ∙ sym items;
    }
blank_cases s held c cs t scan at stage items e false r rest =
    let a = rest r in
    record {
      stage = first_scan s t c cs scan.0 ∙ shifted _ _ _ t.at s.at (length (take_while is_log_byte cs)) (length cs) _ a.stage at stage (ap length e);
      items = first_give s t c cs _ scan.0 scan.1 ∙ ap (λ xs. closed_gives s ++ xs) a.items ∙ sym items;
    }

agrees_blank : (s : ScannerValue) (held : Bytes) (c : ℕ) (cs : Bytes) → Fits s held → is_blank c ≡ true → ((t : ScannerValue) (more : Bytes) → Fits t more → Agrees t more cs) → Agrees s held (c ∷ cs)
agrees_blank s held c cs fits b rest =
    let g = blank_is_good c b in
    let e : take_while is_log_byte (c ∷ cs) ≡ c ∷ take_while is_log_byte cs = rw (take_while-cons is_log_byte c cs, g) refl in
    let t : ScannerValue = closed s in
    let later = ended t.start (parts [] cs) in
    let scan = scan_blank s c fits.going b in
    let f : parts held (c ∷ cs) ≡ held ∷ parts [] cs = rw e (slice_split_at is_blank held c (take_while is_log_byte cs) fits.plain b) in
    let i : s.at + 1 ≡ s.start + length held + 1 = omega (arith, fits.at) in
    let k : ended s.start (parts held (c ∷ cs)) ≡ token_at s.start held ++ later
    = rw (f, i) (ended_more s.start held (parts [] cs) (omega (arith, length-slice_split is_blank (take_while is_log_byte cs)))) in
    let m = closes s.stage s.start held later in
    let stage : stage_after_all s.stage (ended s.start (parts held (c ∷ cs))) ≡ stage_after_all t.stage later = rw (k, fits.word) m.0 in
    let items : items_given s.stage (ended s.start (parts held (c ∷ cs))) ≡ closed_gives s ++ items_given t.stage later = rw (k, fits.word) m.1 in
    blank_cases s held c cs t scan refl stage items e (is_refused t.stage) refl (λ going. rest t [] (record { going = going; word = refl; at = omega arith; plain = All-nil _ }))

agrees_byte : (s : ScannerValue) (held : Bytes) (c : ℕ) (cs : Bytes) → Fits s held → ((t : ScannerValue) (more : Bytes) → Fits t more → Agrees t more cs) → (b g : Bool) → is_blank c ≡ b
    → is_log_byte c ≡ g → Agrees s held (c ∷ cs)
agrees_byte s held c cs fits rest true g b h = agrees_blank s held c cs fits b rest
agrees_byte s held c cs fits rest false true b h = agrees_good s held c cs fits b h rest
agrees_byte s held c cs fits rest false false b h = agrees_bad s held c cs fits b h

agrees : (text : Bytes) (s : ScannerValue) (held : Bytes) → Fits s held → Agrees s held text
agrees [] s held fits = agrees_nil s held fits
agrees (c ∷ cs) s held fits = agrees_byte s held c cs fits (λ t more fit. agrees cs t more fit) (is_blank c) (is_log_byte c) refl refl

begins : Fits begin []
begins = record { going = refl; word = refl; at = refl; plain = All-nil _ }

-- the two functions of a text, byte by byte
pub stage_scanned : (text : Bytes) → (scanned_all begin text).stage ≡ stage_of text
unfolding stage_of ended_tokens good_part
stage_scanned text = (agrees text begin [] begins).stage ∙ simp zero-add

pub items_scanned : (text : Bytes) → all_given begin text ≡ whole_items text
unfolding whole_items ended_tokens good_part
items_scanned text = (agrees text begin [] begins).items
