-- How a reader's fields stand after a piece and at the end of the text.
use Rattle.std.proofs.Common.{◌≡◌, ℕ, ◌+◌, ◌-◌, ◌≤◌, List, [], ◌∷◌, ◌++◌, length, drop, true, false, Bool, refl, ap, sym, ◌∙◌, subst, append_assoc, append-nil, length-append, length-drop, arith}
use Rattle.std.proofs.Common.{Some, None, Option, Ok, Err, Result, inr}
use Rattle.std.specs.Prelude.{if◌then◌else◌, ◌==◌}
use Rattle.std.proofs.lemmas.List.{drop-append-le}
use Rattle.semantics.specs.Texts.{Bytes}
use Rattle.proof_semantics.specs.declared.lrat_refusal.LratRefusal.{LratRefusal}
use Rattle.proof_semantics.specs.declared.lrat_word.LratWord.{LratWord}
use Rattle.proof_semantics.specs.declared.lrat_word.LratWord.TheVariants.{Letter, Number, Malformed}
use Rattle.proof_semantics.specs.Logs.{LogItem}
use Rattle.proof_semantics.specs.LratTokens.{is_blank}
use Rattle.proof_semantics.specs.LratMatching.{Stage, Outside, Begun, Literals, Hints, Deletion, Refused}
use Rattle.proof_semantics.specs.LratReading.{whole_items, is_refused, refusal_at, stage_of, with_end, refusal_at_end, lrat_items}
use Rattle.proof_semantics.proofs.LratTexts.{items_at_end}
use Rattle.cnf_core.specs.declared.lrat_part.Part.{Part}
use Rattle.cnf_core.specs.declared.lrat_part.Part.TheVariants.{BetweenItems, AfterId, InLiterals, InHints, InDeletion, AfterRefusal}
use Rattle.cnf_core.specs.declared.lrat_reader.LratReader.TheInside.{Inside}
use Rattle.cnf_core.specs.declared.lrat_scanner.Scanner.{Scanner}
use Rattle.cnf_core.specs.Drafts.{ItemDraftValue}
use Rattle.cnf_core.specs.LratParts.{stage_at, scanner_at}
use Rattle.cnf_core.specs.LratScanning.{ScannerValue, begin, ended_word, stage_with, given_with, closed, closed_gives, scanned, gives, scanned_all, all_given}
use Rattle.cnf_core.specs.LratReads.{LogRead, nothing_read, fed, IsFeedRefusal, IsFinishRefusal, read_text, read_items}
use Rattle.cnf_core.specs.LratStanding.{read_view, Stands}
use Rattle.cnf_core.proofs.LratScans.{scanned-at}
use Rattle.cnf_core.proofs.LratReadings.{stage_scanned, items_scanned}

scanned_all-append : (s : ScannerValue) (xs ys : Bytes) → scanned_all s (xs ++ ys) ≡ scanned_all (scanned_all s xs) ys
scanned_all-append s [] ys = refl
scanned_all-append s (x ∷ xs) ys = scanned_all-append (scanned s x) xs ys

all_given-append : (s : ScannerValue) (xs ys : Bytes) → all_given s (xs ++ ys) ≡ all_given s xs ++ all_given (scanned_all s xs) ys
all_given-append s [] ys = refl
all_given-append s (x ∷ xs) ys =
    ap (λ zs. gives s x ++ zs) (all_given-append (scanned s x) xs ys) ∙ sym (append_assoc (gives s x) (all_given (scanned s x) xs) (all_given (scanned_all (scanned s x) xs) ys))

scanned_all-at : (s : ScannerValue) (xs : Bytes) → (scanned_all s xs).at ≤ s.at + length xs
scanned_all-at s [] = omega arith
scanned_all-at s (x ∷ xs) = omega (arith, scanned-at s x, scanned_all-at (scanned s x) xs)

not_refused : (st : Stage) → refusal_at st ≡ None → is_refused st ≡ false
not_refused (Refused refusal) h = cc
not_refused Outside h = refl
not_refused (Begun id) h = refl
not_refused (Literals id literals) h = refl
not_refused (Hints id literals hints) h = refl
not_refused (Deletion ids) h = refl

none_at_end : (st : Stage) → refusal_at_end st ≡ None → refusal_at st ≡ None
none_at_end (Refused refusal) h = cc
none_at_end Outside h = refl
none_at_end (Begun id) h = refl
none_at_end (Literals id literals) h = refl
none_at_end (Hints id literals hints) h = refl
none_at_end (Deletion ids) h = refl

-- lists that were begun before those at hand mean nothing
stage_at-settled : (part : Part) (old new : ItemDraftValue) → new.literals.at_hand ≡ old.literals.at_hand → new.numbers.at_hand ≡ old.numbers.at_hand → stage_at part new ≡ stage_at part old
stage_at-settled BetweenItems old new l n = refl
stage_at-settled (AfterId id) old new l n = refl
stage_at-settled (InLiterals id) old new l n = ap (λ xs. Literals id xs) l
stage_at-settled (InHints id) old new l n = cc (l, n)
stage_at-settled InDeletion old new l n = ap (λ xs. Deletion xs) n
stage_at-settled (AfterRefusal refusal) old new l n = refl

-- a draft once it was settled
abbrev pub settled : ItemDraftValue → ItemDraftValue
settled d = record { literals = record { before = []; at_hand = d.literals.at_hand }; numbers = record { before = []; at_hand = d.numbers.at_hand } }

stage-settled : (part : Part) (draft new : ItemDraftValue) → new ≡ settled draft → stage_at part new ≡ stage_at part draft
stage-settled part draft new d = stage_at-settled part draft new (ap (λ (v : ItemDraftValue). v.literals.at_hand) d) (ap (λ (v : ItemDraftValue). v.numbers.at_hand) d)

abbrev stage : Inside → Stage
stage a = stage_at a.scanner.part a.draft

abbrev scanner : Inside → ScannerValue
scanner a = scanner_at a.scanner a.draft

-- a reader that goes on stands where the scanner of its text does
going_scanner : (a : Inside) → Stands a → a.is_finished ≡ false → refusal_at (stage a) ≡ None → scanner a ≡ scanned_all begin a.text.bytes
going_scanner a h going calm = h.scanner (not_refused (stage a) calm) ∙ ap (λ b. scanned_all begin (read_text a.text.bytes b)) going

pub place-text : (a : Inside) → Stands a → a.is_finished ≡ false → refusal_at (stage a) ≡ None → a.scanner.at ≤ length a.text.bytes
place-text a h going calm = omega (arith, ap (λ (s : ScannerValue). s.at) (going_scanner a h going calm), scanned_all-at begin a.text.bytes)

-- how many items were given, by those that wait
count : (xs waiting : List LogItem) (k : ℕ) → waiting ≡ drop k xs → k ≤ length xs → length xs - length waiting ≡ k
count xs waiting k e h = rw e (omega (arith, length-drop k xs))

-- the fields after more of the text, which may be the blank at its end
record GoesOn (a b : Inside) (more : Bytes) : Type 0 where
  scanner : scanner b ≡ scanned_all begin (a.text.bytes ++ more)
  stage : stage b ≡ stage_of (a.text.bytes ++ more)
  waiting : b.waiting.items ≡ drop (read_view a).given (whole_items (a.text.bytes ++ more))
  given : length (whole_items (a.text.bytes ++ more)) - length b.waiting.items ≡ (read_view a).given

goes_on : (a b : Inside) (more : Bytes) → Stands a → a.is_finished ≡ false → refusal_at (stage a) ≡ None → scanner b ≡ scanned_all (scanner a) more
    → b.waiting.items ≡ a.waiting.items ++ all_given (scanner a) more → GoesOn a b more
goes_on a b more h going calm s w =
    let text = a.text.bytes in
    let k = (read_view a).given in
    let now = going_scanner a h going calm in
    let same : whole_items (read_text text a.is_finished) ≡ whole_items text = ap (λ f. whole_items (read_text text f)) going in
    let fits : k ≤ length (whole_items text) = omega (arith, ap (λ (xs : List LogItem). length xs) same) in
    let scan : scanner b ≡ scanned_all begin (text ++ more) = s ∙ ap (λ (u : ScannerValue). scanned_all u more) now ∙ sym (scanned_all-append begin text more) in
    let whole : whole_items (text ++ more) ≡ whole_items text ++ all_given (scanner a) more =
    sym (items_scanned (text ++ more)) ∙ all_given-append begin text more ∙ ap (λ (u : ScannerValue). all_given begin text ++ all_given u more) (sym now) ∙ ap
    (λ (xs : List LogItem). xs ++ all_given (scanner a) more) (items_scanned text) in
    let waits : b.waiting.items ≡ drop k (whole_items (text ++ more)) =
    w ∙ ap (λ (xs : List LogItem). xs ++ all_given (scanner a) more) (h.waiting ∙ ap (drop k) same) ∙ sym (drop-append-le k (whole_items text) (all_given (scanner a) more) fits) ∙ ap (drop k)
    (sym whole) in
    record {
      scanner = scan;
      stage = ap (λ (u : ScannerValue). u.stage) scan ∙ stage_scanned (text ++ more);
      waiting = waits;
      given = count (whole_items (text ++ more)) b.waiting.items k waits
          (omega (arith, fits, ap (λ (xs : List LogItem). length xs) whole, length-append (whole_items text) (all_given (scanner a) more)));
    }

same_read : (t u : Bytes) (g h : ℕ) (f e : Bool) (r q : Option LratRefusal) → t ≡ u → g ≡ h → f ≡ e → r ≡ q
    → let v : LogRead = record { text = t; given = g; finished = f; refused = r } in let w : LogRead = record { text = u; given = h; finished = e; refused = q } in v ≡ w
same_read t u g h f e r q text given finished refused = cc

-- after a piece
pub record Fed (a b : Inside) (piece : Bytes) : Type 0 where
  pub stands : Stands b
  pub view : read_view b ≡ fed (read_view a) piece

pub after_piece : (a b : Inside) (piece : Bytes) (draft : ItemDraftValue) → Stands a → a.is_finished ≡ false → refusal_at (stage a) ≡ None → b.is_finished ≡ a.is_finished
    → b.text.bytes ≡ a.text.bytes ++ piece
    → b.draft ≡ settled draft
    → scanner_at b.scanner draft ≡ scanned_all (scanner a) piece → b.waiting.items ≡ a.waiting.items ++ all_given (scanner a) piece → Fed a b piece
after_piece a b piece draft h going calm f x d s w =
    let now : scanner b ≡ scanned_all (scanner a) piece = ap (λ (st : Stage). record (scanner_at b.scanner draft) { stage = st }) (stage-settled b.scanner.part draft b.draft d) ∙ s in
    let g = goes_on a b piece h going calm now w in
    let text : read_text b.text.bytes b.is_finished ≡ a.text.bytes ++ piece = rw (f, going, x) refl in
    let given : (read_view b).given ≡ (read_view a).given = rw text g.given in
    record {
      stands = record {
        scanner = λ _. g.scanner ∙ ap (scanned_all begin) (sym text);
        waiting = rw (given, text) g.waiting;
        literals = ap (λ (v : ItemDraftValue). v.literals.before) d;
        numbers = ap (λ (v : ItemDraftValue). v.numbers.before) d;
        finished = λ t. let no : true ≡ false = sym t ∙ (f ∙ going) in cc;
      };
      view = same_read _ _ _ _ _ _ _ _ x given f (ap refusal_at g.stage);
    }

pub feed_refuses : (a : Inside) (now new : LogRead) (piece : Bytes) (r : LratRefusal) → read_view a ≡ now → refusal_at (stage a) ≡ None → new ≡ fed (read_view a) piece → new.refused ≡ Some r
    → IsFeedRefusal now piece r new
feed_refuses a now new piece r v calm f s =
    let none : now.refused ≡ None = ap (λ (u : LogRead). u.refused) (sym v) ∙ calm in
    rw none (inr (f ∙ ap (λ u. fed u piece) v, s))

pub feed_goes : (a : Inside) (now new : LogRead) (piece : Bytes) → read_view a ≡ now → refusal_at (stage a) ≡ None → new ≡ fed (read_view a) piece → new.refused ≡ None
    → (now.refused ≡ None) × (new ≡ fed now piece) × (new.refused ≡ None)
feed_goes a now new piece v calm f s = subst (λ (u : LogRead). (u.refused ≡ None) × (new ≡ fed u piece) × (new.refused ≡ None)) v (calm, f, s)

-- to end the token at hand is to read a blank
ends : (s : ScannerValue) → is_refused s.stage ≡ false → (closed s ≡ scanned_all s (10 ∷ [])) × (closed_gives s ≡ all_given s (10 ∷ []))
unfolding is_blank
ends s r = (rw r refl, rw (r, append-nil) refl)

read_at_end : (text : Bytes) → refusal_at_end (stage_of (with_end text)) ≡ None → lrat_items text ≡ Ok (whole_items (with_end text))
read_at_end text e = items_at_end (refusal_at_end (stage_of (with_end text))) (whole_items (with_end text)) (whole_items (with_end text)) e refl

refused_result : (end : Option LratRefusal) (items : List LogItem) (r : LratRefusal) → end ≡ Some r
    → (elim end as (λ _. Result (List LogItem) LratRefusal) [ None ↦ Ok items | Some refusal ↦ Err refusal ]) ≡ Err r
refused_result None items r e = cc
refused_result (Some refusal) items r e = cc

-- after the end
pub record Ended (a b : Inside) : Type 0 where
  pub stands : Stands b
  pub calm : (read_view a).refused ≡ None
  pub items : lrat_items a.text.bytes ≡ Ok (read_items (read_view b))
  pub view : read_view b ≡ record (read_view a) { finished = true }

pub after_end : (a b : Inside) (draft : ItemDraftValue) → Stands a → a.is_finished ≡ false → refusal_at (stage a) ≡ None → b.is_finished ≡ true → b.text.bytes ≡ a.text.bytes
    → b.draft ≡ settled draft
    → scanner_at b.scanner draft ≡ closed (scanner a) → b.waiting.items ≡ a.waiting.items ++ closed_gives (scanner a) → refusal_at_end (stage b) ≡ None → Ended a b
after_end a b draft h going calm f x d s w e =
    let c = ends (scanner a) (not_refused (stage a) calm) in
    let now : scanner b ≡ scanned_all (scanner a) (10 ∷ []) = ap (λ (st : Stage). record (scanner_at b.scanner draft) { stage = st }) (stage-settled b.scanner.part draft b.draft d) ∙ s ∙ c.0 in
    let g = goes_on a b (10 ∷ []) h going calm now (w ∙ ap (λ (xs : List LogItem). a.waiting.items ++ xs) c.1) in
    let text : read_text b.text.bytes b.is_finished ≡ with_end a.text.bytes = rw (f, x) refl in
    let given : (read_view b).given ≡ (read_view a).given = rw text g.given in
    record {
      stands = record {
        scanner = λ _. g.scanner ∙ ap (scanned_all begin) (sym text);
        waiting = rw (given, text) g.waiting;
        literals = ap (λ (v : ItemDraftValue). v.literals.before) d;
        numbers = ap (λ (v : ItemDraftValue). v.numbers.before) d;
        finished = λ _. e;
      };
      calm = calm;
      items = read_at_end a.text.bytes (ap refusal_at_end (sym g.stage) ∙ e) ∙ ap (λ t. Ok (whole_items t)) (sym text);
      view = same_read _ _ _ _ _ _ _ _ x given f (none_at_end (stage b) e ∙ sym calm);
    }

-- no item ends with a token behind which the text is refused or within an item
at_zero : (b : Bool) (next : Stage) (item : LogItem) (r : LratRefusal) → refusal_at_end (if b then Outside else next) ≡ Some r → (if b then item ∷ [] else []) ≡ []
at_zero true next item r e = cc
at_zero false next item r e = refl

none_given : (st : Stage) (word : Option LratWord) (place : ℕ) (r : LratRefusal) → refusal_at_end (stage_with st word place) ≡ Some r → given_with st word ≡ []
none_given st None place r e = refl
none_given Outside (Some word) place r e = refl
none_given (Begun id) (Some word) place r e = refl
none_given (Literals id literals) (Some word) place r e = refl
none_given (Refused refusal) (Some word) place r e = refl
none_given (Hints id literals hints) (Some Letter) place r e = refl
none_given (Hints id literals hints) (Some Malformed) place r e = refl
none_given (Hints id literals hints) (Some (Number negative size)) place r e = at_zero (size == 0) _ _ r e
none_given (Deletion ids) (Some Letter) place r e = refl
none_given (Deletion ids) (Some Malformed) place r e = refl
none_given (Deletion ids) (Some (Number negative size)) place r e = at_zero (size == 0) _ _ r e

-- after an end that was refused
pub record Cut (a b : Inside) (r : LratRefusal) : Type 0 where
  pub items : lrat_items a.text.bytes ≡ Err r
  pub view : read_view b ≡ record (read_view a) { refused = Some r }
  pub waiting : b.waiting.items ≡ a.waiting.items

pub after_cut : (a b : Inside) (last : Scanner) (draft : ItemDraftValue) (r : LratRefusal) → Stands a → a.is_finished ≡ false → refusal_at (stage a) ≡ None → b.is_finished ≡ a.is_finished
    → b.text.bytes ≡ a.text.bytes
    → b.scanner.part ≡ AfterRefusal r → b.draft ≡ settled draft → scanner_at last draft ≡ closed (scanner a) → b.waiting.items ≡ a.waiting.items ++ closed_gives (scanner a)
    → refusal_at_end (stage_at last.part b.draft) ≡ Some r → Cut a b r
after_cut a b last draft r h going calm f x p d s w l =
    let t : ScannerValue = scanner_at last draft in
    let e : refusal_at_end t.stage ≡ Some r = ap refusal_at_end (sym (stage-settled last.part draft b.draft d)) ∙ l in
    let c = ends (scanner a) (not_refused (stage a) calm) in
    let now : t ≡ scanned_all begin (with_end a.text.bytes) =
    s ∙ c.0 ∙ ap (λ (u : ScannerValue). scanned_all u (10 ∷ [])) (going_scanner a h going calm) ∙ sym (scanned_all-append begin a.text.bytes (10 ∷ [])) in
    let end : stage_of (with_end a.text.bytes) ≡ t.stage = sym (ap (λ (u : ScannerValue). u.stage) now ∙ stage_scanned (with_end a.text.bytes)) in
    let none = none_given (stage a) (ended_word a.scanner.word) a.scanner.start r (ap (λ (u : ScannerValue). refusal_at_end u.stage) (sym s) ∙ e) in
    let waits : b.waiting.items ≡ a.waiting.items = w ∙ ap (λ (xs : List LogItem). a.waiting.items ++ xs) none ∙ append-nil a.waiting.items in
    let given : (read_view b).given ≡ (read_view a).given = rw (x, f, waits) refl in
    record {
      items = refused_result (refusal_at_end (stage_of (with_end a.text.bytes))) (whole_items (with_end a.text.bytes)) r (ap refusal_at_end end ∙ e);
      view = same_read _ _ _ _ _ _ _ _ x given f (ap (λ (q : Part). refusal_at (stage_at q b.draft)) p);
      waiting = waits;
    }

pub finish_refuses : (a : Inside) (now new : LogRead) (r : LratRefusal) → read_view a ≡ now → refusal_at (stage a) ≡ None → lrat_items a.text.bytes ≡ Err r
    → new ≡ record (read_view a) { refused = Some r }
    → IsFinishRefusal now r new
finish_refuses a now new r v calm e f =
    let none : now.refused ≡ None = ap (λ (u : LogRead). u.refused) (sym v) ∙ calm in
    let text : lrat_items now.text ≡ Err r = ap (λ (u : LogRead). lrat_items u.text) (sym v) ∙ e in
    rw none (inr (text, f ∙ ap (λ (u : LogRead). record u { refused = Some r }) v))

pub finish_goes : (a b : Inside) (now : LogRead) → read_view a ≡ now → Ended a b
    → (now.refused ≡ None) × (lrat_items now.text ≡ Ok (read_items (read_view b))) × (read_view b ≡ record now { finished = true })
finish_goes a b now v e =
    subst (λ (u : LogRead). (u.refused ≡ None) × (lrat_items u.text ≡ Ok (read_items (read_view b))) × (read_view b ≡ record u { finished = true })) v (e.calm, e.items, e.view)

-- it had ended before
pub has_ended : (a : Inside) (now : LogRead) → read_view a ≡ now → Stands a → a.is_finished ≡ true
    → (now.refused ≡ None) × (lrat_items now.text ≡ Ok (read_items now)) × (now ≡ record now { finished = true })
has_ended a now v h f =
    let n = h.finished f in
    let calm = none_at_end (stage a) n in
    let text : read_text a.text.bytes a.is_finished ≡ with_end a.text.bytes = ap (read_text a.text.bytes) f in
    let at_end : stage a ≡ stage_of (with_end a.text.bytes) =
    ap (λ (u : ScannerValue). u.stage) (h.scanner (not_refused (stage a) calm) ∙ ap (scanned_all begin) text) ∙ stage_scanned (with_end a.text.bytes) in
    let items : lrat_items a.text.bytes ≡ Ok (read_items (read_view a)) = read_at_end a.text.bytes (ap refusal_at_end (sym at_end) ∙ n) ∙ ap (λ t. Ok (whole_items t)) (sym text) in
    let view : read_view a ≡ record (read_view a) { finished = true } = ap (λ b. record (read_view a) { finished = b }) f in
    subst (λ (u : LogRead). (u.refused ≡ None) × (lrat_items u.text ≡ Ok (read_items u)) × (u ≡ record u { finished = true })) v (calm, items, view)

-- at the start
pub starts : (a : Inside) → scanner a ≡ begin → a.waiting.items ≡ [] → a.is_finished ≡ false → a.text.bytes ≡ [] → read_view a ≡ nothing_read
starts a s w f x =
    let text : read_text a.text.bytes a.is_finished ≡ [] = rw (f, x) refl in
    let none : whole_items (read_text a.text.bytes a.is_finished) ≡ [] = ap whole_items text ∙ sym (items_scanned []) in
    let given : (read_view a).given ≡ 0 = rw (none, w) refl in
    same_read _ _ _ _ _ _ _ _ x given f (ap (λ (u : ScannerValue). refusal_at u.stage) s)
