-- Digits taken at once lead where they lead one by one.
use Rattle.std.proofs.Common.{◌≡◌, ℕ, zero, suc, ◌+◌, ◌-◌, ◌*◌, ◌^◌, ◌<◌, ◌≤◌, ◌==◌, List, [], ◌∷◌, ◌++◌, length, drop, true, false, Bool, refl, ap, sym, subst, ◌∙◌, leb, arith}
use Rattle.std.specs.Prelude.{slice_index}
use Rattle.std.proofs.lemmas.Bool.{lt-ltb, and_parts, leb-true, ne_eqb}
use Rattle.std.proofs.lemmas.List.{at_drop_more}
use Rattle.semantics.specs.Texts.{Bytes}
use Rattle.semantics.specs.Decimal.{is_digit}
use Rattle.proof_semantics.specs.Logs.{LogItem}
use Rattle.proof_semantics.specs.LratTokens.{is_blank, is_log_byte}
use Rattle.proof_semantics.specs.LratReading.{is_refused}
use Rattle.cnf_core.specs.declared.held_word.HeldWord.TheVariants as form
use Rattle.cnf_core.specs.LratScanning.{ScannerValue, number_with, scanned, gives, scanned_all, all_given}
use Rattle.cnf_core.specs.FrontDigits.{LeadAlike, IsNumberSoFar, numbered, DigitsLead}

record IsDigitByte (c : ℕ) : Type 0 where
  plain : is_blank c ≡ false
  good : is_log_byte c ≡ true
  no_letter : (c == 100) ≡ false
  no_minus : (c == 45) ≡ false
  most : c - 48 ≤ 9

digit_byte : (c : ℕ) → is_digit c ≡ true → IsDigitByte c
unfolding is_blank is_log_byte
digit_byte c h =
    let parts = and_parts (leb 48 c) (leb c 57) h in
    let low = leb-true 48 c parts.0 in
    let high = leb-true c 57 parts.1 in
    let space = ne_eqb c 32 (omega arith) in
    let tab = ne_eqb c 9 (omega arith) in
    let return = ne_eqb c 13 (omega arith) in
    let line = ne_eqb c 10 (omega arith) in
    record {
      plain = rw (space, tab, return, line) refl;
      good = rw (space, tab, return, line, h) refl;
      no_letter = ne_eqb c 100 (omega arith);
      no_minus = ne_eqb c 45 (omega arith);
      most = omega arith;
    }

-- nothing yet is the number 0 so far
pub nothing_so_far : IsNumberSoFar form.Empty false 0
nothing_so_far c h = let b = digit_byte c h in rw (b.no_letter, b.no_minus) refl

number_small : (negative : Bool) (size c : ℕ) → is_digit c ≡ true → 10 * size + (c - 48) < 2 ^ 63 → number_with negative size c ≡ form.Number negative (10 * size + (c - 48))
number_small negative size c h small = rw (h, lt-ltb (10 * size + (c - 48)) (2 ^ 63) small) refl

one_digit : (s : ScannerValue) (negative : Bool) (size c : ℕ) → is_refused s.stage ≡ false → IsNumberSoFar s.word negative size → is_digit c ≡ true → size < 2 ^ 59
    → (scanned s c ≡ numbered s negative (10 * size + (c - 48)) 1) × (gives s c ≡ [])
one_digit s negative size c r so_far h small =
    let b = digit_byte c h in
    let word = so_far c h ∙ number_small negative size c h (omega (arith, b.most)) in
    (rw (r, b.plain, b.good, word) refl, rw (r, b.plain) refl)

pub lead_more : (s t u : ScannerValue) (text : Bytes) (i : ℕ) → i < length text → LeadAlike s text t (drop i text)
    → scanned t (slice_index text i) ≡ u → gives t (slice_index text i) ≡ [] → LeadAlike s text u (drop (i + 1) text)
lead_more s t u text i lt lead e f =
    let c = slice_index text i in
    let rest = drop (i + 1) text in
    let scans : scanned_all t (c ∷ rest) ≡ scanned_all u rest = ap (λ (v : ScannerValue). scanned_all v rest) e in
    let given : all_given t (c ∷ rest) ≡ all_given u rest = ap (λ (items : List LogItem). items ++ all_given (scanned t c) rest) f ∙ ap (λ (v : ScannerValue). all_given v rest) e in
    (lead.0 ∙ at_drop_more (scanned_all t) text i 0 lt ∙ scans, lead.1 ∙ at_drop_more (all_given t) text i 0 lt ∙ given)

further : (s : ScannerValue) (negative : Bool) (size more i : ℕ) → numbered (numbered s negative size i) negative more 1 ≡ numbered s negative more (i + 1)
further s negative size more i = ap (λ a. record s { word = form.Number negative more; at = a }) (omega arith)

-- one digit more leads on
pub digits_step : (before size i : ℕ) (text : Bytes) → i < length text → is_digit (slice_index text i) ≡ true → size < 2 ^ 59 → (i ≡ 0 → size ≡ before)
    → DigitsLead before text size i → DigitsLead before text (10 * size + (slice_index text i - 48)) (i + 1)
digits_step before size zero text lt h small same lead negative s r so_far some =
    let one = one_digit s negative size (slice_index text 0) r (subst (IsNumberSoFar s.word negative) (sym (same refl)) so_far) h small in
    lead_more s s (numbered s negative (10 * size + (slice_index text 0 - 48)) 1) text 0 lt (refl, refl) one.0 one.1
digits_step before size (suc i) text lt h small same lead negative s r so_far some =
    let t = numbered s negative size (suc i) in
    let more = 10 * size + (slice_index text (suc i) - 48) in
    let one = one_digit t negative size (slice_index text (suc i)) r (λ d g. refl) h small in
    lead_more s t (numbered s negative more (suc i + 1)) text (suc i) lt (lead negative s r so_far (omega arith)) (one.0 ∙ further s negative size more (suc i)) one.1
