-- Whole numbers taken at once lead where they lead byte by byte.
use Rattle.std.proofs.Common.{◌≡◌, ℕ, zero, suc, ◌+◌, ◌<◌, List, [], ◌∷◌, ◌++◌, length, drop, true, false, refl, ap, sym, subst, ◌∙◌, arith}
use Rattle.std.specs.Prelude.{slice_index}
use Rattle.std.proofs.lemmas.List.{drop-drop, get_or-drop, length-drop}
use Rattle.semantics.specs.Texts.{Bytes}
use Rattle.proof_semantics.specs.declared.lrat_word.LratWord.TheVariants.{Number}
use Rattle.proof_semantics.specs.LratTokens.{is_blank}
use Rattle.proof_semantics.specs.LratMatching.{Stage, stage_after, item_given}
use Rattle.proof_semantics.specs.LratReading.{is_refused}
use Rattle.cnf_core.specs.declared.held_word.HeldWord.TheVariants.{Empty}
use Rattle.cnf_core.specs.LratScanning.{ScannerValue, scanned, gives, scanned_all, all_given}
use Rattle.cnf_core.specs.FrontDigits.{LeadAlike, IsNumberSoFar, numbered, DigitsLead}
use Rattle.cnf_core.specs.FrontNumbers.{ready, TakesNumbers, NumbersLead}
use Rattle.cnf_core.proofs.FrontDigits.{nothing_so_far, lead_more}

-- a blank behind a number
number_ended : (stage : List ℕ → Stage) (t : ScannerValue) (numbers : List ℕ) (number count c : ℕ) → TakesNumbers stage → t.stage ≡ stage numbers → 0 < number → is_blank c ≡ true
    → (scanned (numbered t false number count) c ≡ ready (stage (numbers ++ number ∷ [])) (t.at + count + 1)) × (gives (numbered t false number count) c ≡ [])
number_ended stage t numbers number count c takes is some blank =
    let going : is_refused t.stage ≡ false = ap is_refused is ∙ takes.going numbers in
    let joined : stage_after t.stage (Number false number) t.start ≡ stage (numbers ++ number ∷ [])
    = ap (λ g. stage_after g (Number false number) t.start) is ∙ takes.joined numbers number t.start some in
    let nothing : item_given t.stage (Number false number) ≡ [] = ap (λ g. item_given g (Number false number)) is ∙ takes.nothing numbers number some in
    (rw (going, blank, joined) refl, rw (going, blank, nothing) refl)

-- one number more, and the blank behind it
number_more : (stage : List ℕ → Stage) (s t : ScannerValue) (text : Bytes) (at : ℕ) (numbers : List ℕ) (number count : ℕ) → TakesNumbers stage → t.stage ≡ stage numbers → t.word ≡ Empty
    → t.at ≡ s.at + at
    → at + count < length text → 0 < count → 0 < number → is_blank (slice_index text (at + count)) ≡ true → DigitsLead 0 (drop at text) number count → LeadAlike s text t (drop at text)
    → LeadAlike s text (ready (stage (numbers ++ number ∷ [])) (s.at + (at + count + 1))) (drop (at + count + 1) text)
number_more stage s t text at numbers number count takes is empty place lt digit some blank digits lead =
    let rest = drop at text in
    let after = stage (numbers ++ number ∷ []) in
    let v = ready after (t.at + count + 1) in
    let going : is_refused t.stage ≡ false = ap is_refused is ∙ takes.going numbers in
    let whole = digits false t going (subst (λ w. IsNumberSoFar w false 0) (sym empty) nothing_so_far) digit in
    let end = number_ended stage t numbers number count (slice_index rest count) takes is some (ap is_blank (get_or-drop at text count 0) ∙ blank) in
    let within : count < length rest = omega (arith, length-drop at text, lt) in
    let more = lead_more t (numbered t false number count) v rest count within whole end.0 end.1 in
    let left : drop (count + 1) rest ≡ drop (at + count + 1) text = drop-drop (count + 1) at text ∙ ap (λ n. drop n text) (omega arith) in
    let same : v ≡ ready after (s.at + (at + count + 1)) = ap (ready after) (omega (arith, place)) in (
      lead.0 ∙ more.0 ∙ ap (λ (x : ScannerValue). scanned_all x (drop (count + 1) rest)) same ∙ ap (scanned_all (ready after (s.at + (at + count + 1)))) left,
      lead.1 ∙ more.1 ∙ ap (λ (x : ScannerValue). all_given x (drop (count + 1) rest)) same ∙ ap (all_given (ready after (s.at + (at + count + 1)))) left,
    )

pub numbers_step : (before mid : List ℕ) (text : Bytes) (at number count : ℕ) → at + count < length text → 0 < count → 0 < number → is_blank (slice_index text (at + count)) ≡ true
    → (at ≡ 0 → mid ≡ before) → DigitsLead 0 (drop at text) number count → NumbersLead before text mid at → NumbersLead before text (mid ++ number ∷ []) (at + count + 1)
numbers_step before mid text zero number count lt digit some blank same digits lead stage s takes is empty further =
    number_more stage s s text 0 mid number count takes (is ∙ ap stage (sym (same refl))) empty (omega arith) lt digit some blank digits (refl, refl)
numbers_step before mid text (suc at) number count lt digit some blank same digits lead stage s takes is empty further =
    number_more stage s (ready (stage mid) (s.at + suc at)) text (suc at) mid number count takes refl refl refl lt digit some blank digits (lead stage s takes is empty (omega arith))

-- a positive number has digits
pub digit_taken : (count size : ℕ) → 0 < size → (count ≡ 0 → size ≡ 0) → 0 < count
digit_taken zero size some none = omega (arith, some, none refl)
digit_taken (suc count) size some none = omega arith
