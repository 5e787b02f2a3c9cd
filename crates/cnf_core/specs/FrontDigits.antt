-- Digits at the front of a text, taken at once.
use Rattle.std.specs.Prelude.{◌≡◌, ℕ, ◌+◌, ◌<◌, Bool, true, false, drop}
use Rattle.semantics.specs.Texts.{Bytes}
use Rattle.semantics.specs.Decimal.{is_digit}
use Rattle.proof_semantics.specs.LratReading.{is_refused}
use Rattle.cnf_core.specs.declared.held_word.HeldWord.{HeldWord}
use Rattle.cnf_core.specs.declared.held_word.HeldWord.TheVariants as form
use Rattle.cnf_core.specs.LratScanning.{ScannerValue, number_with, held_with, scanned_all, all_given}

-- a scanner before one text comes to the same as another scanner before another text
abbrev pub LeadAlike : ScannerValue → Bytes → ScannerValue → Bytes → Type 0
LeadAlike s text t rest = (scanned_all s text ≡ scanned_all t rest) × (all_given s text ≡ all_given t rest)

-- a digit adds to this number
abbrev pub IsNumberSoFar : HeldWord → Bool → ℕ → Type 0
IsNumberSoFar word negative size = (c : ℕ) → is_digit c ≡ true
    → held_with word c ≡ number_with negative size c

-- the scanner `count` bytes further, behind a number
abbrev pub numbered : ScannerValue → Bool → ℕ → ℕ → ScannerValue
numbered s negative size count = record s { word = form.Number negative size; at = s.at + count }

-- the `count` bytes at the front are digits, which make the number `before` the number `after`
abbrev pub DigitsLead : ℕ → Bytes → ℕ → ℕ → Type 0
DigitsLead before text after count = (negative : Bool) (s : ScannerValue) → is_refused s.stage ≡ false
    → IsNumberSoFar s.word negative before
    → 0 < count → LeadAlike s text (numbered s negative after count) (drop count text)
