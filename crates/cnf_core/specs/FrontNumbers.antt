-- Whole numbers at the front of a text, taken at once.
use Rattle.std.specs.Prelude.{◌≡◌, ℕ, ◌+◌, ◌<◌, false, List, [], ◌∷◌, ◌++◌, drop}
use Rattle.semantics.specs.Texts.{Bytes}
use Rattle.proof_semantics.specs.declared.lrat_word.LratWord.TheVariants.{Number}
use Rattle.proof_semantics.specs.LratMatching.{Stage, stage_after, item_given}
use Rattle.proof_semantics.specs.LratReading.{is_refused}
use Rattle.cnf_core.specs.declared.held_word.HeldWord.TheVariants.{Empty}
use Rattle.cnf_core.specs.LratScanning.{ScannerValue}
use Rattle.cnf_core.specs.FrontDigits.{LeadAlike}

-- a scanner behind a blank, with no token begun
abbrev pub ready : Stage → ℕ → ScannerValue
ready stage at = record { stage = stage; word = Empty; start = at; at = at }

-- a list of numbers is at hand, to which a positive number is added
pub record TakesNumbers (stage : List ℕ → Stage) : Type 0 where
  pub going : (numbers : List ℕ) → is_refused (stage numbers) ≡ false
  pub joined : (numbers : List ℕ) (number place : ℕ) → 0 < number
      → stage_after (stage numbers) (Number false number) place ≡ stage (numbers ++ number ∷ [])
  pub nothing : (numbers : List ℕ) (number : ℕ) → 0 < number
      → item_given (stage numbers) (Number false number) ≡ []

-- the `count` bytes at the front are positive numbers, each before a blank, which make the list `before` the
-- list `after`
abbrev pub NumbersLead : List ℕ → Bytes → List ℕ → ℕ → Type 0
NumbersLead before text after count = (stage : List ℕ → Stage) (s : ScannerValue) → TakesNumbers stage
    → s.stage ≡ stage before → s.word ≡ Empty
    → 0 < count → LeadAlike s text (ready (stage after) (s.at + count)) (drop count text)
