-- What the checker and the sink have made of a log's items.
use Rattle.std.specs.Prelude.{◌≡◌, List, [], Option, None, Some, Ok}
use Rattle.semantics.specs.Texts.{Bytes}
use Rattle.proof_semantics.specs.Clauses.{Clause}
use Rattle.proof_semantics.specs.Logs.{LogItem, last_added, Refutes}
use Rattle.proof_semantics.specs.LratReading.{lrat_items}
use Rattle.lrat_check.specs.Checker.{StandsAfter}
use Rattle.bundle_texts.specs.declared.judge.Judge.{Judge}
use Rattle.bundle_texts.specs.LogTold.{IsRefutingText}

module _ {L : Type 0} (holds : L → List LogItem → Type 0) where
  -- the checker accepted the items, and the sink took them
  pub record HasTaken (clauses : List Clause) (items : List LogItem) (judge : Judge L) : Type 0 where
    pub checked : StandsAfter clauses items judge.checker
    pub kept : holds judge.kept items

  -- what is kept, where the clause that was added last is the empty one
  abbrev pub IsKeptAtEnd : List LogItem → Option L → Type 0
  IsKeptAtEnd items None = ¬ (last_added items ≡ Some [])
  IsKeptAtEnd items (Some kept) = (last_added items ≡ Some []) × holds kept items

  -- what is kept is of a log that refutes the clauses
  abbrev pub IsOfRefutation : List Clause → L → Type 0
  IsOfRefutation clauses kept = (log : List LogItem) × Refutes clauses log × holds kept log

  -- what is kept is of the text, which refutes the clauses; or nothing is kept, and the text does not refute
  -- them
  abbrev pub IsLogIn : List Clause → Option L → Bytes → Type 0
  IsLogIn clauses None text = ¬ IsRefutingText clauses text
  IsLogIn clauses (Some kept) text = (log : List LogItem) × (lrat_items text ≡ Ok log) × Refutes clauses log
      × holds kept log
