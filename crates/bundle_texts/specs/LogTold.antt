-- What the text of a log comes to, piece by piece. Source: LRAT with positive hints.
use Rattle.std.specs.Prelude.{◌≡◌, Bool, true, false, List, ◌++◌, length, take, None, Ok}
use Rattle.semantics.specs.Texts.{Bytes}
use Rattle.proof_semantics.specs.Clauses.{Clause}
use Rattle.proof_semantics.specs.Logs.{LogItem, IsSoundLog, Refutes}
use Rattle.proof_semantics.specs.LratReading.{lrat_items}
use Rattle.cnf_core.specs.LratReads.{LogRead, read_items}

-- the text is read to its end as a log that refutes the clauses
abbrev pub IsRefutingText : List Clause → Bytes → Type 0
IsRefutingText clauses text = (log : List LogItem) × (lrat_items text ≡ Ok log) × Refutes clauses log

-- however the text goes on, it never refutes the clauses
abbrev pub NeverRefutes : List Clause → Bytes → Type 0
NeverRefutes clauses text = (more : Bytes) → ¬ IsRefutingText clauses (text ++ more)

-- no sound log begins with these items
abbrev pub IsNeverSound : List Clause → List LogItem → Type 0
IsNeverSound clauses items = (later : List LogItem) → ¬ IsSoundLog clauses (items ++ later)

-- what judges a log's items, by its statement that all of them were accepted
module _ {K : Type 0} (Accepted : List Clause → List LogItem → K → Type 0) where
  -- the items were accepted, or one of them was refused
  abbrev pub AreJudged : Bool → List Clause → List LogItem → K → Type 0
  AreJudged true clauses items k = Accepted clauses items k
  AreJudged false clauses items k = IsNeverSound clauses items

  -- the items that the reader gave were accepted
  abbrev pub IsInStep : List Clause → LogRead → K → Type 0
  IsInStep clauses v k = Accepted clauses (take v.given (read_items v)) k

  -- The text is a log's so far, with sound items.
  pub record IsSoundSoFar (clauses : List Clause) (v : LogRead) (k : K) : Type 0 where
    pub going : v.finished ≡ false
    pub calm : v.refused ≡ None
    pub all_given : v.given ≡ length (read_items v)
    pub sound : Accepted clauses (read_items v) k

  -- what is known after a piece: the text goes on, or never refutes the clauses
  abbrev pub SoFar : Bool → List Clause → LogRead → K → Type 0
  SoFar true clauses v k = IsSoundSoFar clauses v k
  SoFar false clauses v k = NeverRefutes clauses v.text
