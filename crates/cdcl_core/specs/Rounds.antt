-- Rounds of a search that forgets. A round is a search over the clauses of the formula and those that are
-- kept of the others; its steps are appended to the whole log, under the ids that they have there.
use Rattle.std.specs.Prelude.{◌≡◌, ℕ, ◌+◌, ◌-◌, ◌^◌, ◌<◌, ◌≤◌, List, [], map, take, length, slice_index_or}
use Rattle.proof_semantics.specs.declared.item.Item.TheVariants.{Add, Remove}
use Rattle.proof_semantics.specs.Clauses.{Clause}
use Rattle.proof_semantics.specs.Formula.{Formula}
use Rattle.proof_semantics.specs.Logs.{LogItem, IsDerivation}
use Rattle.proof_semantics.specs.Conflicts.{clause_at, clauses_with}
use Rattle.cdcl_core.specs.Answers.{IsAnswer}
use Rattle.cdcl_core.specs.declared.answer.Answer.{Answer}

-- the clause stands in the whole, under this id
pub record HasId (whole : List Clause) (clause : Clause) (id : ℕ) : Type 0 where
  pub low : 1 ≤ id
  pub within : id ≤ length whole
  pub is : clause_at whole (id - 1) ≡ clause

-- each clause of the round has its id in the whole
pub record AreNamed (whole round : List Clause) (ids : List ℕ) : Type 0 where
  pub count : length ids ≡ length round
  pub each : (k : ℕ) → k < length round → HasId whole (clause_at round k) (slice_index_or ids k 0)

-- the clauses of the round are among those of the formula and those that the whole log adds
pub record IsRound (f : Formula) (whole : List LogItem) (round : Formula) (ids : List ℕ) : Type 0 where
  pub variables : round.variables ≡ f.variables
  pub named : AreNamed (clauses_with f.clauses whole) round.clauses ids

-- `more` ids from `next` on stand behind the old ones
pub record HasNextIds (next more : ℕ) (old new : List ℕ) : Type 0 where
  pub count : length new ≡ length old + more
  pub begins : take (length old) new ≡ old
  pub each : (j : ℕ) → j < more → slice_index_or new (length old + j) 0 ≡ next + j

-- the id in the whole log of what has the id `id` in a round; the ids in the whole stand in their order
abbrev pub whole_id : List ℕ → ℕ → ℕ
whole_id ids id = slice_index_or ids (id - 1) 0

-- an item of a round with the ids of the whole log
abbrev pub renamed : List ℕ → LogItem → LogItem
renamed ids (Add s) = Add (record {
  id = whole_id ids s.id;
  literals = s.literals;
  hints = map (whole_id ids) s.hints;
})
renamed ids (Remove removed) = Remove (map (whole_id ids) removed)

-- a log of the round, for whose steps the whole log has room
pub record IsLogWithin (f : Formula) (whole : List LogItem) (round : Formula)
    (log : List LogItem) : Type 0 where
  pub steps : IsDerivation round log
  pub room : length f.clauses + length whole + length log < 2 ^ 63

-- the answer of a round within a number of conflicts, for whose steps the whole log has room
pub record IsAnswerWithin (f : Formula) (whole : List LogItem) (round : Formula)
    (answer : Answer) : Type 0 where
  pub conflicts : ℕ
  pub room : length f.clauses + length whole + conflicts + 1 < 2 ^ 63
  pub right : IsAnswer round [] conflicts answer
