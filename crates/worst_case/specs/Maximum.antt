-- The range of the search for the greatest error, and how it ends.
use Rattle.std.specs.Prelude.{◌≡◌, ℕ, ◌<◌, ◌≤◌, ◌-◌, Option, MatchOption, length}
use Rattle.semantics.specs.declared.limits.TheConstants.{FEW_INPUTS, LARGEST_ERROR}
use Rattle.semantics.specs.Net.{NetValue, input_count}
use Rattle.semantics.specs.declared.metric.Metric.{Metric}
use Rattle.semantics.specs.Error.{net_error, IsWithin}
use Rattle.semantics.specs.Vectors.{IsFirstGreatestAt}
use Rattle.proof_semantics.specs.declared.constraint.Constraint.{Constraint}
use Rattle.proof_semantics.specs.Queries.{IsNever, IsSpentLevel}
use Rattle.level_answers.specs.Exceeds.{spent_value}
use Rattle.level_answers.specs.declared.query.Spent as spent
use Rattle.worst_case.specs.declared.range.Range.{Range}
use Rattle.every_vector.specs.declared.vectors.Attained.{Attained}
use Rattle.net_errors.specs.Compared.{NetPair}

-- the error of the approximate net at the witness
pub record IsAttained (metric : Metric) (nets : NetPair) (a : Attained) : Type 0 where
  pub width : length a.witness ≡ input_count nets.exact
  pub is : net_error metric nets.exact nets.approx a.witness ≡ a.error

-- the greatest error of all input vectors, and the first of them that has it; it may not be found where there
-- are more than `most` inputs
abbrev pub IsGreatestUpTo : ℕ → Metric → NetValue → NetValue → Option Attained → Type 0
IsGreatestUpTo most metric exact approx found = MatchOption found (most < input_count exact)
    (λ a. IsFirstGreatestAt (input_count exact) (net_error metric exact approx) a.error a.witness)

-- The greatest error is at least `low`, which the witness attains, and at most `high`, within the bound; a
-- log that is held refutes that any error exceeds `high`. With at most eight inputs the witness is the first
-- vector that has the greatest error.
pub record IsRange (aim : Constraint) (exact approx : NetValue) (r : Range) : Type 0 where
  pub width : length r.witness ≡ input_count exact
  pub attained : net_error aim.metric exact approx r.witness ≡ r.low
  pub within : IsWithin aim.metric exact r.high approx
  pub bounded : r.high ≤ aim.bound
  pub small : r.high ≤ LARGEST_ERROR
  pub refuted : MatchOption r.log (Unit {0}) (IsNever aim.metric exact approx r.high)
  pub first : input_count exact ≤ FEW_INPUTS
      → IsFirstGreatestAt (input_count exact) (net_error aim.metric exact approx) r.low r.witness

-- the range behind a query, or the query was spent
abbrev pub IsRangeOrSpent : Constraint → NetValue → NetValue → Range → Option spent.Spent → Type 0
IsRangeOrSpent aim exact approx r found = MatchOption found (IsRange aim exact approx r)
    (λ s. IsSpentLevel aim exact approx (spent_value s))

-- the levels of the second range are nearer to each other, unless a query was spent
abbrev pub IsNarrowed : Range → Range → Option spent.Spent → Type 0
IsNarrowed old new found = MatchOption found (new.high - new.low < old.high - old.low) (λ s. Unit {0})

-- the levels of the range meet, or a query is spent
abbrev pub IsEnd : Constraint → NetValue → NetValue → Range → Option spent.Spent → Type 0
IsEnd aim exact approx r found = MatchOption found (IsRange aim exact approx r × (r.high ≤ r.low))
    (λ s. IsSpentLevel aim exact approx (spent_value s))
