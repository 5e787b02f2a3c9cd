-- What the search for the greatest error answers.
use Rattle.semantics.specs.Net.{NetValue}
use Rattle.proof_semantics.specs.declared.constraint.Constraint.{Constraint}
use Rattle.proof_semantics.specs.Queries.{IsMaximum, IsSpentLevel}
use Rattle.level_answers.specs.Exceeds.{spent_value}
use Rattle.level_answers.specs.declared.query.Maximum.{Maximum}
use Rattle.level_answers.specs.declared.query.Maximum.TheVariants.{Found, Spent}

abbrev pub IsMaximumAnswer : Constraint → NetValue → NetValue → Maximum → Type 0
IsMaximumAnswer aim exact approx (Found most witness log)
    = IsMaximum aim.metric exact approx (record { error = most; witness = witness; log = log })
IsMaximumAnswer aim exact approx (Spent s) = IsSpentLevel aim exact approx (spent_value s)
