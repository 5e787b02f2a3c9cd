-- What is answered to the question whether a net keeps the bound.
use Rattle.semantics.specs.Net.{NetValue}
use Rattle.semantics.specs.Error.{IsWithin}
use Rattle.proof_semantics.specs.declared.constraint.Constraint.{Constraint}
use Rattle.proof_semantics.specs.Queries.{IsOver}
use Rattle.level_answers.specs.Exceeds.{IsSpentOn}
use Rattle.level_answers.specs.declared.margin.Margin.{Margin}
use Rattle.level_answers.specs.declared.margin.Margin.TheVariants.{Over, Within, Spent}

-- what is answered to the question whether the error of a net stays within the bound
abbrev pub IsBoundAnswer : Constraint → NetValue → NetValue → Margin → Type 0
IsBoundAnswer aim exact approx (Over x) = IsOver aim.metric exact approx aim.bound x
IsBoundAnswer aim exact approx Within = IsWithin aim.metric exact aim.bound approx
IsBoundAnswer aim exact approx (Spent s) = IsSpentOn aim exact approx s
