-- What is answered to the question whether the error stays within a level, without a log.
use Rattle.std.specs.Prelude.{◌≡◌, ◌<◌, Bool, List, length}
use Rattle.semantics.specs.Net.{NetValue, input_count}
use Rattle.semantics.specs.Error.{net_error, IsWithin}
use Rattle.proof_semantics.specs.declared.constraint.Constraint.{Constraint}
use Rattle.level_answers.specs.Exceeds.{IsSpentOn}
use Rattle.level_answers.specs.declared.margin.Margin.{Margin}
use Rattle.level_answers.specs.declared.margin.Margin.TheVariants.{Over, Within, Spent}

-- an input vector whose error exceeds the level that is asked about
pub record IsExceededAt (aim : Constraint) (exact approx : NetValue) (x : List Bool) : Type 0 where
  pub width : length x ≡ input_count exact
  pub exceeds : aim.bound < net_error aim.metric exact approx x

abbrev pub IsLevelAnswer : Constraint → NetValue → NetValue → Margin → Type 0
IsLevelAnswer aim exact approx (Over x) = IsExceededAt aim exact approx x
IsLevelAnswer aim exact approx Within = IsWithin aim.metric exact aim.bound approx
IsLevelAnswer aim exact approx (Spent s) = IsSpentOn aim exact approx s

-- an answer for which nothing was spent
abbrev pub IsSureAnswer : Constraint → NetValue → NetValue → Margin → Type 0
IsSureAnswer aim exact approx (Over x) = IsExceededAt aim exact approx x
IsSureAnswer aim exact approx Within = IsWithin aim.metric exact aim.bound approx
IsSureAnswer aim exact approx (Spent s) = ⊥
