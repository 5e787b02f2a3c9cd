-- Answers to the question whether the error stays within a level, as they come from one of its ways.
use Rattle.std.specs.Prelude.{ℕ, ◌<◌, Option, MatchOption}
use Rattle.semantics.specs.Net.{NetValue, input_count}
use Rattle.proof_semantics.specs.declared.constraint.Constraint.{Constraint}
use Rattle.level_answers.specs.Levels.{IsSureAnswer}
use Rattle.level_answers.specs.declared.query.Exceed.{Exceed}
use Rattle.level_answers.specs.declared.query.Exceed.TheVariants as exceed
use Rattle.level_answers.specs.declared.margin.Margin.{Margin}
use Rattle.level_answers.specs.declared.margin.Margin.TheVariants.{Over, Within, Spent}

-- the answer of the solver without its log
abbrev pub without_log : Exceed → Margin
without_log (exceed.Over x) = Over x
without_log (exceed.Never log) = Within
without_log (exceed.Spent s) = Spent s

-- an answer for which nothing was spent; there may be none where there are more than `most` inputs
abbrev pub IsAnsweredUpTo : ℕ → Constraint → NetValue → NetValue → Option Margin → Type 0
IsAnsweredUpTo most aim exact approx found
    = MatchOption found (most < input_count exact) (IsSureAnswer aim exact approx)
