-- What the answers are to the query whether some input's error exceeds a level.
use Rattle.std.specs.Prelude.{◌≡◌}
use Rattle.semantics.specs.Net.{NetValue}
use Rattle.proof_semantics.specs.declared.constraint.Constraint.{Constraint}
use Rattle.proof_semantics.specs.Queries.{IsOver, IsNever, SpentValue, IsSpentQuery}
use Rattle.level_answers.specs.declared.query.Spent as spent
use Rattle.level_answers.specs.declared.query.Exceed.{Exceed}
use Rattle.level_answers.specs.declared.query.Exceed.TheVariants.{Over, Never, Spent}

abbrev pub spent_value : spent.Spent → SpentValue
spent_value s = record { net = s.net; k = s.k; merged = s.merged; log = s.log }

-- the conflicts were spent on the miter of these two nets at the level that is asked about
pub record IsSpentOn (aim : Constraint) (exact approx : NetValue) (s : spent.Spent) : Type 0 where
  pub net : s.net ≡ approx
  pub level : s.k ≡ aim.bound
  pub query : IsSpentQuery aim.metric exact aim.limit (spent_value s)

abbrev pub IsAnswer : Constraint → NetValue → NetValue → Exceed → Type 0
IsAnswer aim exact approx (Over x) = IsOver aim.metric exact approx aim.bound x
IsAnswer aim exact approx (Never log) = IsNever aim.metric exact approx aim.bound log
IsAnswer aim exact approx (Spent s) = IsSpentOn aim exact approx s
