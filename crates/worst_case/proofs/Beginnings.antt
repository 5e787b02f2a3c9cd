-- What the answers say of the net that the chain is to begin with.
use Rattle.std.proofs.Common.{◌<◌, arith}
use Rattle.semantics.specs.Net.{NetValue, input_count}
use Rattle.proof_semantics.specs.declared.constraint.Constraint.{Constraint}
use Rattle.level_answers.specs.declared.margin.Margin.{Margin}
use Rattle.level_answers.specs.declared.margin.Margin.TheVariants.{Over, Within, Spent}
use Rattle.level_answers.specs.Levels.{IsLevelAnswer}
use Rattle.net_search.specs.Bounds.{IsBoundAnswer}

-- with many inputs the vector need not be the first
pub bound_answer : (aim : Constraint) (exact approx : NetValue) (m : Margin) → 8 < input_count exact → IsLevelAnswer aim exact approx m → IsBoundAnswer aim exact approx m
bound_answer aim exact approx (Over x) many answer = record { width = answer.width; exceeds = answer.exceeds; first = λ few. absurd (omega (arith, many, few)) }
bound_answer aim exact approx Within many answer = answer
bound_answer aim exact approx (Spent s) many answer = answer
