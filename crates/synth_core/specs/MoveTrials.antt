-- What is found out about one move of a net, which is made in a copy of it.
use Rattle.std.specs.Prelude.{◌≡◌, ◌<◌, Bool, List}
use Rattle.semantics.specs.declared.limits.TheConstants.{FEW_INPUTS}
use Rattle.semantics.specs.Net.{NetValue, input_count}
use Rattle.semantics.specs.Error.{IsWithin}
use Rattle.net_errors.specs.Compared.{NetPair}
use Rattle.proof_semantics.specs.declared.constraint.Constraint.{Constraint}
use Rattle.chain_semantics.specs.declared.moves.Move.{Move}
use Rattle.chain_semantics.specs.Moves.{moved}
use Rattle.chain_semantics.specs.Simplification.{IsAllowedMove}
use Rattle.level_answers.specs.declared.margin.Margin.{Margin}
use Rattle.level_answers.specs.declared.margin.Margin.TheVariants.{Over, Within, Spent}
use Rattle.level_answers.specs.Exceeds.{IsSpentOn}
use Rattle.level_answers.specs.Levels.{IsExceededAt}

-- the error of M exceeds the bound at this vector; this never happens with at most eight inputs, where
-- nothing is asked
pub record IsFoundOver (aim : Constraint) (exact M : NetValue) (x : List Bool) : Type 0 where
  pub many : FEW_INPUTS < input_count exact
  pub exceeded : IsExceededAt aim exact M x

abbrev pub IsJudged : Constraint → NetValue → NetValue → Margin → Type 0
IsJudged aim exact M (Over x) = IsFoundOver aim exact M x
IsJudged aim exact M Within = IsWithin aim.metric exact aim.bound M
IsJudged aim exact M (Spent s) = IsSpentOn aim exact M s

-- the move of the approximate net breaks the bound at this vector, and S is that net as it was
pub record IsTakenBack (aim : Constraint) (nets : NetPair) (move : Move) (S : NetValue)
    (x : List Bool) : Type 0 where
  pub over : IsFoundOver aim nets.exact (moved nets.approx move) x
  pub back : S ≡ nets.approx

-- the move of the approximate net is allowed, and M is the moved net
pub record IsAllowedTo (aim : Constraint) (nets : NetPair) (move : Move) (M : NetValue) : Type 0 where
  pub allowed : IsAllowedMove aim.metric nets.exact aim.bound nets.approx move
  pub net : M ≡ moved nets.approx move

-- what is found out about a move of the approximate net, and S, the copy of that net in which it was tried
abbrev pub IsTrial : Constraint → NetPair → Move → NetValue → Margin → Type 0
IsTrial aim nets move S (Over x) = IsTakenBack aim nets move S x
IsTrial aim nets move S Within = IsAllowedTo aim nets move S
IsTrial aim nets move S (Spent s) = IsSpentOn aim nets.exact (moved nets.approx move) s
