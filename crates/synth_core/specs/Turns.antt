-- What a turn of the search comes to. Of the two nets one is the exact net, and the chain begins with the
-- other.
use Rattle.std.specs.Prelude.{◌≡◌, ◌<◌, Bool, List, option_map}
use Rattle.semantics.specs.Net.{NetValue, IsSmall, literal_count}
use Rattle.net_errors.specs.Compared.{NetPair}
use Rattle.chain_semantics.specs.Simplification.{IsBeginning, IsInSimplificationFrom}
use Rattle.proof_semantics.specs.declared.constraint.Constraint.{Constraint}
use Rattle.job_semantics.specs.Shrinking.{IsShrinking}
use Rattle.level_answers.specs.Exceeds.{spent_value}
use Rattle.synth_core.specs.declared.turn.Turn.{Turn}
use Rattle.synth_core.specs.declared.turn.Turn.TheVariants.{Next, End}

-- the chain may begin with its net, which is small, and the judge is for the exact net
pub record IsReadyFor (aim : Constraint) (nets : NetPair) (judged : NetValue) : Type 0 where
  pub beginning : IsBeginning aim.metric nets.exact aim.bound nets.approx
  pub small : IsSmall nets.approx
  pub judge : judged ≡ nets.exact

-- M is the member of the chain behind N
pub record IsNextMember (aim : Constraint) (nets : NetPair) (N M : NetValue) : Type 0 where
  pub member : IsInSimplificationFrom aim.metric nets.exact aim.bound nets.approx M
  pub fewer : literal_count M < literal_count N

abbrev pub IsTurn : Constraint → NetPair → NetValue → List (List Bool) → Turn → Type 0
IsTurn aim nets N vectors (Next M) = IsNextMember aim nets N M
IsTurn aim nets N vectors (End spent) = IsShrinking aim nets.exact nets.approx
    (record { net = N; pool = vectors; spent = option_map spent_value spent })
