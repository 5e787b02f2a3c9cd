-- What every vector tells.
use Rattle.std.proofs.Common.{ℕ, Bool, None, List, ap}
use Rattle.semantics.specs.Net.{NetValue, input_count}
use Rattle.semantics.specs.declared.metric.Metric.{Metric}
use Rattle.semantics.specs.Error.{net_error, IsWithin}
use Rattle.semantics.specs.Vectors.{IsFirstGreatestAt}
use Rattle.proof_semantics.specs.declared.constraint.Constraint.{Constraint}
use Rattle.proof_semantics.specs.Logs.{LogItem}
use Rattle.proof_semantics.specs.Queries.{IsNever, IsMaximum}
use Rattle.lane_bits.specs.Patterns.{PatternSet}
use Rattle.lane_nets.specs.Lanes.{ReferenceValue}
use Rattle.every_vector.specs.Vectors.{IsEveryVectorHeld, IsTried}

-- where no vector of all was found, no error exceeds the bound
pub within_every : (aim : Constraint) (N M : NetValue) (r : ReferenceValue) → IsEveryVectorHeld N r → IsTried aim N M r.patterns.vectors None → IsWithin aim.metric N aim.bound M
within_every aim N M r held none = none (ap (λ (s : PatternSet). s.vectors) held.all)

-- the first vector with the greatest error, and the log
pub maximum_of : (metric : Metric) (N M : NetValue) (most : ℕ) (x : List Bool) (log : List LogItem) → IsFirstGreatestAt (input_count N) (net_error metric N M) most x → IsNever metric N M most log
    → IsMaximum metric N M (record { error = most; witness = x; log = log })
maximum_of metric N M most x log best never = record { width = best.width; attained = best.attained; never = never; first = λ few. best }
