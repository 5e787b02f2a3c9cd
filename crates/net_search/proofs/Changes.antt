-- Where a change of a net that keeps the bound breaks it.
use Rattle.std.proofs.Common.{◌≡◌, ◌≢◌, ℕ, ◌<◌, Bool, List, length, ap, ◌∙◌, arith}
use Rattle.semantics.specs.Net.{NetValue, input_count}
use Rattle.semantics.specs.Value.{outputs_of}
use Rattle.semantics.specs.Error.{error_of, net_error, IsWithin}
use Rattle.semantics.specs.declared.metric.Metric.{Metric}
use Rattle.net_search.specs.Judging.{signal_value, IsChange}

-- where the changed signal has the same value in both nets, the error is the same
pub change-error : (metric : Metric) (exact before after : NetValue) (s : ℕ) (x : List Bool) → IsChange before after s → length x ≡ input_count after
    → signal_value before x s ≡ signal_value after x s → net_error metric exact before x ≡ net_error metric exact after x
unfolding net_error
change-error metric exact before after s x change width same = ap (error_of metric (outputs_of exact x)) (change.same x width same)

-- where the error after the change exceeds the bound, the signal has different values in the two nets
pub change-differs : (metric : Metric) (exact before after : NetValue) (bound s : ℕ) (x : List Bool) → IsWithin metric exact bound before → IsChange before after s
    → input_count exact ≡ input_count after → length x ≡ input_count exact → bound < net_error metric exact after x → signal_value before x s ≢ signal_value after x s
change-differs metric exact before after bound s x within change inputs width over same =
    omega (arith, within x width, change-error metric exact before after s x change (width ∙ inputs) same, over)
