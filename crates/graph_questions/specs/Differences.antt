-- Where a change of a net gives its signal another value.
use Rattle.std.specs.Prelude.{ℕ, Bool, not, if◌then◌else◌, List, map}
use Rattle.semantics.specs.Net.{NetValue}
use Rattle.net_search.specs.declared.judging.Change.{Change}
use Rattle.net_search.specs.Judging.{signal_value}
use Rattle.aig_core.specs.Graph.{GraphValue, IsLiteralOf, literal_value}
use Rattle.aig_core.specs.Grown.{HasValue}

-- exactly one of the two is true
abbrev pub differ : Bool → Bool → Bool
differ a b = if a then not b else b

-- r is true where exactly one of a and b is
pub record IsExclusiveOf (g : GraphValue) (a b r : ℕ) : Type 0 where
  pub within : IsLiteralOf g r
  pub is : HasValue g r (λ x v. differ (literal_value v a) (literal_value v b))

-- l is true where the changed signal has different values in the two nets, where each input has the value of
-- its literal
pub record IsDifferenceOf (g : GraphValue) (change : Change) (after : NetValue) (inputs : List ℕ)
    (l : ℕ) : Type 0 where
  pub within : IsLiteralOf g l
  pub is : HasValue g l (λ x v. differ
      (signal_value change.before.now (map (literal_value v) inputs) change.signal)
      (signal_value after (map (literal_value v) inputs) change.signal))
