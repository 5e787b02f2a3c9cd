-- Two nets that are compared.
use Rattle.semantics.specs.Net.{NetValue}

-- a net, and one that may be judged against it
pub record NetPair : Type 0 where
  pub exact : NetValue
  pub approx : NetValue
