-- Outputs that are bound at the use of a model.
use Rattle.std.specs.Prelude.{ℕ, Option}
use Rattle.semantics.specs.Texts.{Bytes}

-- the slot of an output inside the model that is used, and the name that is bound to it
pub record OutputPlan : Type 0 where
  pub slot : Option ℕ
  pub actual : Bytes
