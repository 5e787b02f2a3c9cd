-- What a text in memory holds of a longer one.
use Rattle.std.specs.Prelude.{ℕ}
use Rattle.semantics.specs.Texts.{Bytes}

pub record FrontValue : Type 0 where
  pub bytes : Bytes
  pub limit : ℕ
