-- A text that is checked against a formula as it is read.
use Rattle.std.specs.Prelude.{ℕ, Bool, if◌then◌else◌}
use Rattle.semantics.specs.Texts.{Bytes}
use Rattle.proof_semantics.specs.Formula.{Formula}

-- the formula, the text so far, and the number of bytes that are wanted next
pub record TextCheck : Type 0 where
  pub formula : Formula
  pub text : Bytes
  pub room : ℕ

-- nothing more is wanted of a text that is wrong
abbrev pub room_at : Bool → ℕ
room_at is_right = if is_right then 4096 else 0
