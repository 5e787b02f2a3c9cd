-- Hierarchies that were read.
use Rattle.std.specs.Prelude.{◌≡◌, ℕ, ◌^◌, ◌<◌, Ok}
use Rattle.semantics.specs.Texts.{Bytes}
use Rattle.hierarchy_semantics.specs.Models.{Hierarchy}
use Rattle.hierarchy_semantics.specs.Reading.{hier_reading}

-- some text of fewer than 2^31 bytes is read as this hierarchy
pub record IsReading (h : Hierarchy) : Type 0 where
  pub text : Bytes
  pub most : ℕ
  pub few : most < 2 ^ 31
  pub read : hier_reading text most ≡ Ok h
