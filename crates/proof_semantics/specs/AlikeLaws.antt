-- The laws about alike signals, each the contract of a function without parameters.
use Rattle.std.specs.Prelude.{◌≡◌, ◌⊎◌, ◌↔◌, ℕ, Bool, List}
use Rattle.semantics.specs.Net.{TableValue, IsAcyclic}
use Rattle.semantics.specs.Value.{value_of}
use Rattle.proof_semantics.specs.Alike.{HaveSameForm, IsAlike}

-- Alike signals have the same value at every input vector. To be alike is to be the same signal, or to be
-- tables of the same form over alike pins; and it is an equivalence.
pub record AlikeLaw : Type 0 where
  pub values : (n : ℕ) (tables : List TableValue) (s u : ℕ) → IsAcyclic n tables → IsAlike n tables s u
      → (x : List Bool) → value_of n tables x s ≡ value_of n tables x u
  pub form : (n : ℕ) (tables : List TableValue) (s u : ℕ)
      → IsAlike n tables s u ↔ ((s ≡ u) ⊎ HaveSameForm n tables (IsAlike n tables) s u)
  pub itself : (n : ℕ) (tables : List TableValue) (s : ℕ) → IsAlike n tables s s
  pub turned : (n : ℕ) (tables : List TableValue) (s u : ℕ) → IsAlike n tables s u → IsAlike n tables u s
  pub joined : (n : ℕ) (tables : List TableValue) (s t u : ℕ) → IsAlike n tables s t → IsAlike n tables t u
      → IsAlike n tables s u
