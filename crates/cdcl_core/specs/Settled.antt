-- Clauses under literals that are true: what complete propagation leaves of them.
use Rattle.std.specs.Prelude.{ℤ, neg_ℤ, ◌≢◌, ◌⊎◌, List, All}
use Rattle.std.specs.List.{Contains}
use Rattle.proof_semantics.specs.Clauses.{Clause}

pub record HasTrue (T : ℤ → Type 0) (C : Clause) : Type 0 where
  pub literal : ℤ
  pub inside : Contains C literal
  pub holds : T literal

pub record IsOpen (T : ℤ → Type 0) (l : ℤ) : Type 0 where
  pub not_true : T l → ⊥
  pub not_false : T (neg_ℤ l) → ⊥

pub record HasTwoOpen (T : ℤ → Type 0) (C : Clause) : Type 0 where
  pub one : ℤ
  pub other : ℤ
  pub one_inside : Contains C one
  pub other_inside : Contains C other
  pub one_open : IsOpen T one
  pub other_open : IsOpen T other
  pub differ : one ≢ other

-- a true literal, or two different open literals
abbrev pub IsSettledAt : (ℤ → Type 0) → Clause → Type 0
IsSettledAt T C = HasTrue T C ⊎ HasTwoOpen T C

abbrev pub IsSettled : (ℤ → Type 0) → List Clause → Type 0
IsSettled T clauses = All (IsSettledAt T) clauses

abbrev pub IsFalse : (ℤ → Type 0) → Clause → Type 0
IsFalse T C = All (λ a. T (neg_ℤ a)) C
