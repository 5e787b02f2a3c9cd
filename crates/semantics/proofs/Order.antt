-- Tables in order are acyclic.
use Rattle.std.proofs.Common.{ℕ, zero, suc, ◌+◌, ◌-◌, ◌<◌, List, length, inl, inr, arith}
use Rattle.std.proofs.lemmas.Bool.{cases_lt}
use Rattle.std.proofs.lemmas.List.Elements.{recursion_from_All}
use Rattle.semantics.specs.Net.{TableValue, table_at, IsGroundedIn, IsAcyclic, IsInOrder}

-- the first k tables need at most k steps
pub IsGroundedIn-in_order : (n : ℕ) (tables : List TableValue) → IsInOrder n tables → (k s : ℕ) → s < n + k → s < n + length tables → IsGroundedIn n tables k s
IsGroundedIn-in_order n tables h zero s below within = omega arith
IsGroundedIn-in_order n tables h (suc k) s below within =
    elim (cases_lt s n) [
      | inl low ↦ inl low
      | inr high ↦
          let pins = (table_at tables (s - n)).pins in
          inr (
            within,
            recursion_from_All (IsGroundedIn n tables k) pins
                (λ j d inside.
                let earlier = h (s - n) (omega arith) j d inside in
                IsGroundedIn-in_order n tables h k _ (omega (arith, earlier)) (omega (arith, earlier))),
          )
    ]

pub IsAcyclic-in_order : (n : ℕ) (tables : List TableValue) → IsInOrder n tables → IsAcyclic n tables
IsAcyclic-in_order n tables h i inside = IsGroundedIn-in_order n tables h (length tables) (n + i) (omega arith) (omega arith)
