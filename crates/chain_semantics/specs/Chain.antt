-- Chains of simplifications, over any states S, any moves M of a state, any rule that allows a move, and any
-- step after it. Source: SALSA.
use Rattle.std.specs.Prelude.{◌≡◌, ℕ, suc, List, ◌∷◌, ◌++◌}
use Rattle.std.specs.List.{AllByRecursion}

-- the move is allowed, and no move before it is
pub record IsFirstAllowed {M : Type 0} (Allowed : M → Type 0) (moves : List M) (move : M) : Type 0 where
  pub before : List M
  pub after : List M
  pub stands : moves ≡ before ++ move ∷ after
  pub none_before : AllByRecursion (λ m. ¬ Allowed m) before
  pub allowed : Allowed move

-- the member after a state is what `Step` makes of the state and its first allowed move
pub data IsInChain {S M : Type 0} (moves : S → List M) (Allowed : S → M → Type 0) (Step : S → M → S → Type 0)
    (start : S) : S → Type 0 where
  first : IsInChain moves Allowed Step start start
  next : (s t : S) (move : M) → IsInChain moves Allowed Step start s
      → IsFirstAllowed (Allowed s) (moves s) move → Step s move t
      → IsInChain moves Allowed Step start t

-- the number of steps from the start to a member
abbrev pub step_count : {S M : Type 0} {moves : S → List M} {Allowed : S → M → Type 0}
    {Step : S → M → S → Type 0} {start : S} (s : S) → IsInChain moves Allowed Step start s → ℕ
step_count start first = 0
step_count end (next s t move h f step) = suc (step_count s h)

pub record IsChainEnd {S M : Type 0} (moves : S → List M) (Allowed : S → M → Type 0)
    (Step : S → M → S → Type 0) (start end : S) : Type 0 where
  pub member : IsInChain moves Allowed Step start end
  pub none_allowed : AllByRecursion (λ m. ¬ Allowed end m) (moves end)
