-- A chain has one end, since the move after each member is the first allowed one.
use Rattle.std.proofs.Common.{◌≡◌, ◌⊎◌, ◌<◌, List, [], ◌∷◌, ◌++◌, length, All, refl, sym, subst, ◌∙◌, inl, inr, arith}
use Rattle.std.specs.List.{AllByRecursion}
use Rattle.std.proofs.lemmas.List.{length-append, get_or_at}
use Rattle.chain_semantics.specs.Chain.{IsFirstAllowed, IsInChain, IsChainEnd}
use Rattle.chain_semantics.specs.Chain.IsInChain.{first, next}

-- two splits of one list, each at an allowed move after moves that are not, are at the same move
firsts_agree : {M : Type 0} (Allowed : M → Type 0) (b c : List M) (m n : M) (x y : List M) → b ++ m ∷ x ≡ c ++ n ∷ y
    → AllByRecursion (λ k. ¬ Allowed k) b → AllByRecursion (λ k. ¬ Allowed k) c → Allowed m → Allowed n → m ≡ n
firsts_agree Allowed [] [] m n x y e no_b no_c at_m at_n = cc e
firsts_agree Allowed [] (d ∷ c) m n x y e no_b no_c at_m at_n =
    let same : m ≡ d = cc e in absurd (no_c.0 (subst Allowed same at_m))
firsts_agree Allowed (d ∷ b) [] m n x y e no_b no_c at_m at_n =
    let same : n ≡ d = cc e in absurd (no_b.0 (subst Allowed same at_n))
firsts_agree Allowed (d ∷ b) (k ∷ c) m n x y e no_b no_c at_m at_n =
    let rest : b ++ m ∷ x ≡ c ++ n ∷ y = cc e in
    firsts_agree Allowed b c m n x y rest no_b.1 no_c.1 at_m at_n

-- a list of moves has one first allowed move
pub IsFirstAllowed-only : {M : Type 0} (Allowed : M → Type 0) (moves : List M) (m n : M)
    → IsFirstAllowed Allowed moves m → IsFirstAllowed Allowed moves n → m ≡ n
IsFirstAllowed-only Allowed moves m n f g =
    firsts_agree Allowed f.before g.before m n f.after g.after (sym f.stands ∙ g.stands) f.none_before g.none_before f.allowed g.allowed

none_at : {M : Type 0} (Allowed : M → Type 0) (before : List M) (m : M) (after : List M)
    → AllByRecursion (λ k. ¬ Allowed k) (before ++ m ∷ after) → ¬ Allowed m
none_at Allowed [] m after none = none.0
none_at Allowed (k ∷ before) m after none = none_at Allowed before m after none.1

-- where no move is allowed, none is the first allowed
pub IsFirstAllowed-none : {M : Type 0} (Allowed : M → Type 0) (moves : List M) (m : M)
    → AllByRecursion (λ k. ¬ Allowed k) moves → ¬ IsFirstAllowed Allowed moves m
IsFirstAllowed-none Allowed moves m none f =
    none_at Allowed f.before m f.after (subst (AllByRecursion (λ k. ¬ Allowed k)) f.stands none) f.allowed

-- what holds of all moves holds of the first allowed
pub first_allowed_at : {M : Type 0} (Allowed P : M → Type 0) (moves : List M) (move : M) → IsFirstAllowed Allowed moves move → All P moves → P move
first_allowed_at Allowed P moves move h all =
    let whole : All P (h.before ++ move ∷ h.after) = subst (All P) h.stands all in
    let within : length h.before < length (h.before ++ move ∷ h.after) = omega (arith, length-append h.before (move ∷ h.after)) in
    subst P (get_or_at h.before move h.after move (length h.before) refl) (whole (length h.before) move within)

-- where a step has one outcome
abbrev pub HasOneStep : {S M : Type 0} → (S → M → S → Type 0) → Type 0
HasOneStep {S = S} {M = M} Step = (s : S) (move : M) (a b : S) → Step s move a → Step s move b → a ≡ b

module _ {S M : Type 0} (moves : S → List M) (Allowed : S → M → Type 0) (Step : S → M → S → Type 0) where
  -- a chain goes on from its start: the first allowed move there, the step, and the chain after it
  record GoesOn (start end : S) : Type 0 where
    move : M
    is_first : IsFirstAllowed (Allowed start) (moves start) move
    after : S
    step : Step start move after
    rest : IsInChain moves Allowed Step after end

  -- one step from the start
  goes_one : (start s t : S) (move : M) → s ≡ start → IsFirstAllowed (Allowed s) (moves s) move → Step s move t → GoesOn start t
  goes_one start s t move e f step = subst (λ u. GoesOn u t) e (record { move = move; is_first = f; after = t; step = step; rest = first })

  -- a chain from the front: it is still at its start, or it goes on from there
  from_front : (start end : S) → IsInChain moves Allowed Step start end → (end ≡ start) ⊎ GoesOn start end
  from_front start end first = inl refl
  from_front start end (next s t move h f step) =
      elim (from_front start s h) [
        | inl e ↦ inr (goes_one start s t move e f step)
        | inr g ↦ inr (record { move = g.move; is_first = g.is_first; after = g.after; step = g.step; rest = next s t move g.rest f step })
      ]

  -- the chain that goes on with another step is the chain after that step
  other_step : HasOneStep Step → (s t b : S) (move : M) → IsFirstAllowed (Allowed s) (moves s) move → Step s move t → GoesOn s b → IsInChain moves Allowed Step t b
  other_step one s t b move f step g =
      let same : g.move ≡ move = IsFirstAllowed-only (Allowed s) (moves s) g.move move g.is_first f in
      let at : g.after ≡ t = one s move g.after t (subst (λ m. Step s m g.after) same g.step) step in
      subst (λ u. IsInChain moves Allowed Step u b) at g.rest

  -- an end is reached from each member of the chain
  pub IsInChain-end : HasOneStep Step → (start a b : S) → IsInChain moves Allowed Step start a → IsChainEnd moves Allowed Step start b → IsInChain moves Allowed Step a b
  IsInChain-end one start a b first end = end.member
  IsInChain-end one start a b (next s t move h f step) end =
      elim (from_front s b (IsInChain-end one start s b h end)) [
        | inl e ↦ absurd (IsFirstAllowed-none (Allowed s) (moves s) move (subst (λ u. AllByRecursion (λ k. ¬ Allowed u k) (moves u)) e end.none_allowed) f)
        | inr g ↦ other_step one s t b move f step g
      ]

  -- a chain has one end
  pub IsChainEnd-only : HasOneStep Step → (start a b : S) → IsChainEnd moves Allowed Step start a → IsChainEnd moves Allowed Step start b → a ≡ b
  IsChainEnd-only one start a b end other =
      elim (from_front a b (IsInChain-end one start a b end.member other)) [
        | inl e ↦ sym e
        | inr g ↦ absurd (IsFirstAllowed-none (Allowed a) (moves a) g.move end.none_allowed g.is_first)
      ]
